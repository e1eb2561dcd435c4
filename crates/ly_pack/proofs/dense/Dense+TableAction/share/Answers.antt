use Rattle.std.proofs.Common.{◌≡◌, ◌∙◌, ◌-◌, ◌<◌, ap, length, refl, subst, sym}
use Rattle.std.proofs.lemmas.List.{get_or_default}
use Rattle.ly_pack.specs.Rows.{Counted, IsDense}
use Rattle.ly_pack.specs.declared.action.TableAction.{TableAction}
use Rattle.ly_pack.proofs.DenseLemmas.{before_small, dense_still}
use Rattle.ly_pack.proofs.dense.Dense+TableAction.share.Goals as goal
use Rattle.ly_pack.proofs.dense.Dense+TableAction.share.Goals.{After-drop-index_mut}

-- the list of the row before has the same cells
same_cells : (c : After-drop-index_mut) → c.in_ok-self-inside.field-0.value.items
    ≡ c.index-then-row-gt0.result.now.value.items
same_cells c =
    let lists = c.self.inside.lists.items in
    let before = c.args.row.0 - 1 in
    let lt : before < length lists = before_small c.self.inside.width lists c.args.row.0 c.args.self.now
    c.self.view_is c.requires in
    let again : c.index-then-are_equal.result.now ≡ c.index.result.now = c.index-then-are_equal.ensures
    ∙ get_or_default lists before c.index-then-are_equal.result.now c.index.result.now lt
    ∙ sym c.index.ensures in
    let one = c.deref-then-row-gt0.ensures.value ∙ ap (λ v. v.items) c.deref.ensures in
    let other = c.deref-then-row-gt0-3.ensures.value ∙ ap (λ v. v.items) c.deref-then-row-gt0-2.ensures in
    ap (λ v. v.items) c.in_ok-self-inside.ensures.cases
    ∙ ap (λ (v : Counted TableAction). v.value.items) again
    ∙ sym one ∙ c.if-are_equal.ensures refl ∙ other

pub returns-in_ok-self-inside : goal.returns-in_ok-self-inside
returns-in_ok-self-inside c = dense_still c.self.inside.width c.self.inside.lists.items c.args.row.0
    c.index-then-row-gt0.result.now c.args.self.now c.self.view_is c.self.invariant c.requires
    c.index-then-row-gt0.ensures c.in_ok-self-inside.field-0 (same_cells c)

pub invariant_of-self : goal.invariant_of-self
invariant_of-self c = subst IsDense (sym (returns-in_ok-self-inside c ∙ sym c.self.view_is)) c.self.invariant
