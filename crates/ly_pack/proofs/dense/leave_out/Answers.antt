use Rattle.std.proofs.Common.{◌∙◌, ◌<◌, Some, All, ap, not, subst, sym}
use Rattle.std.proofs.lemmas.List.Elements.{All-filter}
use Rattle.std.proofs.lemmas.List.Kept.{AllPairs-filter}
use Rattle.ly_pack.specs.Defaults.{is_by}
use Rattle.ly_pack.specs.Private.Tally.{left_out}
use Rattle.ly_pack.specs.Rows.{AreRising, IsDense, entry_in}
use Rattle.ly_pack.specs.Values.{action_from}
use Rattle.ly_pack.specs.declared.action.TableAction as code
use Rattle.ly_pack.specs.declared.cell.Cell.{Cell}
use Rattle.ly_pack.proofs.CellLemmas.{entry_in-filter}
use Rattle.ly_pack.proofs.DenseLemmas.{dense_entry-unwritten, dense_entry-written, dense_still, entry_read}
use Rattle.ly_pack.proofs.DenseLemmas.{is_dense-written, read_rising, read_within}
use Rattle.ly_pack.proofs.TallyLemmas.{kept_out}
use Rattle.ly_pack.proofs.dense.leave_out.Goals as goal

pub invariant_of-actions : goal.invariant_of-actions
invariant_of-actions c = subst IsDense (sym (dense_still c.actions.inside.width c.actions.inside.lists.items
    c.args.row.0 c.index_mut.result.now c.args.actions.now c.actions.view_is c.actions.invariant c.requires
    c.index_mut.ensures.value c.leave_out_own.new.row c.in_err-leave_out_own.ensures.err ∙ sym c.actions.view_is))
    c.actions.invariant

pub invariant_of-actions-2 : goal.invariant_of-actions-2
invariant_of-actions-2 c =
    let p = c.args.rule.0 in
    let old = c.index_mut.result.now in
    let lists = c.actions.inside.lists.items in
    let value = c.index_mut.ensures.value in
    let is = c.in_ok-leave_out_own.ensures.ok in
    is_dense-written c.actions.inside.width lists c.args.row.0 old c.args.actions.now c.actions.view_is
    c.actions.invariant c.requires value c.leave_out_own.new.row
    (subst AreRising (sym is) (AllPairs-filter (λ (a b : Cell code.TableAction). a.column < b.column)
    (λ x. not (is_by p (Some (action_from x.entry)))) old.value.items
    (read_rising c.actions.inside.width lists c.args.row.0 old c.args.actions.now c.actions.view_is c.actions.invariant
    c.requires value)))
    (subst (All (λ (x : Cell code.TableAction). x.column < c.actions.inside.width)) (sym is)
    (All-filter (λ x. not (is_by p (Some (action_from x.entry))))
    (λ (x : Cell code.TableAction). x.column < c.actions.inside.width) old.value.items
    (read_within c.actions.inside.width lists c.args.row.0 old c.args.actions.now c.actions.view_is c.actions.invariant
    c.requires value)))

pub returns-clause-row : goal.returns-clause-row
returns-clause-row c t =
    let p = c.args.rule.0 in
    let old = c.index_mut.result.now in
    let lists = c.actions.inside.lists.items in
    let value = c.index_mut.ensures.value in
    dense_entry-written c.actions.inside.width lists c.args.row.0 old c.args.actions.now c.actions.view_is
    c.actions.invariant c.requires value c.leave_out_own.new.row t
    ∙ ap (λ cs. entry_in cs t) c.in_ok-leave_out_own.ensures.ok
    ∙ entry_in-filter (λ a. not (is_by p (Some (action_from a)))) old.value.items
    (read_rising c.actions.inside.width lists c.args.row.0 old c.args.actions.now c.actions.view_is c.actions.invariant
    c.requires value) t
    ∙ kept_out p (entry_in old.value.items t)
    ∙ ap (left_out p) (entry_read c.actions.inside.width lists c.args.row.0 old c.args.actions.now c.actions.view_is
    c.actions.invariant c.requires value t)

pub returns-clause-others : goal.returns-clause-others
returns-clause-others c r t other = dense_entry-unwritten c.actions.inside.width c.actions.inside.lists.items
    c.args.row.0 c.index_mut.result.now c.args.actions.now c.actions.view_is c.actions.invariant c.requires
    c.index_mut.ensures.value c.leave_out_own.new.row r t other

pub returns-in_err-leave_out_own-clause-others : goal.returns-in_err-leave_out_own-clause-others
returns-in_err-leave_out_own-clause-others c r t other = dense_entry-unwritten c.actions.inside.width
    c.actions.inside.lists.items c.args.row.0 c.index_mut.result.now c.args.actions.now c.actions.view_is
    c.actions.invariant c.requires c.index_mut.ensures.value c.leave_out_own.new.row r t other
