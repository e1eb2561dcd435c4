use Rattle.std.proofs.Common.{◌∙◌, ◌+◌, ◌++◌, [], ◌∷◌, ap, arith, subst, sym, Contains}
use Rattle.std.proofs.lemmas.Option.{slice_get_within}
use Rattle.std.proofs.lemmas.Result.{on_ok_weaker}
use Rattle.ly_conflicts.specs.Private.Grouping.{AreGroupsBelow, HasKey}
use Rattle.ly_conflicts.specs.Private.Keys.{key_from}
use Rattle.ly_conflicts.proofs.GroupLemmas.{has_key, joined, on_both, opened}
use Rattle.ly_conflicts.proofs.groups.Groups.add.Goals as goal

pub join-requires : goal.join-requires
join-requires c = omega (
  arith,
  c.requires,
  slice_get_within c.args.self.now.keys c.in-Some.place c.of-key.result
      c.in-Some.ensures,
)

pub returns-in-Some : goal.returns-in-Some
returns-in-Some c = on_ok_weaker c.join.result (λ joins r is sought was.
    subst (λ keys. AreGroupsBelow r (c.args.index + 1) keys c.join.new.self.list.items) (sym c.join.ensures.keys)
    (joined r c.args.index c.args.self.now.keys c.args.self.now.list.items was c.in-Some.place c.of-key.result
    c.join.new.self.list.items c.in-Some.ensures
    (subst (λ k. HasKey r k c.args.index) (sym c.of-key.ensures)
    (has_key r c.args.index c.args.conflict.now c.args.example is sought)) joins)) c.join.ensures.list

pub returns-in-None : goal.returns-in-None
returns-in-None c = on_both c.open.result c.open.ensures.list c.open.ensures.keys (λ opens keys r is sought was.
    let key = key_from c.args.conflict.now c.args.example in
    subst (λ ks. AreGroupsBelow r (c.args.index + 1) ks c.open.new.self.list.items)
    (sym (keys ∙ ap (λ k. c.args.self.now.keys ++ k ∷ []) c.of-key.ensures))
    (opened r c.args.index c.args.self.now.keys c.args.self.now.list.items was c.args.conflict.now c.args.example
    c.open.new.self.list.items is sought
    (subst (λ k. Contains c.args.self.now.keys k → ⊥) c.of-key.ensures c.in-None.ensures) opens))
