use Rattle.std.proofs.Common.{ap, arith, sym, ◌∙◌, le-ltb}
use Rattle.ly_base.specs.SparseSet.{Chosen}
use Rattle.ly_base.proofs.SparseSetLemmas.{is_member, is_no_member}
use Rattle.ly_base.proofs.sparse_set.SparseSet.contains.Goals as goal

pub returns-then-place-self : goal.returns-then-place-self
returns-then-place-self c
    = is_member c.self.inside.slots.items c.self.inside.places.items c.args.self.now.members c.self.inside.size
    c.args.number c.index.result.now c.index-then-place-self.result.now
    c.self.invariant (ap (λ (s : Chosen). s.members) c.self.view_is)
    (omega (arith, ap (λ (s : Chosen). s.below) c.self.view_is)) c.index.ensures c.if-place-self.true
    c.index-then-place-self.ensures

pub returns-else-place-self : goal.returns-else-place-self
returns-else-place-self c =
    le-ltb c.index.result.now c.self.inside.size c.if-place-self.false
    ∙ sym (is_no_member c.self.inside.slots.items c.self.inside.places.items c.args.self.now.members c.self.inside.size
    c.args.number c.index.result.now
    c.self.invariant (ap (λ (s : Chosen). s.members) c.self.view_is)
    (omega (arith, ap (λ (s : Chosen). s.below) c.self.view_is)) c.index.ensures c.if-place-self.false)
