use Rattle.std.proofs.Common.{ℕ, List, ap, ap₂, arith, length-set, sym, ◌∙◌}
use Rattle.ly_base.specs.SparseSet.{Chosen}
use Rattle.ly_base.proofs.SparseSetLemmas.{members_more, placed_more, room_of, size_of}
use Rattle.ly_base.proofs.sparse_set.SparseSet.insert.Goals as goal

pub index_mut-requires : goal.index_mut-requires
index_mut-requires c =
    let room = room_of c.self.inside c.args.self.now c.args.number c.self.invariant c.self.view_is c.requires
    (sym c.if-contains.ensures) in
    omega (arith, room)

pub overflow_cast-self-inside : goal.overflow_cast-self-inside
overflow_cast-self-inside c = omega (
  arith,
  size_of c.self.inside c.args.self.now c.args.number c.self.invariant c.self.view_is
      (omega (arith, c.ranges.number.fits)) (sym c.if-contains.ensures),
)

pub invariant_of-self : goal.invariant_of-self
invariant_of-self c =
    let room = room_of c.self.inside c.args.self.now c.args.number c.self.invariant c.self.view_is c.requires
    (sym c.if-contains.ensures) in
    placed_more c.self.inside.slots.items c.self.inside.places.items c.self.inside.size c.args.number c.self.invariant
    (omega (arith, ap (λ (s : Chosen). s.below) c.self.view_is)) (omega (arith, c.ranges.number.fits))
    (rw (ap (λ (s : Chosen). s.members) c.self.view_is) (sym c.if-contains.ensures)) room

pub returns-clause-added : goal.returns-clause-added
returns-clause-added c =
    let room = room_of c.self.inside c.args.self.now c.args.number c.self.invariant c.self.view_is c.requires
    (sym c.if-contains.ensures) in
    let make : ℕ → List ℕ → Chosen = λ below members. record { below = below; members = members } in
    ap₂ make (length-set c.self.inside.places.items c.args.number c.self.inside.size
    ∙ ap (λ (s : Chosen). s.below) c.self.view_is)
    (members_more c.self.inside.slots.items c.args.self.now.members c.self.inside.size c.args.number
    (ap (λ (s : Chosen). s.members) c.self.view_is) room (sym c.if-contains.ensures))
