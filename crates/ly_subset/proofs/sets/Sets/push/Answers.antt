use Rattle.std.proofs.Common.{subst, sym}
use Rattle.ly_base.specs.Keys.{IsAbsent}
use Rattle.ly_subset.specs.Private.Packed.{unpack}
use Rattle.ly_subset.proofs.SetLemmas.{other_row, packed_after}
use Rattle.ly_subset.proofs.sets.Sets.push.Goals as goal

pub push-requires : goal.push-requires
push-requires c = other_row c.self.inside.rows c.args.row.items
    (subst (λ sets. IsAbsent sets (unpack c.args.row.items)) (sym c.self.view_is) c.requires.absent)

pub invariant_of-self : goal.invariant_of-self
invariant_of-self c = packed_after c.push.result c.self.inside.rows c.push.new.self c.args.row.items
    c.push.ensures.added c.push.ensures.held c.self.invariant c.requires.packed
