use Rattle.std.proofs.Common.{◌≡◌, take, map}
use Rattle.std.specs.List.{zip}
use Rattle.ly_pack.specs.Combs.{slots_from}
use Rattle.ly_tables.specs.Private.Meaning.{slot_meant}
use Rattle.ly_tables.specs.Ranges.{width_of}
use Rattle.ly_tables.proofs.row_meaning.slots.Given as goal

-- those so far
abbrev pub invariant-loop-number : goal.invariant-loop-number
invariant-loop-number g l = slots_from l.out.items
    ≡ map (λ p. slot_meant (width_of l.version) (g.E.CombEntry.meant l.version) p.0 p.1) (zip (take l.number l.entries)
    (take l.number l.rows))
