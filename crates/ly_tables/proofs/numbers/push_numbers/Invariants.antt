use Rattle.std.proofs.Common.{◌≡◌, ◌++◌, All, length}
use Rattle.std.specs.List.{flat_map}
use Rattle.ly_tables.specs.Ranges.{width_of}
use Rattle.ly_tables.specs.Spelling.{number}
use Rattle.ly_tables.proofs.numbers.push_numbers.Given as goal

-- the items that are left have numbers, and what is written and their numbers are all
abbrev pub invariant-loop-left : goal.invariant-loop-left
invariant-loop-left g l = All (g.N.Numbering.has l.version) l.left
    × (l.out.items ++ flat_map (λ x. number (width_of l.version) (g.N.Numbering.code l.version x)) l.left
    ≡ l.initial.out.items ++ flat_map (λ x. number (width_of l.version) (g.N.Numbering.code l.version x)) l.items)

abbrev pub decreases-loop-left : goal.decreases-loop-left
decreases-loop-left g l = length l.left
