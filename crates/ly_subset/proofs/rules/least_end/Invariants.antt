use Rattle.std.proofs.Common.{take}
use Rattle.std.specs.Prelude.{option_map}
use Rattle.ly_subset.specs.Private.Members.{listed}
use Rattle.ly_subset.specs.Private.Rules.{HasEndIn}
use Rattle.ly_subset.specs.Subsets.{IsLeastRule}
use Rattle.ly_subset.proofs.rules.least_end.Given as goal

-- the least rule that ends at one of the positions so far
abbrev pub invariant-loop-place : goal.invariant-loop-place
invariant-loop-place l = IsLeastRule (HasEndIn l.nfa l.within (take l.place (listed l.positions))) (option_map
    (λ r. r.0) l.least)
