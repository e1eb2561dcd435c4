use Rattle.std.proofs.Common.{◌≡◌, ◌∷◌, ◌++◌, Some}
use Rattle.std.specs.Prelude.{flat_map}
use Rattle.std.specs.List.{range_with_len}
use Rattle.ly_subset.specs.Automaton.{rule_of}
use Rattle.ly_minim.specs.Private.Signature.{block_after, block_of, marked}
use Rattle.ly_minim.proofs.signature.signature.Given as goal

-- the blocks of the classes before this one are there
abbrev pub invariant-loop-class : goal.invariant-loop-class
invariant-loop-class l = l.key.items ≡ (block_of l.of l.state ∷ marked (rule_of l.dfa (Some l.state)))
    ++ flat_map (λ c. marked (block_after l.dfa l.of l.state c)) (range_with_len 0 l.class)
