use Rattle.std.proofs.Common.{◌<◌, length}
use Rattle.std.specs.Prelude.{All}
use Rattle.ly_position.proofs.StartLemmas.{EachIn}
use Rattle.ly_position.proofs.starts.common_first.Given as goal

-- each number so far is in one of the lists
abbrev pub invariant-loop-number : goal.invariant-loop-number
invariant-loop-number l = record {
  within : All (λ i. i < length l.rules) l.numbers.items;
  others : All (λ i. i < length l.rules) l.others.items;
  all : EachIn l.number l.numbers.items l.others.items;
}
