use Rattle.std.proofs.Common.{◌≤◌, length}
use Rattle.ly_yaccread.proofs.WordingLemmas.{GoesOn}
use Rattle.ly_yaccread.proofs.wording.words.Given as goal

-- the words so far and those of the rest are all words
abbrev pub invariant-loop-rest : goal.invariant-loop-rest
invariant-loop-rest l = record {
  goes_on : GoesOn l.text l.words.items l.part l.rest;
  within : length l.rest ≤ length l.text;
}

abbrev pub decreases-loop-rest : goal.decreases-loop-rest
decreases-loop-rest l = length l.rest
