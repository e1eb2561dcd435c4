use Rattle.std.proofs.Common.{◌≡◌, ◌-◌, ◌≤◌, [], length}
use Rattle.ly_ere.specs.Private.Turns.{AreTurns, count_untaken, numbers_from}
use Rattle.ly_ere.proofs.turns.in_turn.Given as goal

-- those from here on aren't settled yet
abbrev pub invariant-loop-number : goal.invariant-loop-number
invariant-loop-number l = record {
  within : l.number ≤ length l.uses;
  same : l.turns.uses.now ≡ l.uses;
  turns : AreTurns l.turns (numbers_from l.number (length l.uses - l.number));
}

abbrev pub invariant-loop-number-2 : goal.invariant-loop-number-2
invariant-loop-number-2 l = record {
  same : l.turns.uses.now ≡ l.uses;
  turns : AreTurns l.turns [];
}

abbrev pub decreases-loop-number-2 : goal.decreases-loop-number-2
decreases-loop-number-2 l = count_untaken l.turns.taken.items
