use Rattle.std.proofs.Common.{◌≡◌, length, take}
use Rattle.ly_position.specs.Private.Starts.{AddsInEach, StaysWithin}
use Rattle.ly_position.proofs.starts.add_rule.Given as goal
use Rattle.ly_ere.specs.Winner.{active_of}

-- the entry is in for the first of the conditions
abbrev pub invariant-loop-condition : goal.invariant-loop-condition
invariant-loop-condition l = record {
  count : length l.roots ≡ length l.fn.roots;
  within : StaysWithin l.fn.roots l.roots l.entry;
  added : AddsInEach l.fn.roots l.roots l.conditions (take l.condition-index (active_of l.rule))
      l.rule.pattern.line_start l.entry;
}
