use Rattle.std.proofs.Common.{◌≡◌, drop, set, true}
use Rattle.ly_ere.specs.Private.Turns.{AreTurns}
use Rattle.ly_ere.proofs.turns.Turns.take.Given as goal

-- those that waited and aren't settled yet pend
abbrev pub invariant-loop-sleeper : goal.invariant-loop-sleeper
invariant-loop-sleeper l = record {
  same : l.self.uses.now ≡ l.fn.self.uses.now;
  taken : l.self.taken.items ≡ set l.fn.self.taken.items l.number true;
  turns : AreTurns l.self (drop l.sleeper-index l.sleeper-items);
}
