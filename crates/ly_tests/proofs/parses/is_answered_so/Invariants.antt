use Rattle.std.proofs.Common.{◌≡◌}
use Rattle.ly_tests.proofs.parses.is_answered_so.Given as goal

-- a parser goes on with its tables
abbrev pub invariant-loop-terminal : goal.invariant-loop-terminal
invariant-loop-terminal g l = l.terminals ≡ l.parser.machine.terminals
