use Rattle.std.proofs.Common.{◌↔◌, List, [], drop}
use Rattle.ly_join.specs.Grammar.{Symbol}
use Rattle.ly_counterexamples.specs.Moves.{Lead}
use Rattle.ly_counterexamples.specs.Private.Leftmost.{moves_from}
use Rattle.ly_counterexamples.specs.Private.Parses.{string_of}
use Rattle.ly_counterexamples.proofs.parses.string_behind.Given as goal

-- the moves that are left lead on from the string
abbrev pub invariant-loop-step : goal.invariant-loop-step
invariant-loop-step l = (h : List Symbol) → Lead l.grammar [] (moves_from l.moves) h
    ↔ Lead l.grammar (string_of l.string.items) (moves_from (drop l.step-index l.moves)) h
