use Rattle.std.proofs.Common.{◌≡◌, length, map}
use Rattle.ly_relate.specs.Values.{goto_from}
use Rattle.ly_lookahead.proofs.DirectLemmas.{AreDirectBefore}
use Rattle.ly_lookahead.proofs.direct.direct_sets.Given as goal

-- what the transitions before this one directly read is in their rows
abbrev pub invariant-loop-number : goal.invariant-loop-number
invariant-loop-number l = record {
  long : length l.sets.sets ≡ l.rows;
  width : l.sets.width ≡ l.lr0.grammar.terminals;
  start : l.start.0 ≡ l.lr0.grammar.start;
  direct : AreDirectBefore l.lr0 (map goto_from l.gotos) l.number l.sets.sets;
}
