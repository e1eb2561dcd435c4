use Rattle.std.proofs.Common.{map, take}
use Rattle.std.specs.Prelude.{IfSome}
use Rattle.ly_yaccread.specs.File.{ruling_of}
use Rattle.ly_join.specs.Joined.{note_of}
use Rattle.ly_join.specs.Private.Rules.{table_from, AreJoinedWithin, IsLeftSide}
use Rattle.ly_join.proofs.rule.join_rules.Given as goal

-- the rules so far are joined, and the last left side was looked up
abbrev pub invariant-loop-production : goal.invariant-loop-production
invariant-loop-production l = record {
  joined : AreJoinedWithin l.most (table_from l.table) (take l.production-index (map ruling_of l.productions))
      l.rules.items (map note_of l.notes.items);
  last : IfSome l.last (IsLeftSide (table_from l.table));
}
