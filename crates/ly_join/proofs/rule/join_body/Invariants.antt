use Rattle.std.proofs.Common.{map, take}
use Rattle.std.specs.List.{AllZip}
use Rattle.ly_yaccread.specs.File.{symbol_word}
use Rattle.ly_join.specs.Grammar.{symbol_of}
use Rattle.ly_join.specs.Joined.{IsSymbol}
use Rattle.ly_join.specs.Private.Rules.{table_from}
use Rattle.ly_join.proofs.rule.join_body.Given as goal

abbrev pub invariant-loop-name : goal.invariant-loop-name
invariant-loop-name l = AllZip (IsSymbol (table_from l.table)) (take l.name-index (map symbol_word l.body))
    (map symbol_of l.joined.items)
