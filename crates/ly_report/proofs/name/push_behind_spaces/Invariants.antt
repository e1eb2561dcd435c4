use Rattle.std.proofs.Common.{◌≡◌, ◌++◌, map, take}
use Rattle.ly_join.specs.Grammar.{symbol_of}
use Rattle.ly_report.specs.Report.{behind_spaces, symbol_name}
use Rattle.ly_report.proofs.name.push_behind_spaces.Given as goal

-- the names so far were appended, a space before each
abbrev pub invariant-loop-symbol : goal.invariant-loop-symbol
invariant-loop-symbol l = l.out.items ≡ l.initial.out.items
    ++ behind_spaces (map (symbol_name l.spec) (map symbol_of (take l.symbol-index l.symbols)))
