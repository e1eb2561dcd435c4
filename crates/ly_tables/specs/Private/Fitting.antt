-- What of a table set is not the same in each version.
use Rattle.std.specs.Prelude.{◌+◌, ◌≤◌, All, length}
use Rattle.std.specs.Int.{Width}
use Rattle.ly_tables.specs.Private.Short.{CutFits}
use Rattle.ly_tables.specs.Ranges.{Counts}
use Rattle.ly_tables.specs.TableSet.{TableSet}

-- no more symbols, rules and states than the greatest counts
pub record AreCountsWithin (counts : Counts) (s : TableSet) : Type 0 where
  pub symbols : length s.terminals + s.nonterminals + 1 ≤ counts.symbols
  pub scan_rules : length s.scan_rules ≤ counts.rules
  pub scan_states : length s.accepted ≤ counts.states
  pub rules : length s.rules ≤ counts.rules
  pub states : length s.defaults ≤ counts.states

-- the length of each cut is a number of the width
abbrev pub DoCutsFit : Width → TableSet → Type 0
DoCutsFit w s = All (λ rule. CutFits w rule.cut) s.scan_rules
