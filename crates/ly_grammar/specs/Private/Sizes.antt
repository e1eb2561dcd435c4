-- How long the lists are that a reduced grammar keeps.
use Rattle.std.specs.Prelude.{◌≡◌, ◌+◌, List, Bool, length}
use Rattle.ly_join.specs.Grammar.{Grammar, IsGrammar}
use Rattle.ly_sets.specs.SetMatrix.{Matrix}

-- No rule of the grammar is removed; a mark for each rule, a mark and a row for each nonterminal, and the width of the
-- terminals.
pub record HasSizes (G : Grammar) (kept nullable : List Bool) (first : Matrix) : Type 0 where
  pub lawful : IsGrammar G
  pub marks : length kept ≡ length G.rules
  pub empties : length nullable ≡ G.accept + 1
  pub rows : length first.sets ≡ G.accept + 1
  pub width : first.width ≡ G.terminals
