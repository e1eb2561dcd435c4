-- How long the lists of a table set are, while it is put together.
use Rattle.std.specs.Prelude.{◌≡◌, ℕ, ◌<◌, All, length}
use Rattle.ly_pack.specs.Rows.{Comb}
use Rattle.ly_tables.specs.TableSet.{TableSet}

-- there is a row for each state, of this width
pub record HasRows {E : Type 0} (states columns : ℕ) (c : Comb E) : Type 0 where
  pub rows : length c.bases ≡ states
  pub width : c.width ≡ columns

-- Names and classes are bytes, each byte has a literal, and rows are as many as the states and as wide as there are
-- columns.
pub record AreLists (s : TableSet) : Type 0 where
  pub names : All (λ name. All (λ byte. byte < 256) name) s.terminals
  pub literals : length s.literals ≡ 256
  pub classes : All (λ class. class < 256) s.classes
  pub scan_rows : HasRows (length s.accepted) s.class_count s.scan_rows
  pub actions : HasRows (length s.defaults) (length s.terminals) s.actions
  pub gotos : HasRows (length s.defaults) s.nonterminals s.gotos
