-- The first members of JSON objects for leaves and nodes, which contain their names.
use Rattle.std.specs.Prelude.{List, ℕ, ◌++◌, codes}
use Rattle.ly_feed.specs.Vocabularies.{constructor_in, name_in}
use Rattle.ly_pack.specs.Machine.{TableRule}
use Rattle.ly_print.specs.Json.{json_name}
use Rattle.ly_tables.specs.TableSet.{TableSet}
use Rattle.ly_tree.specs.Shown.{Vocabulary}

-- the member of a leaf, with the name of its terminal
abbrev pub token_member : List ℕ → List ℕ
token_member name = codes "{\"token\":" ++ json_name name

-- the member of a node, with its constructor
abbrev pub node_member : List ℕ → List ℕ
node_member name = codes "{\"node\":" ++ json_name name

-- the names of terminals, and the rules that have constructors
pub record Named : Type 0 where
  pub terminals : List (List ℕ)
  pub rules : List TableRule

-- the names of a table set
abbrev pub names_in : TableSet → Named
names_in s = record { terminals = s.terminals; rules = s.rules }

-- the vocabulary with these names
abbrev pub vocabulary_in : Named → Vocabulary
vocabulary_in n = record { terminal = name_in n.terminals; constructor = constructor_in n.rules }
