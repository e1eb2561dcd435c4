-- The names for printing the terms of a table set.
use Rattle.std.specs.Prelude.{ℕ, zero, suc, List, [], slice_get, option_map, unwrap_or}
use Rattle.ly_base.specs.Shape.{Shape, nil, node, place}
use Rattle.ly_pack.specs.Machine.{TableRule}
use Rattle.ly_tables.specs.TableSet.{TableSet}
use Rattle.ly_tree.specs.Shown.{Vocabulary}

-- the constructor that a shape has, if it has one
abbrev pub constructor_of : Shape → List ℕ
constructor_of nil = []
constructor_of (place i) = []
constructor_of (node name places) = name

-- the name of a terminal; empty if there is no such terminal
abbrev pub name_in : List (List ℕ) → ℕ → List ℕ
name_in terminals t = unwrap_or (slice_get terminals t) []

-- the constructor of a rule, whose index is its number - 1; empty for rule 0 and without one
abbrev pub constructor_in : List TableRule → ℕ → List ℕ
constructor_in rules zero = []
constructor_in rules (suc p) = unwrap_or (option_map (λ r. constructor_of r.shape) (slice_get rules p)) []

-- the printed names of a table set's terminals, and the constructors of its rules
abbrev pub vocabulary_of : TableSet → Vocabulary
vocabulary_of s = record { terminal = name_in s.terminals; constructor = constructor_in s.rules }
