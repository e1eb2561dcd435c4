-- How many tokens terms have, whose nodes have all of their bodies, and how many parts rules make of them.
use Rattle.std.specs.Prelude.{ℕ, zero, suc, ◌+◌, ◌≤◌, List, [], ◌∷◌}
use Rattle.ly_base.specs.Shape.{Shape, nil, node, place}
use Rattle.ly_places.specs.declared.measure.Measure.{Measure}
use Rattle.ly_tree.specs.Term as term
use Rattle.ly_tree.specs.Term.{Term, Terms}
use Rattle.ly_tree.specs.declared.look.Look.{Look}
use Rattle.ly_tree.specs.declared.look.Look.TheVariants.{Leaf, Node, Nothing}

-- how many tokens terms have together
abbrev pub tokens_among : List Measure → ℕ
tokens_among [] = 0
tokens_among (m ∷ ms) = m.tokens + tokens_among ms

-- how many parts the term at a place has, counted from 1; where there is none, nothing is one part
abbrev pub parts_at : List Measure → ℕ → ℕ
parts_at [] i = 1
parts_at (m ∷ ms) zero = 1
parts_at (m ∷ ms) (suc zero) = m.parts
parts_at (m ∷ ms) (suc (suc i)) = parts_at ms (suc i)

-- how many those at these places have
abbrev pub parts_among : List Measure → List ℕ → ℕ
parts_among ms [] = 0
parts_among ms (i ∷ is) = parts_at ms i + parts_among ms is

-- how many parts a rule makes of the terms of its body
abbrev pub parts_made : Shape → List Measure → ℕ
parts_made nil ms = 1
parts_made (place i) ms = parts_at ms i
parts_made (node name is) ms = 1 + parts_among ms is

abbrev mutual
  pub measure_of : (ℕ → Shape) → Term → Measure
  measure_of shape term.nothing = record { tokens = 0; parts = 1 }
  measure_of shape (term.leaf t bytes) = record { tokens = 1; parts = 1 }
  measure_of shape (term.built p ts) = record {
    tokens = tokens_among (measures_of shape ts);
    parts = parts_made (shape p) (measures_of shape ts);
  }

  pub measures_of : (ℕ → Shape) → Terms → List Measure
  measures_of shape term.none = []
  measures_of shape (term.more t ts) = measure_of shape t ∷ measures_of shape ts

-- the children of what is seen are among so many
abbrev pub IsAmong : Look → ℕ → Type 0
IsAmong Nothing n = Unit {0}
IsAmong (Leaf t) n = Unit {0}
IsAmong (Node s) n = s.start + s.count ≤ n
