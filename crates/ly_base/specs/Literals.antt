-- Literals: one byte or one escape between single quotes (POSIX, yacc, "Declarations Section").
use Rattle.std.specs.Prelude.{◌≡◌, ◌≢◌, ℕ, List, ◌∷◌}
use Rattle.ly_base.specs.Bytes.{backslash, newline, single_quote}
use Rattle.ly_base.specs.Escapes.{Escape}

-- The text begins with the inside of a literal, then comes the rest. The inside is a byte that denotes itself, an
-- escape, or a backslash and a newline, which denote the newline. `Escape` has no newline, since a line of a lex file
-- ends there; a literal may have one.
pub data Inside : List ℕ → ℕ → List ℕ → Type 0 where
  bare : (b : ℕ) (rest : List ℕ) → b ≢ backslash → b ≢ single_quote → Inside (b ∷ rest) b rest
  escaped : (t rest : List ℕ) (b : ℕ) → Escape t b rest → Inside (backslash ∷ t) b rest
  line : (rest : List ℕ) → Inside (backslash ∷ newline ∷ rest) newline rest

-- The text begins with the literal of the byte b, which isn't 0, then comes the rest.
abbrev pub Literal : List ℕ → ℕ → List ℕ → Type 0
Literal t b rest = (behind : List ℕ) × (t ≡ single_quote ∷ behind) × Inside behind b (single_quote ∷ rest) × (b ≢ 0)
