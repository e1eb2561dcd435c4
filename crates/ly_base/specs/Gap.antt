-- Whitespace and comments between words.
use Rattle.std.specs.Prelude.{◌≡◌, ◌≢◌, ℕ, suc, List, [], ◌∷◌, ◌++◌, IsTrue, codes}
use Rattle.ly_base.specs.Language.{is_space}
use Rattle.ly_base.specs.declared.language.Language.{Language}

-- the end doesn't occur in these bytes
abbrev pub HasNo : List ℕ → List ℕ → Type 0
HasNo end inside = (a b : List ℕ) → inside ≢ a ++ (end ++ b)

-- the text runs to the first occurrence of the end, then comes the rest
abbrev pub EndBefore : List ℕ → List ℕ → List ℕ → Type 0
EndBefore end text rest = (inside : List ℕ) × HasNo end inside × (text ≡ inside ++ (end ++ rest))

-- The text runs to the closing brace, with that many more braces open than this one, then comes the rest.
pub data Closes : ℕ → List ℕ → List ℕ → Type 0 where
  last : (rest : List ℕ) → Closes 0 (125 ∷ rest) rest
  close : (n : ℕ) (t rest : List ℕ) → Closes n t rest → Closes (suc n) (125 ∷ t) rest
  opening : (n : ℕ) (t rest : List ℕ) → Closes (suc n) t rest → Closes n (123 ∷ t) rest
  other : (n b : ℕ) (t rest : List ℕ) → b ≢ 123 → b ≢ 125 → Closes n t rest → Closes n (b ∷ t) rest

-- whitespace and comments; each comment runs from `/*` to the next `*/`
pub data Gap (l : Language) : List ℕ → Type 0 where
  none : Gap l []
  space : (b : ℕ) (g : List ℕ) → IsTrue (is_space l b) → Gap l g → Gap l (b ∷ g)
  comment : (inside g : List ℕ) → HasNo (codes "*/") inside → Gap l g
      → Gap l (codes "/*" ++ (inside ++ (codes "*/" ++ g)))

-- the text is whitespace and comments, then the rest
abbrev pub GapBefore : Language → List ℕ → List ℕ → Type 0
GapBefore l text rest = (g : List ℕ) × Gap l g × (text ≡ g ++ rest)

-- the text starts with no whitespace and no comment
pub record GapEnds (l : Language) (rest : List ℕ) : Type 0 where
  pub no_space : (b : ℕ) (s : List ℕ) → IsTrue (is_space l b) → rest ≢ b ∷ s
  pub no_comment : (inside s : List ℕ) → rest ≢ codes "/*" ++ (inside ++ (codes "*/" ++ s))
