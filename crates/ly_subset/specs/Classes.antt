-- Classes of bytes that the same positions read.
use Rattle.std.specs.Prelude.{◌≡◌, ◌↔◌, ℕ, ◌<◌, List, length, map, slice_index_or, Some}
use Rattle.ly_position.specs.Nfa.{Nfa, ReadsByte}
use Rattle.ly_subset.specs.Automaton.{AppearInOrder}

-- each position reads both bytes or neither
abbrev pub AreReadAlike : Nfa → ℕ → ℕ → Type 0
AreReadAlike nfa a b = (p : ℕ) → ReadsByte nfa p a ↔ ReadsByte nfa p b

-- the class of a byte
abbrev pub class_at : List ℕ → ℕ → ℕ
class_at class_of b = slice_index_or class_of b 0

-- Two bytes are in one class if and only if each position reads both or neither. Classes are numbered by their least
-- byte, which is the order in which they appear. Positions read nothing but bytes.
pub record AreClasses (nfa : Nfa) (class_of : List ℕ) (classes : ℕ) : Type 0 where
  pub bytes : length class_of ≡ 256
  pub alike : (a b : ℕ) → a < 256 → b < 256 → (class_at class_of a ≡ class_at class_of b) ↔ AreReadAlike nfa a b
  pub within : (b : ℕ) → b < 256 → class_at class_of b < classes
  pub used : (c : ℕ) → c < classes → (b : ℕ) × (b < 256) × (class_at class_of b ≡ c)
  pub in_order : AppearInOrder (map (λ c. Some c) class_of)
  pub read : (p b : ℕ) → ReadsByte nfa p b → b < 256
