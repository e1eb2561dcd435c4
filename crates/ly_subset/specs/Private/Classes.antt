-- How classes of bytes are split.
use Rattle.std.specs.Prelude.{◌≡◌, ◌↔◌, ℕ, suc, ◌+◌, ◌*◌, ◌<◌, ◌≤◌, List, length, slice_index_or, Bool, false, Option}
use Rattle.std.specs.Prelude.{Some, None, if◌then◌else◌}
use Rattle.ly_base.specs.ByteSet.{has}
use Rattle.ly_position.specs.Nfa.{Nfa, ReadsByte}
use Rattle.ly_position.specs.declared.nfa.Position.{Position}
use Rattle.ly_position.specs.declared.nfa.Position.TheVariants as position
use Rattle.ly_subset.specs.Automaton.{entry_at}
use Rattle.ly_subset.specs.Classes.{class_at}

-- whether the position reads the byte
abbrev pub reads_in : Position → ℕ → Bool
reads_in (position.Reads bytes) b = has bytes b
reads_in (position.Ends rule) b = false

-- classes are numbered in the order of the bytes
abbrev pub AreOrdered : List ℕ → Type 0
AreOrdered class_of = (k t : ℕ) → k < length class_of → class_at class_of k ≡ suc t
    → (j : ℕ) × (j < k) × (class_at class_of j ≡ t)

-- no key has a name
abbrev pub AreUnnamed : List (Option ℕ) → Type 0
AreUnnamed names = (k : ℕ) → entry_at names k ≡ None

-- two bytes have one class where they had one before and both pass the test or neither
pub record IsSplit (old : List ℕ) (test : ℕ → Bool) (new : List ℕ) : Type 0 where
  pub bytes : length new ≡ 256
  pub same : (a b : ℕ) → a < 256 → b < 256
      → (class_at new a ≡ class_at new b) ↔ ((class_at old a ≡ class_at old b) × (test a ≡ test b))
  pub in_order : AreOrdered old → AreOrdered new

-- two bytes have one class where each of the first n positions reads both or neither
pub record IsSplitBy (nfa : Nfa) (n : ℕ) (class_of : List ℕ) : Type 0 where
  pub bytes : length class_of ≡ 256
  pub same : (a b : ℕ) → a < 256 → b < 256
      → (class_at class_of a ≡ class_at class_of b) ↔ ((p : ℕ) → p < n → ReadsByte nfa p a ↔ ReadsByte nfa p b)
  pub in_order : AreOrdered class_of
  pub read : (p b : ℕ) → p < n → ReadsByte nfa p b → b < 256

-- what a byte is renamed by: its class, and whether it passes the test
abbrev pub key_by : List ℕ → (ℕ → Bool) → ℕ → ℕ
key_by class_of test b = 2 * class_at class_of b + (if test b then 1 else 0)

-- The first n bytes have the names of their keys, which are numbered in the order of the bytes.
pub record AreNamed (key : ℕ → ℕ) (n : ℕ) (class_of : List ℕ) (names : List (Option ℕ)) (count : ℕ) : Type 0 where
  pub named : (k : ℕ) → k < n → entry_at names (key k) ≡ Some (class_at class_of k)
  pub comes : (j c : ℕ) → entry_at names j ≡ Some c → (k : ℕ) × (k < n) × (key k ≡ j)
  pub one : (i j c : ℕ) → entry_at names i ≡ Some c → entry_at names j ≡ Some c → i ≡ j
  pub below : (j c : ℕ) → entry_at names j ≡ Some c → c < count
  pub each : (c : ℕ) → c < count → (k : ℕ) × (k < n) × (class_at class_of k ≡ c)
  pub in_order : (k t : ℕ) → k < n → class_at class_of k ≡ suc t → (j : ℕ) × (j < k) × (class_at class_of j ≡ t)
  pub few : count ≤ n

-- the least byte of each class
pub record AreLeast (class_of least : List ℕ) : Type 0 where
  pub within : (b : ℕ) → b < 256 → class_at class_of b < length least
  pub byte : (c : ℕ) → c < length least → slice_index_or least c 0 < 256
  pub in_class : (c : ℕ) → c < length least → class_at class_of (slice_index_or least c 0) ≡ c
