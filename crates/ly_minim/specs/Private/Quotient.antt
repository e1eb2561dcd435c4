-- A state for each block that is met from the starts.
use Rattle.std.specs.Prelude.{◌≡◌, ℕ, ◌<◌, ◌≤◌, ◌+◌, ◌*◌, ◌^◌, ◌++◌, List, [], ◌∷◌, length, map, slice_index_or}
use Rattle.std.specs.Prelude.{Option, Some}
use Rattle.std.specs.Prelude.{None}
use Rattle.ly_subset.specs.Automaton.{AreInOrder, Automaton, entry_at, next_by_class}
use Rattle.ly_base.specs.Entry.{target_of}
use Rattle.ly_minim.specs.Private.Signature.{block_of}
use Rattle.ly_minim.specs.declared.blocks.Blocks.{Blocks}
use Rattle.ly_minim.specs.declared.quotient.Quotient.{Quotient}

-- the entries' states
abbrev pub targets_of : Quotient → List (Option ℕ)
targets_of q = map target_of q.entries.items

-- the state that stands for a number
abbrev pub pick_of : List ℕ → ℕ → ℕ
pick_of picked n = slice_index_or picked n 0

-- the number is that of the state's block; none where there is no state
abbrev pub IsNumberOf : List ℕ → List ℕ → Option ℕ → Option ℕ → Type 0
IsNumberOf of picked None None = Unit {0}
IsNumberOf of picked None (Some t) = ⊥
IsNumberOf of picked (Some n) None = ⊥
IsNumberOf of picked (Some n) (Some t) = (n < length picked) × (block_of of (pick_of picked n) ≡ block_of of t)

-- Each number's block has that number, and each block with a number is that number's.
pub record AreNumberedBy (of : List ℕ) (count : ℕ) (numbers : List (Option ℕ)) (picked : List ℕ) : Type 0 where
  pub room : length numbers ≡ count
  pub blocks_within : (s : ℕ) → s < length of → block_of of s < count
  pub states : (n : ℕ) → n < length picked → pick_of picked n < length of
  pub numbered : (n : ℕ) → n < length picked → entry_at numbers (block_of of (pick_of picked n)) ≡ Some n
  pub met : (b n : ℕ) → entry_at numbers b ≡ Some n → (n < length picked) × (block_of of (pick_of picked n) ≡ b)

-- so it is with the blocks that were met, which a u32 counts
pub record AreNumbered (blocks : Blocks) (q : Quotient) : Type 0 where
  pub by : AreNumberedBy blocks.of.items blocks.count q.numbers q.picked.items
  pub fits : blocks.count < 2 ^ 32

-- The number is that of the state's block, which was added where it wasn't met.
pub record IsMet (of : List ℕ) (old : Quotient) (state : ℕ) (new : Quotient) (number : ℕ) : Type 0 where
  pub more : List ℕ
  pub grown : new.picked.items ≡ old.picked.items ++ more
  pub block : (number < length new.picked.items)
      × (block_of of (pick_of new.picked.items number) ≡ block_of of state)
  pub fresh : (n : ℕ) → n < length new.picked.items → length old.picked.items ≤ n
      → (n ≡ length old.picked.items) × (number ≡ n)

-- The entry that leads to the block of a state, if there is one, was appended.
pub record IsEntered (of : List ℕ) (old : Quotient) (target : Option ℕ) (new : Quotient) : Type 0 where
  pub entry : Option ℕ
  pub more : List ℕ
  pub grown : new.picked.items ≡ old.picked.items ++ more
  pub number : IsNumberOf of new.picked.items entry target
  pub fresh : (n : ℕ) → n < length new.picked.items → length old.picked.items ≤ n
      → (n ≡ length old.picked.items) × (entry ≡ Some n)
  pub appended : targets_of new ≡ targets_of old ++ entry ∷ []

-- The first entries lead to the blocks of the starts, and those after them to those that the classes lead to from the
-- states that stand for the numbers; numbers have appeared in their order, each before its row.
pub record IsQuotient (A : Automaton) (of : List ℕ) (q : Quotient) : Type 0 where
  pub order : AreInOrder A.starts A.classes (length q.picked.items) (targets_of q)
  pub at_start : (k : ℕ) → k < length q.entries.items → k < A.starts
      → IsNumberOf of q.picked.items (entry_at (targets_of q) k) (entry_at A.entries k)
  pub at_row : (n c : ℕ) → c < A.classes → A.starts + (n * A.classes + c) < length q.entries.items
      → (n < length q.picked.items) × IsNumberOf of q.picked.items
      (entry_at (targets_of q) (A.starts + (n * A.classes + c))) (next_by_class A (pick_of q.picked.items n) c)
