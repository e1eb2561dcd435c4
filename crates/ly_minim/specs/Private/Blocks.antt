-- Partitions of the states into blocks, by the block of each state (Moore 1956).
use Rattle.std.specs.Prelude.{◌≡◌, ◌≢◌, ◌↔◌, ◌++◌, ◌^◌, ℕ, ◌<◌, ◌≤◌, List, [], length, slice_index_or, Some}
use Rattle.ly_subset.specs.Automaton.{Automaton, rule_of}
use Rattle.ly_minim.specs.Smallest.{Distinguished}
use Rattle.ly_minim.specs.Private.Signature.{block_after, block_of, signature_of}

-- each of n states has a block, and each block a state
pub record AreBlocks (n : ℕ) (of : List ℕ) (count : ℕ) : Type 0 where
  pub states : length of ≡ n
  pub within : (s : ℕ) → s < n → block_of of s < count
  pub used : (b : ℕ) → b < count → (s : ℕ) × (s < n) × (block_of of s ≡ b)
  pub few : count ≤ n
  pub fits : n < 2 ^ 32

-- states of one block have one rule, and each class leads from both nowhere or to one block (a congruence)
pub record IsStable (A : Automaton) (of : List ℕ) : Type 0 where
  pub one_rule : (s t : ℕ) → s < length A.rules → t < length A.rules → block_of of s ≡ block_of of t
      → rule_of A (Some s) ≡ rule_of A (Some t)
  pub one_next : (s t c : ℕ) → s < length A.rules → t < length A.rules → c < A.classes → block_of of s ≡ block_of of t
      → block_after A of s c ≡ block_after A of t c

-- states of different blocks are told apart by a string
abbrev pub AreApart : Automaton → List ℕ → Type 0
AreApart A of = (s t : ℕ) → s < length A.rules → t < length A.rules → block_of of s ≢ block_of of t
    → Distinguished A (Some s) (Some t)

-- two states are in one finer block where the partition sees the same of them
abbrev pub IsRefined : Automaton → List ℕ → List ℕ → Type 0
IsRefined A of finer = (s t : ℕ) → s < length A.rules → t < length A.rules
    → (block_of finer s ≡ block_of finer t) ↔ (signature_of A of s ≡ signature_of A of t)

-- the key has the number; it was there or it was added
pub record IsNamed (old : List (List ℕ)) (key : List ℕ) (new : List (List ℕ)) (number : ℕ) : Type 0 where
  pub more : List (List ℕ)
  pub grown : new ≡ old ++ more
  pub within : number < length new
  pub at : slice_index_or new number [] ≡ key
  pub fresh : (n : ℕ) → n < length new → length old ≤ n → (n ≡ length old) × (number ≡ n)
  pub absent : (n : ℕ) → n < length old → slice_index_or old n [] ≡ key → number < length old
