-- Chains of positions: after each, just the ones before it may come, down to where the chain begins.
use Rattle.std.specs.Prelude.{◌≡◌, ◌↔◌, ℕ, ◌+◌, ◌<◌, ◌≤◌, List, length, slice_index_or, Contains}
use Rattle.ly_position.specs.Nfa.{Nfa, Follows, ReadsByte, Stepped}
use Rattle.ly_subset.specs.Private.Packed.{run_of}
use Rattle.ly_subset.specs.declared.chains.Span.{Span}

-- After each position from the first of a chain to the last, just those from before the first up to before it may come.
pub record IsChain (nfa : Nfa) (first last : ℕ) : Type 0 where
  pub rises : first ≤ last
  pub follows : (p q : ℕ) → first ≤ p → p ≤ last → Follows nfa p q ↔ ((first ≤ q + 1) × (q < p))

-- for each position the first of a chain in which it is last, or 0
pub record AreChains (nfa : Nfa) (firsts : List ℕ) : Type 0 where
  pub count : length firsts ≡ length nfa.positions
  pub chain : (p : ℕ) → p < length firsts → 0 < slice_index_or firsts p 0
      → IsChain nfa (slice_index_or firsts p 0) p

-- none of the positions reads the byte
abbrev pub ReadsNone : Nfa → List ℕ → ℕ → Type 0
ReadsNone nfa ps b = (p : ℕ) → Contains ps p → ReadsByte nfa p b → ⊥

-- the position is one of some, reads the byte, and is the last of them that does
pub record IsLastReader (nfa : Nfa) (ps : List ℕ) (b last : ℕ) : Type 0 where
  pub is_one : Contains ps last
  pub reads : ReadsByte nfa last b
  pub above : (p : ℕ) → Contains ps p → ReadsByte nfa p b → p ≤ last

-- the span is that of the positions that may come after some once the byte is read
pub record IsSpanAfter (nfa : Nfa) (ps : List ℕ) (b : ℕ) (span : Span) : Type 0 where
  pub rises : span.first ≤ span.last
  pub within : span.last < length nfa.positions
  pub stepped : (q : ℕ) → Contains (run_of span.first span.last) q ↔ Stepped nfa ps b q
