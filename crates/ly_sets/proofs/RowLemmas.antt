-- Rows of words within a longer list of words.
use Rattle.std.proofs.Common.{◌≡◌, ◌≢◌, ◌∙◌, ◌<◌, ◌≤◌, ◌+◌, ◌*◌, ◌/◌, ◌%◌, ◌^◌, ◌==◌, ◌||◌, ℕ, Bool, false, List}
use Rattle.std.proofs.Common.{length, get_or, set, drop, sym, ap, ap₂, arith, inl, inr, nat_eq, max, bit_or}
use Rattle.std.proofs.Common.{length-take}
use Rattle.std.specs.FinSet as set
use Rattle.std.specs.Int.{bit_at, w64}
use Rattle.std.proofs.lemmas.Bool.{cases_lt, cases_eq}
use Rattle.std.proofs.lemmas.List.{get_or-set_same, get_or-set_other}
use Rattle.std.proofs.lemmas.Nat.Bits.{bit_at-lt, bit_at_or, bit_at_set_same, bit_at_set_other, same_from_bits_below}
use Rattle.std.proofs.lemmas.Nat.{or_lt}
use Rattle.std.proofs.lemmas.Simd.{get_or-chunk}
use lib.Lanes.{chunk}
use Rattle.ly_sets.specs.NumberSet.{NumberSet, row_set}
use Rattle.ly_sets.proofs.NumberSetLemmas.{same_members, contains-insert_nat, contains-union_nat, contains-set_of}
use Rattle.ly_sets.proofs.NumberSetLemmas.{has_bit-past}

-- whether a number is in a row
abbrev pub bit_in : List ℕ → ℕ → ℕ → Bool
bit_in words start q = bit_at (get_or words (start + q / 64) 0) (q % 64) == 1

pub contains-row_set : (words : List ℕ) (start len q : ℕ) → q < 64 * len → set.contains (row_set start len words) q
    ≡ bit_in words start q
contains-row_set words start len q lt = contains-set_of (chunk start len words) q
    ∙ ap (λ w. bit_at w (q % 64) == 1) (get_or-chunk start len words (q / 64) 0 (omega arith))

pub contains-row_set-past : (words : List ℕ) (start len q : ℕ) → 64 * len ≤ q → set.contains (row_set start len words) q
    ≡ false
contains-row_set-past words start len q le = contains-set_of (chunk start len words) q
    ∙ has_bit-past (chunk start len words) q (omega (arith, length-take len (drop start words)))

-- the set of a row, by its members
row_set_by : (words : List ℕ) (start len : ℕ) (s : NumberSet)
    → ((q : ℕ) → q < 64 * len → bit_in words start q ≡ set.contains s q)
    → ((q : ℕ) → 64 * len ≤ q → set.contains s q ≡ false) → row_set start len words ≡ s
row_set_by words start len s inside past = same_members (row_set start len words) s (λ q. elim (cases_lt q (64 * len)) [
  | inl lt ↦ contains-row_set words start len q lt ∙ inside q lt
  | inr ge ↦ contains-row_set-past words start len q ge ∙ sym (past q ge)
])

-- the same words are the same set
pub row_set_same : (old new : List ℕ) (start len : ℕ)
    → ((k : ℕ) → k < len → get_or new (start + k) 0 ≡ get_or old (start + k) 0)
    → row_set start len new ≡ row_set start len old
row_set_same old new start len same = row_set_by new start len (row_set start len old)
    (λ q lt. ap (λ w. bit_at w (q % 64) == 1) (same (q / 64) (omega arith)) ∙ sym (contains-row_set old start len q lt))
    (λ q ge. contains-row_set-past old start len q ge)

-- the same words elsewhere are the same set
pub row_set_as : (old new : List ℕ) (at to len : ℕ)
    → ((k : ℕ) → k < len → get_or new (to + k) 0 ≡ get_or old (at + k) 0)
    → row_set to len new ≡ row_set at len old
row_set_as old new at to len same = row_set_by new to len (row_set at len old)
    (λ q lt. ap (λ w. bit_at w (q % 64) == 1) (same (q / 64) (omega arith)) ∙ sym (contains-row_set old at len q lt))
    (λ q ge. contains-row_set-past old at len q ge)

-- the same set is of the same words
pub row_words_same : (old new : List ℕ) (start len : ℕ) → ((k : ℕ) → k < len → get_or old (start + k) 0 < 2 ^ 64)
    → ((k : ℕ) → k < len → get_or new (start + k) 0 < 2 ^ 64)
    → row_set start len new ≡ row_set start len old → (k : ℕ) → k < len
    → get_or new (start + k) 0 ≡ get_or old (start + k) 0
row_words_same old new start len fits fits' same k lt = same_from_bits_below 64 _ _ (fits' k lt) (fits k lt) (λ i below.
    let word : (64 * k + i) / 64 ≡ k = omega arith in
    let bit : (64 * k + i) % 64 ≡ i = omega arith in
    let q_lt : 64 * k + i < 64 * len = omega arith in
    let is : (words : List ℕ) → set.contains (row_set start len words) (64 * k + i)
    ≡ (bit_at (get_or words (start + k) 0) i == 1) =
    λ words. contains-row_set words start len (64 * k + i) q_lt
    ∙ ap₂ (λ w b. bit_at (get_or words (start + w) 0) b == 1) word bit in
    one_test (bit_at (get_or new (start + k) 0) i) (bit_at (get_or old (start + k) 0) i) (bit_at-lt _ i) (bit_at-lt _ i)
    (sym (is new) ∙ ap (λ s. set.contains s (64 * k + i)) same ∙ is old))
  where
    one_test : (a b : ℕ) → a < 2 → b < 2 → (a == 1) ≡ (b == 1) → a ≡ b
    one_test a b p q e = grind arith

-- ---- one number more

pub row_set-insert : (words : List ℕ) (start len n : ℕ) → start + len ≤ length words → n < 64 * len
    → row_set start len
    (set words (start + n / 64) (bit_or (get_or words (start + n / 64) 0) (1 * 2 ^ (n % 64) % 2 ^ 64)))
    ≡ set.insert (row_set start len words) n
row_set-insert words start len n room below =
    let word : ℕ = get_or words (start + n / 64) 0 in
    let new : List ℕ = set words (start + n / 64) (bit_or word (1 * 2 ^ (n % 64) % 2 ^ 64)) in
    row_set_by new start len (set.insert (row_set start len words) n)
    (λ q lt. bit q lt ∙ sym (contains-insert_nat (row_set start len words) n q
    ∙ ap (λ b. nat_eq q n || b) (contains-row_set words start len q lt)))
    (λ q ge. contains-insert_nat (row_set start len words) n q
    ∙ ap (λ b. nat_eq q n || b) (contains-row_set-past words start len q ge) ∙ grind arith)
  where
    at_word : (q : ℕ) → q / 64 ≡ n / 64
        → get_or (set words (start + n / 64) (bit_or (get_or words (start + n / 64) 0) (1 * 2 ^ (n % 64) % 2 ^ 64)))
        (start + q / 64) 0 ≡ bit_or (get_or words (start + n / 64) 0) (1 * 2 ^ (n % 64) % 2 ^ 64)
    at_word q e
        = ap (λ k. get_or
        (set words (start + n / 64) (bit_or (get_or words (start + n / 64) 0) (1 * 2 ^ (n % 64) % 2 ^ 64)))
        (start + k) 0) e ∙ get_or-set_same words (start + n / 64) _ 0 (omega arith)

    bit : (q : ℕ) → q < 64 * len
        → bit_in (set words (start + n / 64) (bit_or (get_or words (start + n / 64) 0) (1 * 2 ^ (n % 64) % 2 ^ 64)))
        start q ≡ (nat_eq q n || bit_in words start q)
    bit q lt = elim (cases_eq (q / 64) (n / 64)) [
      | inl here ↦ elim (cases_eq (q % 64) (n % 64)) [
        | inl same ↦
            let is : q ≡ n = omega arith in
            let set_bit : bit_at (bit_or (get_or words (start + n / 64) 0) (1 * 2 ^ (n % 64) % 2 ^ 64)) (q % 64) ≡ 1
            = ap (bit_at _) same ∙ bit_at_set_same w64 (get_or words (start + n / 64) 0) (n % 64) (omega arith) in
            ap (λ w. bit_at w (q % 64) == 1) (at_word q here) ∙ grind (arith, set_bit, is)
        | inr ne ↦
            let other : q ≢ n = λ e. ne (ap (λ x. x % 64) e) in
            let kept : bit_at (bit_or (get_or words (start + n / 64) 0) (1 * 2 ^ (n % 64) % 2 ^ 64)) (q % 64)
            ≡ bit_at (get_or words (start + n / 64) 0) (q % 64)
            = bit_at_set_other w64 (get_or words (start + n / 64) 0) (n % 64) (omega arith) (q % 64) ne in
            ap (λ w. bit_at w (q % 64) == 1) (at_word q here)
            ∙ ap (λ b. b == 1) (kept ∙ ap (λ k. bit_at (get_or words (start + k) 0) (q % 64)) (sym here))
            ∙ not_here q other
      ]
      | inr ne ↦
          let other : q ≢ n = λ e. ne (ap (λ x. x / 64) e) in
          ap (λ w. bit_at w (q % 64) == 1) (get_or-set_other words (start + n / 64) (start + q / 64) _ 0
          (λ e. ne (omega arith))) ∙ not_here q other
    ]
      where
        not_here : (q : ℕ) → q ≢ n → bit_in words start q ≡ (nat_eq q n || bit_in words start q)
        not_here q ne = grind arith

-- ---- all numbers of another row more

either_bit : (a b : ℕ) → a < 2 → b < 2 → (max a b == 1) ≡ ((a == 1) || (b == 1))
either_bit a b p q = grind arith

pub row_set-union : (old new : List ℕ) (to from len : ℕ)
    → ((k : ℕ) → k < len → get_or new (to + k) 0 ≡ bit_or (get_or old (to + k) 0) (get_or old (from + k) 0))
    → row_set to len new ≡ set.union (row_set to len old) (row_set from len old)
row_set-union old new to from len united = row_set_by new to len (set.union (row_set to len old) (row_set from len old))
    (λ q lt. ap (λ w. bit_at w (q % 64) == 1) (united (q / 64) (omega arith))
    ∙ ap (λ b. b == 1) (bit_at_or _ _ (q % 64)) ∙ either_bit _ _ (bit_at-lt _ (q % 64)) (bit_at-lt _ (q % 64))
    ∙ sym (contains-union_nat (row_set to len old) (row_set from len old) q
    ∙ ap₂ (λ a b. a || b) (contains-row_set old to len q lt) (contains-row_set old from len q lt)))
    (λ q ge. contains-union_nat (row_set to len old) (row_set from len old) q
    ∙ ap₂ (λ a b. a || b) (contains-row_set-past old to len q ge) (contains-row_set-past old from len q ge))

-- a row that holds another has all bits of its words
pub row_holds_words : (words : List ℕ) (of from len : ℕ) → ((k : ℕ) → get_or words k 0 < 2 ^ 64)
    → set.union (row_set of len words) (row_set from len words) ≡ row_set of len words → (k : ℕ) → k < len
    → bit_or (get_or words (of + k) 0) (get_or words (from + k) 0) ≡ get_or words (of + k) 0
row_holds_words words of from len fits same k lt
    = same_from_bits_below 64 _ _ (or_lt 64 _ _ (fits (of + k)) (fits (from + k))) (fits (of + k)) (λ i below.
    let word : (64 * k + i) / 64 ≡ k = omega arith in
    let bit : (64 * k + i) % 64 ≡ i = omega arith in
    let q_lt : 64 * k + i < 64 * len = omega arith in
    let is : (start : ℕ) → set.contains (row_set start len words) (64 * k + i)
    ≡ (bit_at (get_or words (start + k) 0) i == 1) =
    λ start. contains-row_set words start len (64 * k + i) q_lt
    ∙ ap₂ (λ w b. bit_at (get_or words (start + w) 0) b == 1) word bit in
    either_test (bit_at (get_or words (of + k) 0) i) (bit_at (get_or words (from + k) 0) i) _
    (bit_at-lt _ i) (bit_at-lt _ i) (bit_at_or _ _ i)
    (sym (ap₂ (λ a b. a || b) (is of) (is from))
    ∙ sym (contains-union_nat (row_set of len words) (row_set from len words) (64 * k + i))
    ∙ ap (λ s. set.contains s (64 * k + i)) same ∙ is of))
  where
    either_test : (a b c : ℕ) → a < 2 → b < 2 → c ≡ max a b → ((a == 1) || (b == 1)) ≡ (a == 1) → c ≡ a
    either_test a b c p q e h = grind arith
