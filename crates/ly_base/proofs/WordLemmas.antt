-- Lemmas on the bits of four words, which are those of a set of bytes.
use Rattle.std.proofs.Common.{◌≡◌, ◌≢◌, ◌<◌, ◌+◌, ◌*◌, ◌-◌, ◌^◌, ◌/◌, ◌%◌, ℕ, List, [], ◌∷◌, Bool, false, not, length}
use Rattle.std.proofs.Common.{zero, suc, nat_eq, bit_or, w64, refl, ap, sym, ◌∙◌, arith, inl, inr, get_or, set}
use Rattle.std.proofs.Common.{get_or-set_other, get_or-set_same}
use Rattle.std.specs.Prelude.{slice_index, ◌||◌}
use Rattle.std.specs.Int.{bit_at}
use Rattle.std.proofs.lemmas.Bool.{cases_eq, eq-eqb, eqb-false, ne_eqb}
use Rattle.std.proofs.lemmas.Nat.{le_or_l, le_or_r}
use Rattle.std.proofs.lemmas.Nat.Bits.{bit_at-zero, bit_at-lt, bit_at_set_same, bit_at_set_other, bit_at_not}
use Rattle.std.proofs.lemmas.Nat.Bits.{same_from_bits_below}

-- whether the number is in the words
abbrev pub word_has : List ℕ → ℕ → Bool
word_has ws b = nat_eq (bit_at (slice_index ws (b / 64)) (b % 64)) 1

-- no word of the empty set has a bit
pub zero_words : (k : ℕ) → slice_index (0 ∷ 0 ∷ 0 ∷ 0 ∷ []) k ≡ 0
zero_words zero = refl
zero_words (suc zero) = refl
zero_words (suc (suc zero)) = refl
zero_words (suc (suc (suc zero))) = refl
zero_words (suc (suc (suc (suc k)))) = refl

pub none_in_zero_words : (b : ℕ) → word_has (0 ∷ 0 ∷ 0 ∷ 0 ∷ []) b ≡ false
none_in_zero_words b = rw (zero_words (b / 64), bit_at-zero (b % 64))

-- a bit that is set
set_same : (ws : List ℕ) (i k : ℕ) → i < length ws → k < 64
    → bit_at (get_or (set ws i (bit_or (get_or ws i 0) (1 * 2 ^ k % 2 ^ 64))) i 0) k ≡ 1
set_same ws i k h l = rw (get_or-set_same) (bit_at_set_same w64 (get_or ws i 0) k l)

-- each other bit stays
set_other : (ws : List ℕ) (i k j m : ℕ) → i < length ws → k < 64 → (i ≡ j → k ≡ m → ⊥)
    → bit_at (get_or (set ws i (bit_or (get_or ws i 0) (1 * 2 ^ k % 2 ^ 64))) j 0) m ≡ bit_at (get_or ws j 0) m
set_other ws i k j m h l ne = elim (cases_eq i j) [
  | inl same ↦ rw (← same) (rw (get_or-set_same) (bit_at_set_other w64 (get_or ws i 0) k l m (λ e. ne same (sym e))))
  | inr other ↦ let apart : j ≢ i = λ e. other (sym e) in rw get_or-set_other
]

-- the words with one more number
pub word_has_set : (ws : List ℕ) (b c : ℕ) → b < 256 → length ws ≡ 4
    → word_has (set ws (b / 64) (bit_or (get_or ws (b / 64) 0) (1 * 2 ^ (b % 64) % 2 ^ 64))) c
    ≡ (nat_eq c b || word_has ws c)
word_has_set ws b c h l = elim (cases_eq c b) [
  | inl same ↦
      rw (same, eq-eqb b b refl) (ap (λ n. nat_eq n 1) (set_same ws (b / 64) (b % 64) (omega arith) (omega arith)))
  | inr other ↦
      rw (ne_eqb c b other)
      (ap (λ n. nat_eq n 1) (set_other ws (b / 64) (b % 64) (c / 64) (c % 64) (omega arith) (omega arith)
      (λ p q. other (omega arith))))
]

flip : (x : ℕ) → x < 2 → nat_eq (1 - x) 1 ≡ not (nat_eq x 1)
flip zero h = refl
flip (suc zero) h = refl
flip (suc (suc x)) h = absurd (omega arith)

-- a bit of the word with every bit turned
pub not_bit : (n k : ℕ) → n < 2 ^ 64 → k < 64 → nat_eq (bit_at (2 ^ 64 - 1 - n) k) 1 ≡ not (nat_eq (bit_at n k) 1)
not_bit n k h l = rw (bit_at_not w64 n k h l) (flip (bit_at n k) (bit_at-lt n k))

-- the words with every bit turned
pub word_has_not : (ws : List ℕ) (b : ℕ) → b < 256
    → get_or ws 0 0 < 2 ^ 64 → get_or ws 1 0 < 2 ^ 64 → get_or ws 2 0 < 2 ^ 64 → get_or ws 3 0 < 2 ^ 64
    → word_has ((2 ^ 64 - 1 - get_or ws 0 0) ∷ (2 ^ 64 - 1 - get_or ws 1 0) ∷ (2 ^ 64 - 1 - get_or ws 2 0) ∷
    (2 ^ 64 - 1 - get_or ws 3 0) ∷ []) b
    ≡ not (word_has ws b)
word_has_not ws b h f0 f1 f2 f3 = turned (b / 64) (b % 64) (omega arith) (omega arith)
  where
    turned : (i k : ℕ) → i < 4 → k < 64
        → nat_eq (bit_at
        (slice_index ((2 ^ 64 - 1 - get_or ws 0 0) ∷ (2 ^ 64 - 1 - get_or ws 1 0) ∷ (2 ^ 64 - 1 - get_or ws 2 0) ∷
        (2 ^ 64 - 1 - get_or ws 3 0) ∷ []) i) k) 1
        ≡ not (nat_eq (bit_at (slice_index ws i) k) 1)
    turned zero k l m = not_bit (get_or ws 0 0) k f0 m
    turned (suc zero) k l m = not_bit (get_or ws 1 0) k f1 m
    turned (suc (suc zero)) k l m = not_bit (get_or ws 2 0) k f2 m
    turned (suc (suc (suc zero))) k l m = not_bit (get_or ws 3 0) k f3 m
    turned (suc (suc (suc (suc i)))) k l m = absurd (omega arith)

-- a word that has no number is 0
word_zero : (ws : List ℕ) (i : ℕ) → i < 4 → get_or ws i 0 < 2 ^ 64 → ((b : ℕ) → b < 256 → word_has ws b ≡ false)
    → get_or ws i 0 ≡ 0
word_zero ws i l h none = same_from_bits_below 64 (get_or ws i 0) 0 h (omega arith)
    (λ k m. let at : (i * 64 + k) / 64 ≡ i = omega arith in
    let bit : (i * 64 + k) % 64 ≡ k = omega arith in
    let unset : nat_eq (bit_at (slice_index ws i) k) 1 ≡ false = rw (at, bit) at (none (i * 64 + k) (omega arith)) in
    let ne : bit_at (get_or ws i 0) k ≢ 1 = eqb-false _ _ unset in
    let low : bit_at (get_or ws i 0) k < 2 = bit_at-lt (get_or ws i 0) k in
    let none_left : bit_at (get_or ws i 0) k ≡ 0 = omega (arith, ne, low) in none_left ∙ sym (bit_at-zero k))

-- what holds of the first four numbers
below_four : (P : ℕ → Type 0) → P 0 → P 1 → P 2 → P 3 → (i : ℕ) → i < 4 → P i
below_four P p0 p1 p2 p3 zero l = p0
below_four P p0 p1 p2 p3 (suc zero) l = p1
below_four P p0 p1 p2 p3 (suc (suc zero)) l = p2
below_four P p0 p1 p2 p3 (suc (suc (suc zero))) l = p3
below_four P p0 p1 p2 p3 (suc (suc (suc (suc i)))) l = absurd (omega arith)

-- all bits of four words at once
abbrev pub any_bit : List ℕ → ℕ
any_bit ws = bit_or (bit_or (bit_or (get_or ws 0 0) (get_or ws 1 0)) (get_or ws 2 0)) (get_or ws 3 0)

-- words that have no bit have no number
pub none_from_no_bit : (ws : List ℕ) → any_bit ws ≡ 0 → (b : ℕ) → b < 256 → word_has ws b ≡ false
none_from_no_bit ws e b l =
    let a = bit_or (get_or ws 0 0) (get_or ws 1 0) in
    let c = bit_or a (get_or ws 2 0) in
    let outer = le_or_l c (get_or ws 3 0) in
    let inner = le_or_l a (get_or ws 2 0) in
    let first : get_or ws 0 0 ≡ 0 = omega (arith, e, le_or_l (get_or ws 0 0) (get_or ws 1 0), inner, outer) in
    let second : get_or ws 1 0 ≡ 0 = omega (arith, e, le_or_r (get_or ws 0 0) (get_or ws 1 0), inner, outer) in
    let third : get_or ws 2 0 ≡ 0 = omega (arith, e, le_or_r a (get_or ws 2 0), outer) in
    let fourth : get_or ws 3 0 ≡ 0 = omega (arith, e, le_or_r c (get_or ws 3 0)) in
    let at : get_or ws (b / 64) 0 ≡ 0 = below_four (λ i. get_or ws i 0 ≡ 0) first second third fourth (b / 64)
    (omega arith) in
    rw (at, bit_at-zero (b % 64))

-- words that have no number have no bit
pub no_bit_from_none : (ws : List ℕ) → get_or ws 0 0 < 2 ^ 64 → get_or ws 1 0 < 2 ^ 64 → get_or ws 2 0 < 2 ^ 64
    → get_or ws 3 0 < 2 ^ 64
    → ((b : ℕ) → b < 256 → word_has ws b ≡ false) → any_bit ws ≡ 0
no_bit_from_none ws f0 f1 f2 f3 none = rw (
  word_zero ws 0 (omega arith) f0 none,
  word_zero ws 1 (omega arith) f1 none,
  word_zero ws 2 (omega arith) f2 none,
  word_zero ws 3 (omega arith) f3 none,
)
