-- A row of words as a set of numbers: its members, and how many they are.
use Rattle.std.proofs.Common.{◌≡◌, ◌∙◌, ◌<◌, ◌≤◌, ◌+◌, ◌*◌, ◌/◌, ◌%◌, ◌^◌, ◌==◌, ◌||◌, ◌&&◌, ℕ, zero, suc, Bool, true}
use Rattle.std.proofs.Common.{false, List, length, get_or, sym, ap, ap₂, refl, arith, inl, inr, nat_lt, nat_eq, cond}
use Rattle.std.proofs.Common.{if◌then◌else◌}
use Rattle.std.specs.Int.RustNames.{count_ones}
use Rattle.std.specs.Ordering.{nat_cmp}
use Rattle.std.specs.Cmp.{nat_cmp_total, unsigned_tied}
use Rattle.std.specs.FinSet as set
use Rattle.std.specs.FinSet.{nat_cmp-IsAntisymmetric, same_set, contains-empty, contains-insert, contains-union}
use Rattle.std.specs.FinSet.{len-empty, len-insert}
use Rattle.std.specs.Int.{bit_at}
use Rattle.std.proofs.lemmas.Bool.{cases_lt, cases_eq}
use Rattle.std.proofs.lemmas.List.{get_or_past}
use Rattle.std.proofs.Math.Nat.{mod-eq_of_lt}
use Rattle.std.proofs.lemmas.Nat.{mod-pow-add, pow_pos, ones_cat}
use Rattle.std.proofs.lemmas.Nat.Bits.{bit_at-lt, bit_at-zero}
use Rattle.ly_sets.specs.NumberSet.{NumberSet, has_bit, passing_below, set_of}

-- two sets with the same members are one
pub same_members : (s t : NumberSet) → ((q : ℕ) → set.contains s q ≡ set.contains t q) → s ≡ t
same_members s t h = same_set nat_cmp_total nat_cmp-IsAntisymmetric s t h

pub contains-insert_nat : (s : NumberSet) (k q : ℕ) → set.contains (set.insert s k) q ≡ (nat_eq q k || set.contains s q)
contains-insert_nat s k q = contains-insert nat_cmp_total s k q ∙ ap (λ b. b || set.contains s q) (unsigned_tied q k)

pub contains-union_nat : (s t : NumberSet) (q : ℕ)
    → set.contains (set.union s t) q ≡ (set.contains s q || set.contains t q)
contains-union_nat s t q = contains-union nat_cmp_total s t q

-- ---- the numbers below a bound that pass a test

passing_step : (b : Bool) (s : NumberSet) (p : ℕ → Bool) (n q : ℕ) → p n ≡ b → set.contains s q ≡ (nat_lt q n && p q)
    → set.contains (if b then set.insert s n else s) q ≡ (nat_lt q (suc n) && p q)
passing_step true s p n q e h = contains-insert_nat s n q ∙ ap (λ b. nat_eq q n || b) h ∙ elim (cases_eq q n) [
  | inl same ↦ (let a : p q ≡ true = ap p same ∙ e in grind (arith, a))
  | inr ne ↦ grind arith
]
passing_step false s p n q e h = h ∙ elim (cases_eq q n) [
  | inl same ↦ (let a : p q ≡ false = ap p same ∙ e in grind (arith, a))
  | inr ne ↦ grind arith
]

pub contains-passing_below : (p : ℕ → Bool) (n q : ℕ) → set.contains (passing_below p n) q ≡ (nat_lt q n && p q)
unfolding passing_below
contains-passing_below p zero q = contains-empty nat_cmp q ∙ grind arith
contains-passing_below p (suc n) q = passing_step (p n) (passing_below p n) p n q refl (contains-passing_below p n q)

len_step : (b : Bool) (s : NumberSet) (n : ℕ) → set.contains s n ≡ false → set.len (if b then set.insert s n else s)
    ≡ set.len s + cond b 1 0
len_step true s n h = len-insert nat_cmp_total s n ∙ ap (λ b. cond b (set.len s) (set.len s + 1)) h
len_step false s n h = omega arith

pub len-passing_below-suc : (p : ℕ → Bool) (n : ℕ)
    → set.len (passing_below p (suc n)) ≡ set.len (passing_below p n) + cond (p n) 1 0
unfolding passing_below
len-passing_below-suc p n = len_step (p n) (passing_below p n) n (contains-passing_below p n n ∙ grind arith)

pub len-passing_below-zero : (p : ℕ → Bool) → set.len (passing_below p 0) ≡ 0
unfolding passing_below
len-passing_below-zero p = len-empty nat_cmp

-- where only numbers below a width pass, there are no more of them
pub len-passing_below-le : (p : ℕ → Bool) (n width : ℕ) → ((q : ℕ) → q < n → p q ≡ true → q < width)
    → (set.len (passing_below p n) ≤ n) × (set.len (passing_below p n) ≤ width)
len-passing_below-le p zero width h = (let e = len-passing_below-zero p in (omega arith, omega arith))
len-passing_below-le p (suc n) width h =
    let before = len-passing_below-le p n width (λ q lt pass. h q (omega arith) pass) in
    step (p n) refl before.0 before.1 (len-passing_below-suc p n)
  where
    step : (b : Bool) → p n ≡ b → set.len (passing_below p n) ≤ n → set.len (passing_below p n) ≤ width
        → set.len (passing_below p (suc n)) ≡ set.len (passing_below p n) + cond b 1 0
        → (set.len (passing_below p (suc n)) ≤ suc n) × (set.len (passing_below p (suc n)) ≤ width)
    step true pass le_n le_width e = (omega arith, (let below : n < width = h n (omega arith) pass in omega arith))
    step false pass le_n le_width e = (omega arith, omega arith)

-- ---- the bits of words

-- no bit is set past the words
pub has_bit-past : (words : List ℕ) (q : ℕ) → 64 * length words ≤ q → has_bit words q ≡ false
has_bit-past words q le = ap (λ w. bit_at w (q % 64) == 1) (get_or_past words (q / 64) 0 (omega arith))
    ∙ ap (λ b. b == 1) (bit_at-zero (q % 64))

pub contains-set_of : (words : List ℕ) (q : ℕ) → set.contains (set_of words) q ≡ has_bit words q
unfolding set_of
contains-set_of words q = contains-passing_below (has_bit words) (64 * length words) q
    ∙ elim (cases_lt q (64 * length words)) [
      | inl lt ↦ grind arith
      | inr ge ↦ (let e = has_bit-past words q ge in grind (arith, e))
    ]

-- ---- how many

low_ones : (b : ℕ) → b < 2 → count_ones b ≡ cond (b == 1) 1 0
unfolding count_ones
low_ones zero h = refl
low_ones (suc zero) h = refl
low_ones (suc (suc b)) h = absurd (omega arith)

-- one more bit of a word
ones-more : (word i : ℕ) → count_ones (word % 2 ^ (1 + i)) ≡ count_ones (word % 2 ^ i) + cond (bit_at word i == 1) 1 0
ones-more word i =
    let two : word / 2 ^ i % 2 ^ 1 ≡ bit_at word i = refl in
    ap count_ones (mod-pow-add word 1 i) ∙ ones_cat i (bit_at word i) (word % 2 ^ i) (omega (arith, pow_pos i))
    ∙ omega (arith, low_ones (bit_at word i) (bit_at-lt word i))

-- the bits of a word below i, after those of the words before it
pub len-bits : (words : List ℕ) (at i : ℕ) → i ≤ 64 → set.len (passing_below (has_bit words) (64 * at + i))
    ≡ set.len (passing_below (has_bit words) (64 * at)) + count_ones (get_or words at 0 % 2 ^ i)
len-bits words at zero le =
    let none : get_or words at 0 % 2 ^ 0 ≡ 0 = omega arith in
    let here : 64 * at + 0 ≡ 64 * at = omega arith in
    ap (λ n. set.len (passing_below (has_bit words) n)) here
    ∙ omega (arith, ap count_ones none, low_ones 0 (omega arith))
len-bits words at (suc i) le =
    let next : 64 * at + suc i ≡ suc (64 * at + i) = omega arith in
    let word : (64 * at + i) / 64 ≡ at = omega arith in
    let bit : (64 * at + i) % 64 ≡ i = omega arith in
    let test : has_bit words (64 * at + i) ≡ (bit_at (get_or words at 0) i == 1)
    = ap₂ (λ w b. bit_at (get_or words w 0) b == 1) word bit in
    let one : 1 + i ≡ suc i = omega arith in
    let more : count_ones (get_or words at 0 % 2 ^ suc i) ≡ count_ones (get_or words at 0 % 2 ^ i) + cond
    (bit_at (get_or words at 0) i == 1) 1 0 = ap (λ n. count_ones (get_or words at 0 % 2 ^ n)) (sym one)
    ∙ ones-more (get_or words at 0) i in
    let step : set.len (passing_below (has_bit words) (64 * at + suc i))
    ≡ set.len (passing_below (has_bit words) (64 * at + i)) + cond (bit_at (get_or words at 0) i == 1) 1 0 =
    ap (λ n. set.len (passing_below (has_bit words) n)) next ∙ len-passing_below-suc (has_bit words) (64 * at + i)
    ∙ ap (λ b. set.len (passing_below (has_bit words) (64 * at + i)) + cond b 1 0) test in
    omega (arith, step, more, len-bits words at i (omega arith))

-- one more word
pub len-word : (words : List ℕ) (at : ℕ) → get_or words at 0 < 2 ^ 64
    → set.len (passing_below (has_bit words) (64 * (at + 1)))
    ≡ set.len (passing_below (has_bit words) (64 * at)) + count_ones (get_or words at 0)
len-word words at fits =
    let next : 64 * (at + 1) ≡ 64 * at + 64 = omega arith in
    let whole : get_or words at 0 % 2 ^ 64 ≡ get_or words at 0 = mod-eq_of_lt fits in
    ap (λ n. set.len (passing_below (has_bit words) n)) next ∙ len-bits words at 64 (omega arith)
    ∙ ap (λ w. set.len (passing_below (has_bit words) (64 * at)) + count_ones w) whole

pub len-set_of : (words : List ℕ) → set.len (set_of words) ≡ set.len (passing_below (has_bit words) (64 * length words))
unfolding set_of
len-set_of words = refl
