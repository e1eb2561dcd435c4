-- Places of a body that are marked as they are seen.
use Rattle.std.proofs.Common.{◌≡◌, ◌∙◌, ◌<◌, ◌≤◌, ◌+◌, ℕ, List, Bool, true, false, length, get_or, set, arith, sym, ap}
use Rattle.std.proofs.Common.{inl, inr, replicate}
use Rattle.std.specs.Prelude.{AllPairs}
use Rattle.std.proofs.lemmas.Bool.{cases_lt, cases_eq, false≢true}
use Rattle.std.proofs.lemmas.List.{get_or_default, get_or-replicate, get_or-set_same, get_or-set_other}
use Rattle.std.proofs.lemmas.List.{get_or_past, length-replicate, length-set}

-- Of the first n places no two are equal, and just these are marked.
pub record AreMarked (places : List ℕ) (seen : List Bool) (n : ℕ) : Type 0 where
  pub long : length seen ≡ 256
  pub apart : (i j : ℕ) → i < j → j < n → get_or places i 0 ≡ get_or places j 0 → ⊥
  pub marked : (i : ℕ) → i < n → get_or seen (get_or places i 0) false ≡ true
  pub only : (p : ℕ) → get_or seen p false ≡ true → (i : ℕ) × (i < n) × (get_or places i 0 ≡ p)

pub one_marked : (places : List ℕ) (seen : List Bool) (n : ℕ) → AreMarked places seen n
    → get_or places n 0 < 256 → get_or seen (get_or places n 0) false ≡ false
    → AreMarked places (set seen (get_or places n 0) true) (n + 1)
one_marked places seen n m small new = record {
  long = length-set seen (get_or places n 0) true ∙ m.long;
  apart = λ i j lt below same. elim (cases_lt j n) [
    | inl earlier ↦ m.apart i j lt earlier same
    | inr last ↦ let here : j ≡ n = omega arith in
        let first : get_or seen (get_or places i 0) false ≡ true = m.marked i (omega (arith, lt, here)) in
        let second : get_or places i 0 ≡ get_or places n 0 = same ∙ ap (λ k. get_or places k 0) here in
        false≢true (sym new ∙ ap (λ p. get_or seen p false) (sym second) ∙ first)
  ];
  marked = λ i lt. elim (cases_eq (get_or places i 0) (get_or places n 0)) [
    | inl same ↦ ap (λ p. get_or (set seen (get_or places n 0) true) p false) same
        ∙ get_or-set_same seen (get_or places n 0) true false (omega (arith, m.long, small))
    | inr other ↦ get_or-set_other seen (get_or places n 0) (get_or places i 0) true false other
        ∙ (elim (cases_lt i n) [
          | inl earlier ↦ m.marked i earlier
          | inr last ↦ absurd (other (ap (λ k. get_or places k 0) (omega (arith, lt, last))))
        ])
  ];
  only = λ p is. elim (cases_eq p (get_or places n 0)) [
    | inl same ↦ (n, omega arith, sym same)
    | inr other ↦ let old = m.only p (sym (get_or-set_other seen (get_or places n 0) p true false other) ∙ is) in
        (old.0, omega (arith, old.1), old.2)
  ];
}

none_marked : (p : ℕ) → get_or (replicate 256 false) p false ≡ false
none_marked p = elim (cases_lt p 256) [
  | inl lt ↦ get_or-replicate 256 p false false lt
  | inr past ↦ get_or_past (replicate 256 false) p false (omega (arith, past, length-replicate 256 false))
]

pub none_so_far : (places : List ℕ) → AreMarked places (replicate 256 false) 0
none_so_far places = record {
  long = length-replicate 256 false;
  apart = λ i j lt below same. absurd (omega (arith, below));
  marked = λ i lt. absurd (omega (arith, lt));
  only = λ p is. absurd (false≢true (sym (none_marked p) ∙ is));
}

pub all_apart : (places : List ℕ) (seen : List Bool) (n : ℕ) → AreMarked places seen n → length places ≤ n
    → AllPairs (λ i j. i ≡ j → ⊥) places
all_apart places seen n m all = λ i j d lt below same. m.apart i j lt (omega (arith, below, all))
    (get_or_default places i 0 d (omega (arith, lt, below)) ∙ same ∙ get_or_default places j d 0 below)
