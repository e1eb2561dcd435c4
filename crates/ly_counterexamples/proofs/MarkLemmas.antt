-- Marks that are added, step by step.
use Rattle.std.proofs.Common.{◌≡◌, ◌≢◌, ◌∙◌, ◌⊎◌, ◌↔◌, inl, inr, ℕ, ◌+◌, ◌<◌, List, Bool, true, false}
use Rattle.std.proofs.Common.{refl, sym, ap, subst, arith, length, slice_index_or, slice_set}
use Rattle.std.proofs.lemmas.Bool.{cases_eq, cases_lt}
use Rattle.std.proofs.lemmas.List.{get_or-set_other, get_or-set_same, get_or_past, length-set}
use Rattle.ly_counterexamples.specs.Private.Marks.{AreAdded, AreMarked, ByStepBefore, IsMarked}

-- a number that is marked is below the count
pub marked_below : (marks : List Bool) (n : ℕ) → IsMarked marks n → n < length marks
marked_below marks n is = elim (cases_lt n (length marks)) [
  | inl lt ↦ lt
  | inr past ↦ absurd (let no : false ≡ true = sym (get_or_past marks n false past) ∙ is in cc)
]

pub none_marked : (marks : List Bool) (count : ℕ) → length marks ≡ count
    → ((n : ℕ) → n < count → slice_index_or marks n false ≡ false) → AreMarked count (λ n. ⊥) marks
none_marked marks count long none = record {
  long = long;
  exact = λ n. (
    λ is.
        let lt : n < count = subst (λ k. n < k) long (marked_below marks n is) in
        absurd (let no : false ≡ true = sym (none n lt) ∙ is in cc),
    λ both. absurd both.1,
  );
}

-- one more
pub set_added : (marks : List Bool) (k : ℕ) → k < length marks → AreAdded (λ n. n ≡ k) marks (slice_set marks k true)
set_added marks k lt = record { long = length-set marks k true; exact = λ n. by n (cases_eq n k) } where
  by : (n : ℕ) → (n ≡ k) ⊎ (n ≢ k)
      → IsMarked (slice_set marks k true) n ↔ (IsMarked marks n ⊎ ((n < length marks) × (n ≡ k)))
  by n (inl same) = (
    λ is. inr (subst (λ m. m < length marks) (sym same) lt, same),
    λ either. ap (λ m. slice_index_or (slice_set marks k true) m false) same ∙ get_or-set_same marks k true false lt,
  )
  by n (inr other) =
      let here : slice_index_or (slice_set marks k true) n false ≡ slice_index_or marks n false
      = get_or-set_other marks k n true false other in (
        λ is. inl (sym here ∙ is),
        λ either. elim either [ inl was ↦ here ∙ was | inr both ↦ absurd (other both.1) ],
      )

-- nothing more
pub nothing_added : (P : ℕ → Type 0) (marks : List Bool) → ((n : ℕ) → n < length marks → P n → ⊥)
    → AreAdded P marks marks
nothing_added P marks none = record {
  long = refl;
  exact = λ n. (λ is. inl is, λ either. elim either [ inl was ↦ was | inr both ↦ absurd (none n both.0 both.1) ]);
}

-- the same numbers by another property
pub added_as : (P Q : ℕ → Type 0) (old new : List Bool) → ((n : ℕ) → P n ↔ Q n) → AreAdded P old new
    → AreAdded Q old new
added_as P Q old new same added = record {
  long = added.long;
  exact = λ n. (
    λ is. elim ((added.exact n).0 is) [ inl was ↦ inl was | inr both ↦ inr (both.0, (same n).0 both.1) ],
    λ either. (added.exact n).1 (elim either [ inl was ↦ inl was | inr both ↦ inr (both.0, (same n).1 both.1) ]),
  );
}

-- some numbers and then others
pub both_added : (P Q : ℕ → Type 0) (first old new : List Bool) → AreAdded P first old → AreAdded Q old new
    → AreAdded (λ n. P n ⊎ Q n) first new
both_added P Q first old new before added = record {
  long = added.long ∙ before.long;
  exact = λ n. (to n, back n);
}
  where
    to : (n : ℕ) → IsMarked new n → IsMarked first n ⊎ ((n < length first) × (P n ⊎ Q n))
    to n is = elim ((added.exact n).0 is) [
      | inl was ↦ elim ((before.exact n).0 was) [
        | inl first ↦ inl first
        | inr both ↦ inr (both.0, inl both.1)
      ]
      | inr both ↦ inr (subst (λ k. n < k) before.long both.0, inr both.1)
    ]

    back : (n : ℕ) → IsMarked first n ⊎ ((n < length first) × (P n ⊎ Q n)) → IsMarked new n
    back n (inl was) = (added.exact n).1 (inl ((before.exact n).1 (inl was)))
    back n (inr (lt, inl is)) = (added.exact n).1 (inl ((before.exact n).1 (inr (lt, is))))
    back n (inr (lt, inr is)) = (added.exact n).1 (inr (subst (λ k. n < k) (sym before.long) lt, is))

-- NUMBERS THAT STEPS ADD, ONE AFTER ANOTHER

pub no_step : (P : ℕ → ℕ → Type 0) (marks : List Bool) → AreAdded (ByStepBefore P 0) marks marks
no_step P marks = nothing_added (ByStepBefore P 0) marks (λ n lt by. let k = by.1 in omega (arith, k))

pub step_added : (P : ℕ → ℕ → Type 0) (i : ℕ) (first old new : List Bool) → AreAdded (ByStepBefore P i) first old
    → AreAdded (P i) old new → AreAdded (ByStepBefore P (i + 1)) first new
step_added P i first old new before added = record {
  long = added.long ∙ before.long;
  exact = λ n. (to n, back n);
}
  where
    to : (n : ℕ) → IsMarked new n → IsMarked first n ⊎ ((n < length first) × ByStepBefore P (i + 1) n)
    to n is = elim ((added.exact n).0 is) [
      | inl was ↦ elim ((before.exact n).0 was) [
        | inl first ↦ inl first
        | inr both ↦ inr (both.0, (both.1.0, (let lt = both.1.1 in omega (arith, lt)), both.1.2))
      ]
      | inr both ↦ inr (subst (λ k. n < k) before.long both.0, (i, omega arith, both.1))
    ]

    last : (n k : ℕ) → k < i + 1 → P k n → n < length first → (k < i) ⊎ (k ≡ i) → IsMarked new n
    last n k lt here within (inl less) = (added.exact n).1 (inl ((before.exact n).1 (inr (within, (k, less, here)))))
    last n k lt here within (inr same) = (added.exact n).1 (inr (
      subst (λ m. n < m) (sym before.long) within,
      subst (λ j. P j n) same here,
    ))

    back : (n : ℕ) → IsMarked first n ⊎ ((n < length first) × ByStepBefore P (i + 1) n) → IsMarked new n
    back n (inl was) = (added.exact n).1 (inl ((before.exact n).1 (inl was)))
    back n (inr (within, (k, lt, here))) = last n k lt here within (elim (cases_lt k i) [
      | inl less ↦ inl less
      | inr past ↦ inr (omega (arith, lt, past))
    ])

pub step_nothing : (P : ℕ → ℕ → Type 0) (i : ℕ) (first old : List Bool) → ((n : ℕ) → P i n → ⊥)
    → AreAdded (ByStepBefore P i) first old → AreAdded (ByStepBefore P (i + 1)) first old
step_nothing P i first old none before = step_added P i first old old before
    (nothing_added (P i) old (λ n lt here. none n here))

-- what was added where nothing was marked
pub all_added : (P : ℕ → Type 0) (count : ℕ) (first marks : List Bool) → AreMarked count (λ n. ⊥) first
    → AreAdded P first marks → AreMarked count P marks
all_added P count first marks none added = record {
  long = added.long ∙ none.long;
  exact = λ n. (
    λ is. elim ((added.exact n).0 is) [
      | inl was ↦ absurd (((none.exact n).0 was).1)
      | inr both ↦ (subst (λ k. n < k) none.long both.0, both.1)
    ],
    λ both. (added.exact n).1 (inr (subst (λ k. n < k) (sym none.long) both.0, both.1)),
  );
}

-- marks by another property
pub marked_as : (P Q : ℕ → Type 0) (count : ℕ) (marks : List Bool) → ((n : ℕ) → n < count → P n ↔ Q n)
    → AreMarked count P marks → AreMarked count Q marks
marked_as P Q count marks same are = record {
  long = are.long;
  exact = λ n. (
    λ is. let both = (are.exact n).0 is in (both.0, (same n both.0).0 both.1),
    λ both. (are.exact n).1 (both.0, (same n both.0).1 both.1),
  );
}
