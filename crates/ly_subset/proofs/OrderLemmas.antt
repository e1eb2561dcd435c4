-- Numbers in the order of their first appearance among entries.
use Rattle.std.proofs.Common.{◌≡◌, ◌<◌, ◌≤◌, ◌+◌, ◌*◌, ◌∙◌, ℕ, suc, List, [], ◌∷◌, ◌++◌, Option, Some, None, refl}
use Rattle.std.proofs.Common.{sym}
use Rattle.std.proofs.Common.{subst, arith, inl, inr, length}
use Rattle.std.proofs.lemmas.Bool.{cases_lt}
use Rattle.std.proofs.lemmas.List.{get_or_append_left, get_or_past, get_or_push, length_push}
use Rattle.ly_subset.specs.Automaton.{AreInOrder, entry_at}

-- an entry that leads to a state is there
pub entry_within : (entries : List (Option ℕ)) (k s : ℕ) → entry_at entries k ≡ Some s → k < length entries
entry_within entries k s e = elim (cases_lt k (length entries)) [
  | inl less ↦ less
  | inr past ↦ absurd (let off : None ≡ Some s = sym (get_or_past entries k None past) ∙ e in cc)
]

old_entry : (entries : List (Option ℕ)) (e : Option ℕ) (k : ℕ) → k < length entries
    → entry_at (entries ++ e ∷ []) k ≡ entry_at entries k
old_entry entries e k l = get_or_append_left entries (e ∷ []) None k l

last_entry : (entries : List (Option ℕ)) (e : Option ℕ) → entry_at (entries ++ e ∷ []) (length entries) ≡ e
last_entry entries e = get_or_push entries e None (length entries) refl

-- what holds of the earlier entries and of the last
pub each_entry : (entries : List (Option ℕ)) (e : Option ℕ) (P : ℕ → Option ℕ → Type 0)
    → ((k : ℕ) → k < length entries → P k (entry_at entries k)) → P (length entries) e
    → (k : ℕ) → k < length (entries ++ e ∷ []) → P k (entry_at (entries ++ e ∷ []) k)
each_entry entries e P all one k l = elim (cases_lt k (length entries)) [
  | inl less ↦ subst (P k) (sym (old_entry entries e k less)) (all k less)
  | inr past ↦ let last : length entries ≡ k = omega (arith, length_push entries e, l, past) in
      subst (λ j. P j (entry_at (entries ++ e ∷ []) j)) last (subst (P (length entries)) (sym
      (last_entry entries e)) one)
]

module _ (starts classes count new : ℕ) (entries : List (Option ℕ)) (e : Option ℕ)
    (so : AreInOrder starts classes count entries) (longer : count ≤ new) (within : (s : ℕ) → e ≡ Some s → s < new)
    (fresh : (s : ℕ) → s < new → count ≤ s → (s ≡ count) × (e ≡ Some s)) where
  -- a number that was there, or the one that was added, has appeared
  appeared : (t : ℕ) → e ≡ Some (suc t) → (j : ℕ) × (j < length entries) × (entry_at entries j ≡ Some t)
  appeared t h =
      let less : t < count = elim (cases_lt (suc t) count) [
        | inl less ↦ omega (arith, less)
        | inr past ↦ omega (arith, (fresh (suc t) (within (suc t) h) past).0)
      ] in
      let row = so.before_row t less in
      (row.0, entry_within entries row.0 t row.2, row.2)

  -- one entry more
  pub order_more : ((s : ℕ) → count ≡ s → length entries < starts + s * classes)
      → AreInOrder starts classes new (entries ++ e ∷ [])
  order_more room = record {
    within = λ k s h. each_entry entries e (λ j o. o ≡ Some s → s < new) (λ j l g. omega
        (arith, so.within j s g, longer))
        (within s) k (entry_within (entries ++ e ∷ []) k s h) h;
    in_order = λ k t h. each_entry entries e
        (λ i o. o ≡ Some (suc t) → (j : ℕ) × (j < i) × (entry_at (entries ++ e ∷ []) j ≡ Some t))
        (λ i l g. let was = so.in_order i t g in (
          was.0,
          was.1,
          old_entry entries e was.0 (omega (arith, was.1, l))
              ∙ was.2,
        ))
        (λ g. let was = appeared t g in (was.0, was.1, old_entry entries e was.0 was.1 ∙ was.2))
        k (entry_within (entries ++ e ∷ []) k (suc t) h) h;
    before_row = λ s l. elim (cases_lt s count) [
      | inl less ↦ let was = so.before_row s less in
          (was.0, was.1, old_entry entries e was.0 (entry_within entries was.0 s was.2) ∙ was.2)
      | inr past ↦ let now = fresh s l past in (length entries, room s (sym now.0), last_entry entries e ∙ now.1)
    ];
  }

-- no entries
pub order_none : (starts classes : ℕ) → AreInOrder starts classes 0 []
order_none starts classes = record {
  within = λ k s e. cc;
  in_order = λ k t e. cc;
  before_row = λ s l. absurd (omega (arith, l));
}
