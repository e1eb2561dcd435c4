-- Lists of rules by their left sides.
use Rattle.std.proofs.Common.{◌≡◌, inl, inr, ℕ, zero, suc, ◌+◌, ◌<◌, ◌≤◌, List, [], ◌∷◌, ◌++◌}
use Rattle.std.proofs.Common.{sym, ◌∙◌, ap, subst, arith, length}
use Rattle.std.specs.Prelude.{◌↔◌, Contains, Some, slice_index_or, slice_set}
use Rattle.std.proofs.lemmas.Bool.{cases_eq, cases_lt}
use Rattle.std.proofs.lemmas.List.{get_or-set_other, get_or-set_same, length-set}
use Rattle.std.proofs.lemmas.List.Elements.{Contains-append_left, Contains-push, Contains-push_cases}
use Rattle.std.proofs.lemmas.Option.{slice_get_within}
use Rattle.ly_join.specs.Grammar.{Grammar, IsRule, GrammarRule, accept_rule}
use Rattle.ly_grammar.specs.Reduction.{IsReduction, Reduction}
use Rattle.ly_grammar.proofs.SearchLemmas.{rule_is_one}
use Rattle.ly_lr0.specs.Private.Closing.{AreByLeft, IsKept}
use Rattle.ly_lr0.proofs.ClosingLemmas.{kept_one}

-- the rules below a number stand in their lists
abbrev pub HasRulesBelow : Grammar → List (List ℕ) → ℕ → Type 0
HasRulesBelow G lists n = (A q : ℕ) → A ≤ G.accept → Contains (slice_index_or lists A []) q
    ↔ ((q < n) × ((r : GrammarRule) × IsRule G q r × (r.left ≡ A)))

module _ (F : Grammar) (R : Reduction) (lists : List (List ℕ)) (n : ℕ) (is : IsReduction F R)
    (count : length lists ≡ R.grammar.accept + 1) (was : HasRulesBelow R.grammar lists n) where
  pub by_left_more : (lists' : List (List ℕ)) (s : GrammarRule) (left : ℕ) → IsKept R.grammar n → IsRule F n s
      → left ≡ s.left
      → lists' ≡ slice_set lists left (slice_index_or lists left [] ++ n ∷ []) → left < length lists
      → (length lists' ≡ R.grammar.accept + 1) × HasRulesBelow R.grammar lists' (n + 1)
  by_left_more lists' s left kept here same set less = (
    ap length set ∙ length-set lists left (slice_index_or lists left [] ++ n ∷ []) ∙ count,
    λ A q le. elim (cases_eq A left) [
      | inl e ↦
          let at : slice_index_or lists' A [] ≡ slice_index_or lists A [] ++ n ∷ []
          = ap (λ ls. slice_index_or ls A []) set
          ∙ ap (λ k. slice_index_or (slice_set lists left (slice_index_or lists left []
          ++ n ∷ [])) k []) e ∙ get_or-set_same lists left (slice_index_or lists left [] ++ n ∷ []) [] less
          ∙ ap (λ k. slice_index_or lists k [] ++ n ∷ []) (sym e) in (
            λ c. elim (Contains-push_cases (slice_index_or lists A []) n q (subst (λ xs. Contains xs q) at c)) [
              | inl old ↦ let r = (was A q le).0 old in (omega (arith, r.0), r.1)
              | inr one ↦ (
                omega (arith, one),
                (s, subst (λ k. IsRule R.grammar k s) one rule, sym same ∙ sym e),
              )
            ],
            λ h. subst (λ xs. Contains xs q) (sym at) (elim (cases_lt q n) [
              | inl low ↦ Contains-append_left (slice_index_or lists A []) (n ∷ []) q ((was A q le).1 (low, h.1))
              | inr past ↦ let last : n ≡ q = omega (arith, h.0, past) in
                  subst (Contains (slice_index_or lists A [] ++ n ∷ [])) last
                  (Contains-push (slice_index_or lists A []) n)
            ]),
          )
      | inr other ↦
          let at : slice_index_or lists' A [] ≡ slice_index_or lists A []
          = ap (λ ls. slice_index_or ls A []) set
          ∙ get_or-set_other lists left A (slice_index_or lists left [] ++ n ∷ []) [] other in (
            λ c. let r = (was A q le).0 (subst (λ xs. Contains xs q) at c) in (omega (arith, r.0), r.1),
            λ h. subst (λ xs. Contains xs q) (sym at) (elim (cases_lt q n) [
              | inl low ↦ (was A q le).1 (low, h.1)
              | inr past ↦
                  let last : q ≡ n = omega (arith, h.0, past) in
                  let one : h.1.0 ≡ s =
                  rule_is_one R.grammar n h.1.0 s (subst (λ k. IsRule R.grammar k h.1.0) last h.1.1) rule in
                  absurd (other (sym h.1.2 ∙ ap (λ r. r.left) one ∙ sym same))
            ]),
          )
    ],
  )
    where
      rule : IsRule R.grammar n s
      rule = kept_one F R n s is kept here

  pub by_left_same : (IsKept R.grammar n → ⊥) → HasRulesBelow R.grammar lists (n + 1)
  by_left_same gone A q le = (
    λ c. let r = (was A q le).0 c in (omega (arith, r.0), r.1),
    λ h. elim (cases_lt q n) [
      | inl low ↦ (was A q le).1 (low, h.1)
      | inr past ↦
          let last : q ≡ n = omega (arith, h.0, past) in
          absurd (gone (h.1.0, subst (λ k. IsRule R.grammar k h.1.0) last h.1.1))
    ],
  )

  pub by_left_done : length F.rules ≤ n → AreByLeft R.grammar lists
  by_left_done end = record {
    augmented = is.augmented;
    count = count;
    rules = λ A q le. (
      λ c. ((was A q le).0 c).1,
      λ h. (was A q le).1 (
        (let less = slice_get_within R.grammar.rules q (Some h.0) h.1 in
            omega (arith, less, is.keeps.numbers, end)),
        h,
      ),
    );
  }

-- a rule's left side has a list
pub left_within : (F : Grammar) (R : Reduction) (n : ℕ) (s : GrammarRule) (left : ℕ) → IsReduction F R
    → IsKept R.grammar n
    → IsRule F n s → left ≡ s.left → (size : ℕ) → size ≡ R.grammar.accept + 1 → left < size
left_within F R zero s left is kept here same size count =
    let one : s ≡ accept_rule R.grammar.accept R.grammar.start
    = rule_is_one R.grammar 0 s _ (kept_one F R 0 s is kept here) is.augmented.rule_0 in
    let left_is = ap (λ r. r.left) one in
    omega (arith, same, count, left_is)
left_within F R (suc n) s left is kept here same size count =
    let within = is.augmented.within (suc n) s (kept_one F R (suc n) s is kept here) (omega arith) in
    let less = within.left in
    omega (arith, same, count, less)
