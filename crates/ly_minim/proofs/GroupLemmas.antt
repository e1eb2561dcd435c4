-- States that are grouped by a key, one more at a time.
use Rattle.std.proofs.Common.{◌≡◌, ◌<◌, ◌+◌, ◌∙◌, ◌++◌, ◌∷◌, [], ℕ, List, length, Option, Some, None, sym, ap}
use Rattle.std.proofs.Common.{arith, inl, inr, set, get_or-set_same, get_or-set_other}
use Rattle.std.proofs.lemmas.Bool.{cases_eq, cases_lt}
use Rattle.std.proofs.lemmas.List.{get_or_append_left, get_or_push, get_or_past, length_push}
use Rattle.ly_subset.specs.Automaton.{entry_at}
use Rattle.ly_minim.specs.Private.Groups.{AreChains}

module _ (n : ℕ) (last before : List (Option ℕ)) (chains : AreChains n last before) where
  falls_more : (link : Option ℕ) → ((s : ℕ) → link ≡ Some s → s < n)
      → (s t : ℕ) → entry_at (before ++ link ∷ []) t ≡ Some s → s < t
  falls_more link less s t e = let states = chains.states in elim (cases_lt t n) [
    | inl l ↦ chains.falls s t (sym (get_or_append_left before (link ∷ []) None t (omega (arith, l))) ∙ e)
    | inr g ↦ elim (cases_eq t n) [
      | inl at ↦ omega (
        arith,
        less s (sym (get_or_push before link None n states) ∙ ap (entry_at (before ++ link ∷ [])) (sym at) ∙ e),
        at,
      )
      | inr ne ↦ let no : None ≡ Some s = sym (get_or_past (before ++ link ∷ []) t None
          (omega (arith, g, ne, length_push before link))) ∙ e in absurd (cc)
    ]
  ]

  -- a state with a key
  pub chains_key : (k : ℕ) → k < length last
      → AreChains (n + 1) (set last k (Some n)) (before ++ entry_at last k ∷ [])
  chains_key k l = record {
    states = let states = chains.states in omega (arith, length_push before (entry_at last k));
    within = λ j s e. elim (cases_eq j k) [
      | inl same ↦ let this : Some n ≡ Some s = sym (get_or-set_same last k (Some n) None l)
          ∙ ap (entry_at (set last k (Some n))) (sym same) ∙ e in let last_one : n ≡ s = cc in omega (arith, last_one)
      | inr ne ↦ omega (arith, chains.within j s (sym (get_or-set_other last k j (Some n) None ne) ∙ e))
    ];
    falls = falls_more (entry_at last k) (λ s e. chains.within k s e);
  }
