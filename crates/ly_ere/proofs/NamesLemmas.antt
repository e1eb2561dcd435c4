-- The definitions of a lex file with one more, as they are kept.
use Rattle.std.proofs.Common.{◌≡◌, ◌⊎◌, ◌++◌, ◌∷◌, [], ◌∙◌, ap, arith, length, length-append, subst, sym, ℕ, List}
use Rattle.std.proofs.Common.{None, Some, inl, inr, true, false}
use Rattle.std.specs.Map.{lookup}
use Rattle.std.specs.Prelude.{cond, map, zip}
use Rattle.std.specs.Str.{bytes_eq}
use Rattle.std.proofs.lemmas.Bool.{cases_Bool}
use Rattle.std.proofs.lemmas.List.{length-map}
use Rattle.std.proofs.lemmas.Slice.Eq.{bytes_eq-Decides}
use Rattle.ly_base.specs.Keys.{PutsAt}
use Rattle.ly_base.proofs.KeyLemmas.{zip_push}
use Rattle.ly_ere.specs.Expression.{Expression, Matches}
use Rattle.ly_ere.specs.Lengths.{AreLengths, AreNamedLengths, IsSound}
use Rattle.ly_ere.specs.Names.{AreOrdered, Definition, UsesBelow, defined, number_of}
use Rattle.ly_ere.specs.Private.Definitions.{AreNumbers}
use Rattle.ly_ere.specs.Weight.{AreWeights, weight_of}
use Rattle.ly_ere.specs.declared.length.Lengths.{Lengths}
use Rattle.ly_ere.proofs.NameLemmas.{defined_zip, ordered_push}
use Rattle.ly_ere.proofs.NamedLengthLemmas.{named_lengths_push}
use Rattle.ly_ere.proofs.PlaceLemmas.{number_new, number_other}
use Rattle.ly_ere.proofs.SoundLemmas.{sound_below}
use Rattle.ly_ere.proofs.WeightLemmas.{weights_push}

-- What is kept of some definitions, and of those with one more.
module _ {K : Type 0} (f : K → List ℕ) (ks js : List K) (es ds : List Expression) (ns : List Definition) (k : K)
    (e : Expression) (view : zip (map f ks) es ≡ ns) (even : length ks ≡ length es) (keys : js ≡ ks ++ k ∷ [])
    (texts : ds ≡ es ++ e ∷ []) where
  there : es ≡ defined ns
  there = sym (defined_zip f ks es even) ∙ ap defined view

  -- each name has an expression
  pub still_even : length js ≡ length ds
  still_even = omega (
    arith,
    ap length keys,
    length-append ks (k ∷ []),
    ap length texts,
    length-append es (e ∷ []),
  )

  -- the new name is the last
  pub with_name : (text : List ℕ) → f k ≡ text → zip (map f js) ds ≡ ns ++ (text, e) ∷ []
  with_name text is = ap (λ i. zip (map f i) ds) keys
      ∙ (ap (zip (map f (ks ++ k ∷ []))) texts
      ∙ (zip_push f ks es k e even
      ∙ (ap (λ t. zip (map f ks) es ++ (t, e) ∷ []) is ∙ ap (λ i. i ++ (text, e) ∷ []) view)))

  -- the new weight is the last
  pub still_weighed : (ws vs : List ℕ) (w : ℕ) → AreWeights es ws → w ≡ weight_of (defined ns) e → vs ≡ ws ++ w ∷ []
      → AreWeights ds vs
  still_weighed ws vs w weights is pushes = subst (λ v. AreWeights ds v) (sym pushes)
      (subst (λ d. AreWeights d (ws ++ w ∷ [])) (sym texts)
      (weights_push es e ws w weights (is ∙ ap (λ i. weight_of i e) (sym there))))

  module _ (ordered : AreOrdered es) (sound : IsSound (length ns) e) where
    uses : UsesBelow (length es) e
    uses =
        let many : length ns ≡ length es = sym (ap length there ∙ length-map ns (λ d. d.1)) in
        subst (λ n. UsesBelow n e) many (sound_below (length ns) e sound)

    -- each uses earlier ones
    pub still_ordered : AreOrdered ds
    still_ordered = subst AreOrdered (sym texts) (ordered_push es e ordered uses)

    -- the new lengths are the last
    pub still_measured : (ls ms : List Lengths) (l : Lengths) → AreNamedLengths es ls
        → AreLengths (weight_of (defined ns) e) (Matches (defined ns) e) l → ms ≡ ls ++ l ∷ []
        → AreNamedLengths ds ms
    still_measured ls ms l lengths is pushes = subst (λ m. AreNamedLengths ds m) (sym pushes)
        (subst (λ d. AreNamedLengths d (ls ++ l ∷ [])) (sym texts)
        (named_lengths_push es e ordered uses ls l lengths
        (subst (λ d. AreLengths (weight_of d e) (Matches d e) l) (sym there) is)))

  -- the new name finds the new number, and each other one what it found
  pub still_numbered : (text : List ℕ) → f k ≡ text → number_of ns text ≡ None → (before after : List (K × ℕ)) (m : ℕ)
      → m ≡ length ks → PutsAt f text m before after → AreNumbers f (zip (map f ks) es) before
      → AreNumbers f (zip (map f js) ds) after
  still_numbered text is new before after m count put numbers n = put n ∙ (by (cases_Bool (bytes_eq n text))
      ∙ ap (λ names. number_of names n) (sym (with_name text is)))
    where
      last : m ≡ length ns
      last = omega (arith, count, even, ap length there, length-map ns (λ d. d.1))

      here : lookup (λ x. bytes_eq n (f x)) before ≡ number_of ns n
      here = numbers n ∙ ap (λ names. number_of names n) view

      by : (bytes_eq n text ≡ true) ⊎ (bytes_eq n text ≡ false)
          → cond (bytes_eq n text) (Some m) (lookup (λ x. bytes_eq n (f x)) before)
          ≡ number_of (ns ++ (text, e) ∷ []) n
      by (inl same) = ap (λ b. cond b (Some m) (lookup (λ x. bytes_eq n (f x)) before)) same
          ∙ (ap Some last ∙ (sym (number_new ns text e new)
          ∙ ap (number_of (ns ++ (text, e) ∷ [])) (sym ((bytes_eq-Decides n text).0 same))))
      by (inr other) = ap (λ b. cond b (Some m) (lookup (λ x. bytes_eq n (f x)) before)) other
          ∙ (here ∙ sym (number_other ns text e n other))
