-- One more definition.
use Rattle.std.proofs.Common.{◌≡◌, ◌<◌, ◌≤◌, ◌⊎◌, List, [], ◌∷◌, ◌++◌, length, length-append, get_or, Some, sym}
use Rattle.std.proofs.Common.{ap, ◌∙◌, ℕ}
use Rattle.std.proofs.Common.{subst, arith, inl, inr}
use Rattle.std.proofs.Math.ListN.{get_or-append}
use Rattle.std.proofs.Math.Seq.{get_or-append_seam}
use Rattle.std.proofs.lemmas.Bool.{cases_lt}
use Rattle.std.proofs.lemmas.Option.{get_or_from_slice_get, slice_get_within, slice_get-get_or}
use Rattle.ly_ere.specs.Expression.{Expression, empty}
use Rattle.std.proofs.lemmas.Slice.Zip.{seconds-zip}
use Rattle.std.proofs.lemmas.List.{length-map}
use Rattle.std.specs.Prelude.{map, zip}
use Rattle.ly_ere.specs.Names.{AreOrdered, UsesBelow, defined}

-- it uses earlier ones only
pub ordered_push : (names : List Expression) (e : Expression) → AreOrdered names → UsesBelow (length names) e
    → AreOrdered (names ++ e ∷ [])
ordered_push names e ordered uses n d is = by (cases_lt n (length names))
  where
    within : n < length (names ++ e ∷ [])
    within = slice_get_within (names ++ e ∷ []) n d is

    there : get_or (names ++ e ∷ []) n empty ≡ d
    there = get_or_from_slice_get (names ++ e ∷ []) n d empty is

    by : (n < length names) ⊎ (length names ≤ n) → UsesBelow n d
    by (inl less) =
        let same : get_or names n empty ≡ d = sym (get_or-append names (e ∷ []) empty n less) ∙ there in
        ordered n d (slice_get-get_or names n empty less ∙ ap Some same)
    by (inr more) =
        let last : n ≡ length names = omega (arith, within, length-append names (e ∷ [])) in
        let same : e ≡ d = sym (get_or-append_seam names e [] empty)
        ∙ (ap (λ k. get_or (names ++ e ∷ []) k empty) (sym last) ∙ there) in
        subst (λ x. UsesBelow n x) same (subst (λ k. UsesBelow k e) (sym last) uses)

-- the expressions of names and expressions side by side
pub defined_zip : {K : Type 0} (f : K → List ℕ) (ks : List K) (es : List Expression) → length ks ≡ length es
    → defined (zip (map f ks) es) ≡ es
defined_zip f ks es e = seconds-zip (map f ks) es (omega (arith, e, length-map ks f))
