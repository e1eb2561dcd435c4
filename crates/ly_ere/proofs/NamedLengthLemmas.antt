-- The lengths of definitions stay what they are while definitions are added.
use Rattle.std.proofs.Common.{◌≡◌, ℕ, zero, suc, ◌<◌, ◌≤◌, ◌⊎◌, List, [], ◌∷◌, ◌++◌, length, Some, refl, sym, ap}
use Rattle.std.proofs.Common.{subst, ◌∙◌, arith, inl, inr, length-append, slice_get}
use Rattle.std.proofs.Math.ListN.{get_or-append}
use Rattle.std.proofs.Math.Seq.{get_or-append_seam}
use Rattle.std.proofs.lemmas.Bool.{cases_lt}
use Rattle.ly_base.proofs.ListLemmas.{slice_get-append, slice_get-behind}
use Rattle.ly_base.proofs.BeforeLemmas.{slice_get-before}
use Rattle.ly_ere.specs.Expression.{Expression, Matches, MatchesUnder, NamedUpTo, name}
use Rattle.ly_ere.specs.Lengths.{AreLengths, AreNamedLengths, far, lengths_at}
use Rattle.ly_ere.specs.Names.{AreOrdered, UsesBelow}
use Rattle.ly_ere.specs.Weight.{named_weight, weight_of}
use Rattle.ly_ere.specs.declared.length.Lengths.{Lengths}
use Rattle.ly_ere.proofs.LengthLemmas.{lengths_same}
use Rattle.ly_ere.proofs.NameLaws.{change}
use Rattle.ly_ere.proofs.WeightLemmas.{weight_of_last, weight_of_earlier}

module _ (names : List Expression) (e : Expression) where
  earlier : (n : ℕ) (d : Expression) → n < length names → slice_get names n ≡ Some d
      → slice_get (names ++ e ∷ []) n ≡ Some d
  earlier n d less is = slice_get-append names (e ∷ []) n d is

  there : (n : ℕ) (d : Expression) → n < length names → slice_get (names ++ e ∷ []) n ≡ Some d
      → slice_get names n ≡ Some d
  there n d less is = slice_get-before names (e ∷ []) n d less is

  module _ (ordered : AreOrdered names) where
    grown : (n x : ℕ) (w : List ℕ) → n ≤ length names → NamedUpTo names n x w → NamedUpTo (names ++ e ∷ []) n x w
    grown zero x w le h = h
    grown (suc n) x w le (inl h) = inl (
      h.0,
      h.1,
      earlier n h.1 (omega arith) h.2,
      change (NamedUpTo names n)
          (NamedUpTo (names ++ e ∷ []) n) n (λ y v less k. grown n y v (omega arith) k) h.1 w (ordered n h.1 h.2) h.3,
    )
    grown (suc n) x w le (inr h) = inr (h.0, grown n x w (omega arith) h.1)

    shrunk : (n x : ℕ) (w : List ℕ) → n ≤ length names → NamedUpTo (names ++ e ∷ []) n x w → NamedUpTo names n x w
    shrunk zero x w le h = h
    shrunk (suc n) x w le (inl h) = let is = there n h.1 (omega arith) h.2
        in inl (
          h.0,
          h.1,
          is,
          change (NamedUpTo (names ++ e ∷ []) n) (NamedUpTo names n) n
              (λ y v less k. shrunk n y v (omega arith) k) h.1 w (ordered n h.1 is) h.3,
        )
    shrunk (suc n) x w le (inr h) = inr (h.0, shrunk n x w (omega arith) h.1)

    last_is : slice_get (names ++ e ∷ []) (length names) ≡ Some e
    last_is = slice_get-behind names [] (length names) e refl

    module _ (uses : UsesBelow (length names) e) where
      -- the last definition
      last_grown : (w : List ℕ) → Matches names e w → NamedUpTo (names ++ e ∷ []) (suc (length names)) (length names) w
      last_grown w h = inl (
        refl,
        e,
        last_is,
        change (NamedUpTo names (length names))
            (NamedUpTo (names ++ e ∷ []) (length names)) (length names)
            (λ y v less k. grown (length names) y v (omega arith) k) e w uses h,
      )

      last_shrunk : (w : List ℕ) → NamedUpTo (names ++ e ∷ []) (suc (length names)) (length names) w → Matches names e w
      last_shrunk w (inl h) =
          let same : h.1 ≡ e = some_one (sym h.2 ∙ last_is) in
          change (NamedUpTo (names ++ e ∷ []) (length names)) (NamedUpTo names (length names)) (length names)
          (λ y v less k. shrunk (length names) y v (omega arith) k) e w uses
          (subst (λ d. MatchesUnder (NamedUpTo (names ++ e ∷ []) (length names)) d w) same h.3)
        where
          some_one : {d f : Expression} → Some d ≡ Some f → d ≡ f
          some_one q = cc
      last_shrunk w (inr h) = absurd (omega (arith, h.0))

      -- one more definition
      pub named_lengths_push : (ls : List Lengths) (l : Lengths) → AreNamedLengths names ls
          → AreLengths (weight_of names e) (Matches names e) l → AreNamedLengths (names ++ e ∷ []) (ls ++ l ∷ [])
      named_lengths_push ls l a b = record {
        counted = omega (arith, length-append ls (l ∷ []), length-append names (e ∷ []), a.counted);
        measured = λ x less. subst
            (λ n. AreLengths (named_weight (names ++ e ∷ []) n x) (NamedUpTo (names ++ e ∷ []) n x)
            (lengths_at (ls ++ l ∷ []) x)) (sym many) (by x (cases_lt x (length names)) less);
      }
        where
          none : Lengths
          none = record { least = 0; most = 0 }

          many : length (names ++ e ∷ []) ≡ suc (length names)
          many = omega (arith, length-append names (e ∷ []))

          by : (x : ℕ) → (x < length names) ⊎ (length names ≤ x) → x < length (names ++ e ∷ [])
              → AreLengths (named_weight (names ++ e ∷ []) (suc (length names)) x)
              (NamedUpTo (names ++ e ∷ []) (suc (length names)) x) (lengths_at (ls ++ l ∷ []) x)
          by x (inl before) less = rw (get_or-append ls (l ∷ []) none x (omega (arith, a.counted, before)))
              (lengths_same far (named_weight names (length names) x)
              (named_weight (names ++ e ∷ []) (suc (length names)) x) (Matches names (name x))
              (NamedUpTo (names ++ e ∷ []) (suc (length names)) x) (lengths_at ls x)
              (omega (arith, weight_of_earlier names e x before))
              (λ u h. inr (before, grown (length names) x u (omega arith) h)) (λ u h. later x before u h)
              (a.measured x before))
            where
              later : (x : ℕ) → x < length names → (u : List ℕ) → NamedUpTo (names ++ e ∷ []) (suc (length names)) x u
                  → Matches names (name x) u
              later x before u (inl h) = absurd (omega (arith, h.0, before))
              later x before u (inr h) = shrunk (length names) x u (omega arith) h.1
          by x (inr after) less =
              let here : length names ≡ x = omega (arith, after, less, many) in
              let last : lengths_at (ls ++ l ∷ []) (length names) ≡ l
              = ap (lengths_at (ls ++ l ∷ [])) (sym a.counted) ∙ get_or-append_seam ls l [] none in
              subst (λ y. AreLengths (named_weight (names ++ e ∷ []) (suc (length names)) y)
              (NamedUpTo (names ++ e ∷ []) (suc (length names)) y) (lengths_at (ls ++ l ∷ []) y)) here
              (rw last (lengths_same far (weight_of names e)
              (named_weight (names ++ e ∷ []) (suc (length names)) (length names)) (Matches names e)
              (NamedUpTo (names ++ e ∷ []) (suc (length names)) (length names)) l
              (omega (arith, weight_of_last names e)) last_grown last_shrunk b))
