-- Weights under a cap, and the weights of definitions.
use Rattle.std.proofs.Common.{◌≡◌, ◌≢◌, ℕ, zero, suc, ◌+◌, ◌≤◌, ◌<◌, ◌-◌, List, [], ◌∷◌, ◌++◌, Option, Some, None}
use Rattle.std.proofs.Common.{refl, ap}
use Rattle.std.proofs.Common.{drop, length-take, take, take-append-drop}
use Rattle.std.proofs.Common.{sym, ◌∙◌, arith, length, length-append, get_or, Bool, true, false, rules, nat_eq}
use Rattle.std.specs.Prelude.{min, if◌then◌else◌, MatchOption}
use Rattle.std.proofs.Math.ListN.{get_or-append}
use Rattle.std.proofs.Math.Seq.{get_or-append_seam}
use Rattle.std.proofs.lemmas.Bool.Decides.{nat_tests}
use Rattle.ly_ere.specs.Expression.{Expression, empty}
use Rattle.ly_ere.specs.Weight.{AreWeights, weight_at}
use Rattle.ly_ere.specs.Weight.{named_weight, weight_of, weight_under}

-- one more capped weight
pub push_capped : (ws : List ℕ) (w c k : ℕ) → ((j : ℕ) → get_or ws j 0 ≤ c) → w ≤ c → get_or (ws ++ w ∷ []) k 0 ≤ c
push_capped [] w c zero h le = le
push_capped [] w c (suc k) h le = omega arith
push_capped (v ∷ ws) w c zero h le = h 0
push_capped (v ∷ ws) w c (suc k) h le = push_capped ws w c k (λ j. h (suc j)) le

push_other : (ws : List ℕ) (w k : ℕ) → k ≢ length ws → get_or (ws ++ w ∷ []) k 0 ≡ get_or ws k 0
push_other [] w zero n = absurd (n refl)
push_other [] w (suc k) n = refl
push_other (v ∷ ws) w zero n = refl
push_other (v ∷ ws) w (suc k) n = push_other ws w k (λ e. n (ap suc e))

-- the weights as those of names
pub weights_named : (names : List Expression) (ws : List ℕ) → AreWeights names ws
    → weight_at ws ≡ named_weight names (length names)
weights_named names ws a = λ i x. a.weighed x i

-- later definitions change nothing
named_same : (names more : List Expression) (n x : ℕ) → n ≤ length names
    → named_weight (names ++ more) n x ≡ named_weight names n x
named_same names more zero x l = refl
named_same names more (suc n) x l =
    let earlier : named_weight (names ++ more) n ≡ named_weight names n
    = λ i y. named_same names more n y (omega arith) i in
    ap (λ (f : ℕ → ℕ). if nat_eq x n then weight_under f (get_or (names ++ more) n empty) else f x) earlier
    ∙ ap (λ e. if nat_eq x n then weight_under (named_weight names n) e else named_weight names n x)
    (get_or-append names more empty n (omega arith))

module _ (names : List Expression) (e : Expression) where
  last_length : length (names ++ e ∷ []) ≡ suc (length names)
  last_length = omega (arith, length-append names (e ∷ []))

  last_weight : weight_under (named_weight (names ++ e ∷ []) (length names))
      (get_or (names ++ e ∷ []) (length names) empty)
      ≡ weight_of names e
  last_weight =
      let earlier : named_weight (names ++ e ∷ []) (length names) ≡ named_weight names (length names)
      = λ i y. named_same names (e ∷ []) (length names) y (omega arith) i in
      ap (weight_under (named_weight (names ++ e ∷ []) (length names))) (get_or-append_seam names e [] empty)
      ∙ ap (λ (f : ℕ → ℕ). weight_under f e) earlier

  -- the weight of the last definition, and of an earlier one
  pub weight_of_last : named_weight (names ++ e ∷ []) (suc (length names)) (length names) ≡ weight_of names e
  weight_of_last = by (nat_eq (length names) (length names)) refl
    where
      by : (b : Bool) → nat_eq (length names) (length names) ≡ b
          → named_weight (names ++ e ∷ []) (suc (length names)) (length names) ≡ weight_of names e
      by true t = rw t last_weight
      by false f = absurd (search (rules, nat_tests))

  pub weight_of_earlier : (x : ℕ) → x < length names
      → named_weight (names ++ e ∷ []) (suc (length names)) x ≡ named_weight names (length names) x
  weight_of_earlier x less = by (nat_eq x (length names)) refl
    where
      by : (b : Bool) → nat_eq x (length names) ≡ b
          → named_weight (names ++ e ∷ []) (suc (length names)) x ≡ named_weight names (length names) x
      by true t = let same : x ≡ length names = search (rules, nat_tests) in absurd (omega (arith, same, less))
      by false f = rw f (named_same names (e ∷ []) (length names) x (omega arith))

  module _ (ws : List ℕ) (w : ℕ) (a : AreWeights names ws) (is : w ≡ weight_of names e) where
    push_weighed : (x : ℕ) (b : Bool) → nat_eq x (length names) ≡ b
        → get_or (ws ++ w ∷ []) x 0 ≡ named_weight (names ++ e ∷ []) (suc (length names)) x
    push_weighed x true t =
        let same : x ≡ length names = search (rules, nat_tests) in
        let there : x ≡ length ws = omega (arith, a.counted) in
        rw t (ap (λ k. get_or (ws ++ w ∷ []) k 0) there ∙ get_or-append_seam ws w [] 0 ∙ is ∙ sym last_weight)
    push_weighed x false f =
        let other : x ≢ length names = search (rules, nat_tests) in
        rw f (push_other ws w x (λ same. other (same ∙ a.counted)) ∙ a.weighed x
        ∙ sym (named_same names (e ∷ []) (length names) x (omega arith)))

    -- one more definition
    pub weights_push : AreWeights (names ++ e ∷ []) (ws ++ w ∷ [])
    weights_push = record {
      counted = omega (arith, length-append ws (w ∷ []), last_length, a.counted);
      weighed = λ x. rw last_length (push_weighed x (nat_eq x (length names)) refl);
    }

-- a weight that is capped just above a number, against that number
pub within_cap : (o : Option ℕ) (capped weight most : ℕ) → capped ≡ min weight (most + 1)
    → MatchOption o (most < capped) (λ w. (w ≡ capped) × (w ≤ most))
    → MatchOption o (most < weight) (λ w. (w ≡ weight) × (w ≤ most))
within_cap None capped weight most e h = omega arith
within_cap (Some w) capped weight most e h = (omega (arith, h.0, h.1), h.1)

-- the weight of the definition at a place, by those before it
pub weight_at_place : (names : List Expression) (x : ℕ) → x < length names
    → named_weight names (length names) x ≡ weight_of (take x names) (get_or names x empty)
weight_at_place names x l = ap (λ n. named_weight names n x) (parted (length names) l)
    ∙ (later (length names - suc x) ∙ (here (nat_eq x x) refl ∙ ap (λ (f : ℕ → ℕ). weight_under f
    (get_or names x empty))
    before))
  where
    parted : (n : ℕ) → x < n → n ≡ (n - suc x) + suc x
    parted n l = omega (arith, l)

    later : (k : ℕ) → named_weight names (k + suc x) x ≡ named_weight names (suc x) x
    later zero = ap (λ n. named_weight names n x) (start x)
      where
        start : (x : ℕ) → zero + suc x ≡ suc x
        start x = omega arith
    later (suc k) = ap (λ n. named_weight names n x) (start k x) ∙ (other (nat_eq x (k + suc x)) refl ∙ later k)
      where
        start : (k x : ℕ) → suc k + suc x ≡ suc (k + suc x)
        start k x = omega arith

        other : (b : Bool) → nat_eq x (k + suc x) ≡ b
            → named_weight names (suc (k + suc x)) x ≡ named_weight names (k + suc x) x
        other true t = let same : x ≡ k + suc x = search (rules, nat_tests) in absurd (omega (arith, same))
        other false f = rw f refl

    here : (b : Bool) → nat_eq x x ≡ b
        → named_weight names (suc x) x ≡ weight_under (named_weight names x) (get_or names x empty)
    here true t = rw t refl
    here false f = absurd (search (rules, nat_tests))

    long : length (take x names) ≡ x
    long = omega (arith, l, length-take x names)

    before : named_weight names x ≡ named_weight (take x names) (length (take x names))
    before i y = (ap (λ ns. named_weight ns x y) (sym (take-append-drop x names))
        ∙ (named_same (take x names) (drop x names) x y (omega (arith, long))
        ∙ ap (λ n. named_weight (take x names) n y) (sym long))) i
