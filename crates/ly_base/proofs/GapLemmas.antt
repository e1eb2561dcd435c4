-- A gap ends at one place.
use Rattle.std.proofs.lemmas.Bool.{false≢true}
use Rattle.std.specs.Option.{MatchOption}
use denote.Ref.{Bor}
use Rattle.std.proofs.Common.{Option, Some, None, ◌≡◌, ℕ, ◌≤◌, ◌<◌, List, [], ◌∷◌, ◌++◌, IsTrue, take, drop}
use Rattle.std.proofs.Common.{take-append-drop, length-take, refl, sym, ap, ◌∙◌, subst, length, arith, append_assoc}
use Rattle.std.proofs.Common.{length-append, length-drop, get_or, suc, ◌+◌, ◌≢◌, ◌↔◌}
use Rattle.std.proofs.lemmas.List.{nil_from_length}
use Rattle.std.proofs.lemmas.Bool.Decides.{nat_tests}
use Rattle.std.proofs.Common.{◌⊎◌, inl, inr, Bool, true, false, ltb}
use Rattle.std.proofs.Math.Seq.{drop-append_seam}
use Rattle.ly_base.proofs.EscapeLemmas.{byte_at}
use Rattle.ly_base.specs.Language.{is_space}
use Rattle.ly_base.specs.Gap.{HasNo, EndBefore, Closes, last, close, opening, other, Gap, none, space, comment}
use Rattle.ly_base.specs.Gap.{GapBefore, GapEnds}
use Rattle.ly_base.specs.declared.language.Language.{Language}
use Rattle.ly_base.specs.declared.language.Language.TheVariants.{Lex, Yacc}

pub Gap-append : (l : Language) (g h : List ℕ) → Gap l g → Gap l h → Gap l (g ++ h)
Gap-append l g h none b = b
Gap-append l g h (space x s x_space s_gap) b = space x (s ++ h) x_space (Gap-append l s h s_gap b)
Gap-append l g h (comment inside s no_end s_gap) b
    = subst (λ u. Gap l (47 ∷ 42 ∷ u)) (sym (append_assoc inside (42 ∷ 47 ∷ s) h))
    (comment inside (s ++ h) no_end (Gap-append l s h s_gap b))

-- a gap goes on
pub GapBefore-trans : (l : Language) (s t u : List ℕ) → GapBefore l s t → GapBefore l t u → GapBefore l s u
GapBefore-trans l s t u a b = (
  a.0 ++ b.0,
  Gap-append l a.0 b.0 a.1 b.1,
  a.2 ∙ ap (λ x. a.0 ++ x) b.2
      ∙ sym (append_assoc a.0 b.0 u),
)

-- an end of two bytes that differ
module _ (m n : ℕ) (differ : m ≢ n) where
  tail_no_end : (b : ℕ) (s : List ℕ) → HasNo (m ∷ n ∷ []) (b ∷ s) → HasNo (m ∷ n ∷ []) s
  tail_no_end b s h x y e = h (b ∷ x) y (ap (λ u. b ∷ u) e)

  ends_here : (s x y : List ℕ) → HasNo (m ∷ n ∷ []) s → m ∷ n ∷ x ≡ s ++ m ∷ n ∷ y → x ≡ y
  ends_here [] x y h e = cc
  ends_here (b ∷ []) x y h e = let f : n ≡ m = cc in absurd (differ (sym f))
  ends_here (b ∷ c ∷ s) x y h e = absurd (h [] s (cc))

  first_one : (s t x y : List ℕ) → HasNo (m ∷ n ∷ []) s → HasNo (m ∷ n ∷ []) t → s ++ m ∷ n ∷ x ≡ t ++ m ∷ n ∷ y
      → x ≡ y
  first_one [] t x y a b e = ends_here t x y b e
  first_one (c ∷ s) [] x y a b e = sym (ends_here (c ∷ s) y x a (sym e))
  first_one (c ∷ s) (d ∷ t) x y a b e = first_one s t x y (tail_no_end c s a) (tail_no_end d t b) (cc)

-- a comment ends at its first `*/`
pub comment_one : (s t x y : List ℕ) → HasNo (42 ∷ 47 ∷ []) s → HasNo (42 ∷ 47 ∷ []) t
    → s ++ 42 ∷ 47 ∷ x ≡ t ++ 42 ∷ 47 ∷ y → x ≡ y
comment_one = first_one 42 47 (λ e. omega (arith, e))

-- and a block at its first `%}`
pub block_one : (text r s : List ℕ) → EndBefore (37 ∷ 125 ∷ []) text r → EndBefore (37 ∷ 125 ∷ []) text s → r ≡ s
block_one text r s (x, a, e) (y, b, f) = first_one 37 125 (λ g. omega (arith, g)) x y r s a b (sym e ∙ f)

no_slash : (l : Language) (b : ℕ) → IsTrue (is_space l b) → b ≡ 47 → ⊥
no_slash Lex b h f = false≢true (sym (ap (is_space Lex) f) ∙ h)
no_slash Yacc b h f = false≢true (sym (ap (is_space Yacc) f) ∙ h)

-- what stands behind a gap is determined
pub gap_one : (l : Language) (g h r s : List ℕ) → Gap l g → Gap l h → GapEnds l r → GapEnds l s → g ++ r ≡ h ++ s
    → r ≡ s
gap_one l g h r s none none a b e = e
gap_one l g h r s none (space x u x_space u_gap) a b e = absurd (a.no_space x (u ++ s) x_space e)
gap_one l g h r s none (comment inside u no_end u_gap) a b e
    = absurd (a.no_comment inside (u ++ s) (e ∙ ap (λ t. 47 ∷ 42 ∷ t) (append_assoc inside (42 ∷ 47 ∷ u) s)))
gap_one l g h r s (space x u x_space u_gap) none a b e = absurd (b.no_space x (u ++ r) x_space (sym e))
gap_one l g h r s (space x u x_space u_gap) (space y v y_space v_gap) a b e = gap_one l u v r s u_gap v_gap a b (cc)
gap_one l g h r s (space x u x_space u_gap) (comment inside v no_end v_gap) a b e = absurd (no_slash l x x_space (cc))
gap_one l g h r s (comment inside u no_end u_gap) none a b e
    = absurd (b.no_comment inside (u ++ r) (sym e ∙ ap (λ t. 47 ∷ 42 ∷ t) (append_assoc inside (42 ∷ 47 ∷ u) r)))
gap_one l g h r s (comment inside u no_end u_gap) (space y v y_space v_gap) a b e = absurd (no_slash l y y_space (cc))
gap_one l g h r s (comment inside u no_end u_gap) (comment inside' v no_end' v_gap) a b e =
    let f : (inside ++ 42 ∷ 47 ∷ u) ++ r ≡ (inside' ++ 42 ∷ 47 ∷ v) ++ s = cc in
    gap_one l u v r s u_gap v_gap a b (comment_one inside inside' (u ++ r) (v ++ s) no_end no_end'
    (sym (append_assoc inside (42 ∷ 47 ∷ u) r) ∙ f ∙ append_assoc inside' (42 ∷ 47 ∷ v) s))

-- behind `/*` the comment decides
pub opened : (l : Language) (text inside : List ℕ) (r : Option (Bor (List ℕ))) → text ≡ 47 ∷ 42 ∷ inside
    → MatchOption r (HasNo (42 ∷ 47 ∷ []) inside) (λ rest. EndBefore (42 ∷ 47 ∷ []) inside rest.now)
    → MatchOption r (GapEnds l text) (λ rest. GapBefore l text rest.now)
opened l text inside None e h = record {
  no_space = λ b s x_space f. no_slash l b x_space (cc);
  no_comment = λ i s f. h i s (cc);
}
opened l text inside (Some rest) e (i, no_end, f)
    = (
      47 ∷ 42 ∷ (i ++ 42 ∷ 47 ∷ []),
      comment i [] no_end none,
      e
          ∙ ap (λ t. 47 ∷ 42 ∷ t) (f ∙ sym (append_assoc i (42 ∷ 47 ∷ []) rest.now)),
    )

pub space_before : (l : Language) (text : List ℕ) (b : ℕ) (rest : List ℕ) → text ≡ b ∷ rest → IsTrue (is_space l b)
    → GapBefore l text rest
space_before l text b rest e h = (b ∷ [], space b [] h none, e)

-- what holds of nothing, where nothing was found
pub at_none : {T : Type 0} (o : Option T) (P : Type 0) (Q : T → Type 0) → ((x : T) → o ≡ Some x → ⊥) → MatchOption o P Q
    → P
at_none None P Q h m = m
at_none (Some x) P Q h m = absurd (h x refl)

-- an end that doesn't stand at a place stands behind it
pub end_behind : (end text : List ℕ) (n : ℕ) → ((rest : List ℕ) → drop n text ≢ end ++ rest)
    → ((a b : List ℕ) → text ≡ a ++ (end ++ b) → n ≤ length a) → (a b : List ℕ) → text ≡ a ++ (end ++ b)
    → n + 1 ≤ length a
end_behind end text n nowhere before a b e = at (le_or n (length a) (before a b e))
  where
    le_or : (i j : ℕ) → i ≤ j → (i + 1 ≤ j) ⊎ (j ≡ i)
    le_or i j h = by (ltb i j) refl
      where
        by : (t : Bool) → ltb i j ≡ t → (i + 1 ≤ j) ⊎ (j ≡ i)
        by true f = inl (grind (arith, nat_tests))
        by false f = inr (grind (arith, nat_tests))

    at : (n + 1 ≤ length a) ⊎ (length a ≡ n) → n + 1 ≤ length a
    at (inl h) = h
    at (inr h)
        = absurd (nowhere b (ap (drop n) e ∙ ap (λ i. drop i (a ++ (end ++ b))) (sym h)
        ∙ drop-append_seam a (end ++ b)))

-- where the first end stands
pub first_end : (end text rest : List ℕ) (n : ℕ) → 0 < length end → n ≤ length text
    → ((a b : List ℕ) → text ≡ a ++ (end ++ b) → n ≤ length a) → drop n text ≡ end ++ rest → EndBefore end text rest
first_end end text rest n some h before e =
    let whole : text ≡ take n text ++ (end ++ rest) = sym (take-append-drop n text) ∙ ap (λ t. take n text ++ t) e in
    (take n text, λ a b f. clash whole a b f, whole)
  where
    clash : text ≡ take n text ++ (end ++ rest) → (a b : List ℕ) → take n text ≡ a ++ (end ++ b) → ⊥
    clash whole a b f =
        let g : text ≡ a ++ (end ++ (b ++ (end ++ rest))) = whole ∙ ap (λ t. t ++ (end ++ rest)) f
        ∙ append_assoc a (end ++ b) (end ++ rest) ∙ ap (λ t. a ++ t) (append_assoc end b (end ++ rest)) in
        omega (
          arith,
          before a (b ++ (end ++ rest)) g,
          ap length f,
          length-append a (end ++ b),
          length-append end b,
          length-take n text,
          some,
        )

-- lists that are the same begin alike
pub heads : (a b : ℕ) (s t : List ℕ) → a ∷ s ≡ b ∷ t → a ≡ b
heads a b s t e = cc

tails : (a b : ℕ) (s t : List ℕ) → a ∷ s ≡ b ∷ t → s ≡ t
tails a b s t e = cc

-- how the count of open braces goes on
behind_other : (n b : ℕ) (t u rest : List ℕ) → u ≡ b ∷ t → b ≢ 123 → b ≢ 125 → Closes n u rest → Closes n t rest
behind_other n b t u rest e p q (last r) = absurd (q (omega (arith, heads 125 b r t e)))
behind_other n b t u rest e p q (close m v r h) = absurd (q (omega (arith, heads 125 b v t e)))
behind_other n b t u rest e p q (opening m v r h) = absurd (p (omega (arith, heads 123 b v t e)))
behind_other n b t u rest e p q (other m c v r x y h) = subst (λ w. Closes m w r) (tails c b v t e) h

behind_opening : (n : ℕ) (t u rest : List ℕ) → u ≡ 123 ∷ t → Closes n u rest → Closes (suc n) t rest
behind_opening n t u rest e (last r) = absurd (omega (arith, heads 125 123 r t e))
behind_opening n t u rest e (close m v r h) = absurd (omega (arith, heads 125 123 v t e))
behind_opening n t u rest e (opening m v r h) = subst (λ w. Closes (suc m) w r) (tails 123 123 v t e) h
behind_opening n t u rest e (other m c v r x y h) = absurd (x (heads c 123 v t e))

behind_close : (k n : ℕ) (t u rest : List ℕ) → k ≡ suc n → u ≡ 125 ∷ t → Closes k u rest → Closes n t rest
behind_close k n t u rest f e (last r) = absurd (omega (arith, f))
behind_close k n t u rest f e (close m v r h)
    = let same : m ≡ n = omega (arith, f)
    in subst (λ i. Closes i t r) same (subst (λ w. Closes m w r) (tails 125 125 v t e) h)
behind_close k n t u rest f e (opening m v r h) = absurd (omega (arith, heads 123 125 v t e))
behind_close k n t u rest f e (other m c v r x y h) = absurd (y (heads c 125 v t e))

behind_last : (k : ℕ) (t u rest : List ℕ) → k ≡ 0 → u ≡ 125 ∷ t → Closes k u rest → rest ≡ t
behind_last k t u rest f e (last r) = tails 125 125 r t e
behind_last k t u rest f e (close m v r h) = absurd (omega (arith, f))
behind_last k t u rest f e (opening m v r h) = absurd (omega (arith, heads 123 125 v t e))
behind_last k t u rest f e (other m c v r x y h) = absurd (y (heads c 125 v t e))

-- which brace closes is determined
pub closes_one : (n : ℕ) (t r s : List ℕ) → Closes n t r → Closes n t s → r ≡ s
closes_one n t r s (last q) h = sym (behind_last 0 q (125 ∷ q) s refl refl h)
closes_one n t r s (close m u q g) h = closes_one m u q s g (behind_close (suc m) m u (125 ∷ u) s refl refl h)
closes_one n t r s (opening m u q g) h = closes_one (suc m) u q s g (behind_opening m u (123 ∷ u) s refl h)
closes_one n t r s (other m b u q x y g) h = closes_one m u q s g (behind_other m b u (b ∷ u) s refl x y h)

never_closes : (n : ℕ) (u rest : List ℕ) → u ≡ [] → Closes n u rest → ⊥
never_closes n u rest e (last r) = cc e
never_closes n u rest e (close m v r h) = cc e
never_closes n u rest e (opening m v r h) = cc e
never_closes n u rest e (other m c v r x y h) = cc e

module _ (text : List ℕ) (n m at : ℕ) (within : at < length text) (rest : List ℕ) where
  pub step_opening : get_or text at 0 ≡ 123 → m ≡ n + 1 → Closes n (drop at text) rest
      ↔ Closes m (drop (at + 1) text) rest
  step_opening is e =
      let f : drop at text ≡ 123 ∷ drop (at + 1) text = byte_at text at 123 within is in
      let g : suc n ≡ m = omega (arith, e) in (
        λ h. subst (λ i. Closes i (drop (at + 1) text) rest) g
            (behind_opening n (drop (at + 1) text) (drop at text) rest f h),
        λ h. rw f (opening n (drop (at + 1) text) rest (subst (λ i. Closes i (drop (at + 1) text) rest) (sym g) h)),
      )

  pub step_close : get_or text at 0 ≡ 125 → n ≡ m + 1 → Closes n (drop at text) rest
      ↔ Closes m (drop (at + 1) text) rest
  step_close is e =
      let f : drop at text ≡ 125 ∷ drop (at + 1) text = byte_at text at 125 within is in
      let g : n ≡ suc m = omega (arith, e) in (
        behind_close n m (drop (at + 1) text) (drop at text) rest g f,
        λ h. rw (f, g) (close m (drop (at + 1) text) rest h),
      )

  pub step_other : get_or text at 0 ≢ 123 → get_or text at 0 ≢ 125 → m ≡ n
      → Closes n (drop at text) rest ↔ Closes m (drop (at + 1) text) rest
  step_other p q e =
      let b = get_or text at 0 in
      let f : drop at text ≡ b ∷ drop (at + 1) text = byte_at text at b within refl in (
        λ h. rw e (behind_other n b (drop (at + 1) text) (drop at text) rest f p q h),
        λ h. rw f (other n b (drop (at + 1) text) rest p q (subst (λ i. Closes i (drop (at + 1) text) rest) e h)),
      )

pub last_step : (text : List ℕ) (at : ℕ) → at < length text → get_or text at 0 ≡ 125
    → Closes 0 (drop at text) (drop (at + 1) text)
last_step text at within is = rw (byte_at text at 125 within is) (last (drop (at + 1) text))

pub closes_nowhere : (text : List ℕ) (n at : ℕ) (rest : List ℕ) → length text ≤ at → Closes n (drop at text) rest → ⊥
closes_nowhere text n at rest h c
    = never_closes n (drop at text) rest (nil_from_length (drop at text) (omega (arith, length-drop at text))) c
