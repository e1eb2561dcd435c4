-- A text is at most one list of elements, and so one pattern; and so is a side at the front of a line.
use Rattle.std.proofs.Common.{◌≡◌, ℕ, List, [], ◌∷◌, ◌++◌, length, take, drop, refl, sym, ap, subst, ◌∙◌, arith, inl}
use Rattle.std.proofs.Common.{inr, ◌⊎◌}
use Rattle.std.proofs.Common.{length-drop, take-append-drop, Option, Some, None, append-nil}
use Rattle.std.proofs.lemmas.List.{drop_all, take_all}
use Rattle.ly_base.specs.declared.cut.Cut.{Cut}
use Rattle.ly_base.specs.declared.cut.Cut.TheVariants.{Head, Tail}
use Rattle.ly_ere.specs.Elements.{Element, IsElement, AreElements, end, element, caret, dollar_sign, slash}
use Rattle.ly_ere.specs.Expression.{Expression, set}
use Rattle.ly_ere.specs.Grammar.{Alternation, AreSides, Sides, Tailed, anywhere, at_line_start, followed, line_end}
use Rattle.ly_ere.specs.Grammar.{whole}
use Rattle.ly_ere.specs.Laws.{PatternIsOne}
use Rattle.ly_ere.specs.Names.{Definition, defined}
use Rattle.ly_ere.specs.Patterns.{HasOneLength, IsCutOf, IsExpression, SpellsSides, sides_of}
use Rattle.ly_ere.specs.Private.Front.{CanEnd, IsFrontExpression}
use Rattle.ly_ere.specs.Winner.{CutHolds}
use Rattle.ly_ere.specs.declared.pattern.Pattern.{Pattern}
use Rattle.ly_ere.proofs.AppendLemmas.{element_append, end_follows}
use Rattle.ly_ere.proofs.GroupLemmas.{phrase_one}
use Rattle.ly_ere.proofs.ElementLemmas.{element_is_ahead, front_one}
use Rattle.ly_ere.proofs.InsideLemmas.{AreInside, alternation_inside, mark_one, no_mark, some_word}

-- a line has at most one list of words of an expression at its front, up to what may stand behind a side of a pattern
ahead_one : {text other : List ℕ} {ws vs : List Element} → AreElements text ws → AreElements other vs → AreInside ws
    → AreInside vs → (behind rest : List ℕ) → CanEnd behind → CanEnd rest → text ++ behind ≡ other ++ rest
    → (ws ≡ vs) × (behind ≡ rest)
ahead_one end end h k behind rest b c e = (refl, e)
ahead_one end (element u r w ws s g) h k behind rest b c e
    = absurd (element_is_ahead u s k.0 rest (subst CanEnd e b))
ahead_one (element u r w ws s g) end h k behind rest b c e
    = absurd (element_is_ahead u s h.0 behind (subst CanEnd (sym e) c))
ahead_one (element t r w ws s k) (element u l v vs g j) h i behind rest b c e =
    let here = element_append s behind (end_follows r behind b) in
    let there = element_append g rest (end_follows l rest c) in
    let one = front_one here (subst (λ x. IsElement x v (l ++ rest)) (sym e) there) in
    let more = ahead_one k j h.1 i.1 behind rest b c one.1 in
    let first : w ≡ v = one.0 in
    let others : ws ≡ vs = more.0 in
    (cc, more.1)

-- a text is at most one list of elements
elements_one : {t : List ℕ} {ws vs : List Element} → AreElements t ws → AreElements t vs → ws ≡ vs
elements_one end end = refl
elements_one end (element t r w ws s k) = elim s [ ]
elements_one (element t r w ws s k) end = elim s [ ]
elements_one (element t r w ws s k) (element u l v vs g j) =
    let one = front_one s g in
    let more = elements_one k (subst (λ x. AreElements x vs) (sym one.1) j) in
    let first : w ≡ v = one.0 in
    cc

other_mark : dollar_sign ≡ slash → ⊥
other_mark e = cc

-- the words of a head and what follows it, by cases
abbrev HasTail : List Definition → List Element → List Element → Option Expression → Type 0
HasTail names ws us t = ((ws ≡ us) × (t ≡ None))
    ⊎ (((ws ≡ us ++ dollar_sign ∷ []) × (t ≡ Some (set (10 ∷ []))))
    ⊎ ((vs : List Element) × (f : Expression) × Alternation names vs f × (ws ≡ us ++ slash ∷ vs) × (t ≡ Some f)))

pub tailed_parts : (names : List Definition) {ws : List Element} {e : Expression} {t : Option Expression}
    → Tailed names ws e t → (us : List Element) × Alternation names us e × HasTail names ws us t
tailed_parts names (whole {ws = ws} a) = (ws, a, inl (refl, refl))
tailed_parts names (line_end {ws = ws} a) = (ws, a, inr (inl (refl, refl)))
tailed_parts names (followed {ws = ws} {vs = vs} {f = f} a b) = (ws, a, inr (inr (vs, f, b, refl, refl)))

module _ (names : List Definition) where
  -- the words are those of one head
  tailed_one : {ws : List Element} {e f : Expression} {t u : Option Expression} → Tailed names ws e t
      → Tailed names ws f u → (e ≡ f) × (t ≡ u)
  tailed_one {ws} {e} {f} {t} {u} x y =
      let a = tailed_parts names x in
      let b = tailed_parts names y in
      by a.0 b.0 a.1 b.1 a.2 b.2
    where
      heads : (us vs : List Element) → Alternation names us e → Alternation names vs f → us ≡ vs → e ≡ f
      heads us vs a b same = phrase_one names us e f a (rw same b)

      by : (us vs : List Element) → Alternation names us e → Alternation names vs f → HasTail names ws us t
          → HasTail names ws vs u → (e ≡ f) × (t ≡ u)
      by us vs a b (inl p) (inl q) = (heads us vs a b (sym p.0 ∙ q.0), p.1 ∙ sym q.1)
      by us vs a b (inl p) (inr (inl q)) = absurd (no_mark us vs [] dollar_sign (alternation_inside names a) (λ k. k)
          (sym p.0 ∙ q.0))
      by us vs a b (inl p) (inr (inr (xs, g, k, q, r))) = absurd (no_mark us vs xs slash (alternation_inside names a)
          (λ k. k) (sym p.0 ∙ q))
      by us vs a b (inr (inl p)) (inl q) = absurd (no_mark vs us [] dollar_sign (alternation_inside names b) (λ k. k)
          (sym q.0 ∙ p.0))
      by us vs a b (inr (inl p)) (inr (inl q)) =
          let one = mark_one us vs [] [] dollar_sign dollar_sign (alternation_inside names a)
          (alternation_inside names b) (λ k. k) (λ k. k) (sym p.0 ∙ q.0) in
          (heads us vs a b one.0, p.1 ∙ sym q.1)
      by us vs a b (inr (inl p)) (inr (inr (xs, g, k, q, r))) =
          let one = mark_one us vs [] xs dollar_sign slash (alternation_inside names a) (alternation_inside names b)
          (λ k. k) (λ k. k) (sym p.0 ∙ q) in
          absurd (other_mark one.1)
      by us vs a b (inr (inr (xs, g, k, q, r))) (inl p) = absurd (no_mark vs us xs slash (alternation_inside names b)
          (λ k. k) (sym p.0 ∙ q))
      by us vs a b (inr (inr (xs, g, k, q, r))) (inr (inl p)) =
          let one = mark_one us vs xs [] slash dollar_sign (alternation_inside names a) (alternation_inside names b)
          (λ k. k) (λ k. k) (sym q ∙ p.0) in
          absurd (other_mark (sym one.1))
      by us vs a b (inr (inr (xs, g, k, q, r))) (inr (inr (ys, h, l, p, o))) =
          let one = mark_one us vs xs ys slash slash (alternation_inside names a) (alternation_inside names b)
          (λ k. k) (λ k. k) (sym q ∙ p) in (
            heads us vs a b one.0,
            r ∙ (ap Some (phrase_one names xs g h k (rw one.2 l)) ∙ sym o),
          )

  -- `^` begins no head
  pub no_caret : {ws : List Element} {e : Expression} {t : Option Expression} → Tailed names (caret ∷ ws) e t → ⊥
  no_caret {ws} {e} {t} x = let a = tailed_parts names x in by a.0 a.1 a.2
    where
      first : (us : List Element) → Alternation names us e → (vs : List Element) → caret ∷ ws ≡ us ++ vs → ⊥
      first [] a vs q = some_word names e a
      first (u ∷ us) a vs q = let same : u ≡ caret = cc in let k = alternation_inside names a in rw same at k.0

      by : (us : List Element) → Alternation names us e → HasTail names (caret ∷ ws) us t → ⊥
      by us a (inl p) = first us a [] (p.0 ∙ sym (append-nil us))
      by us a (inr (inl p)) = first us a (dollar_sign ∷ []) p.0
      by us a (inr (inr (vs, f, k, q, r))) = first us a (slash ∷ vs) q

  -- words are the sides of one pattern
  sides_one : {ws : List Element} {s u : Sides} → AreSides names ws s → AreSides names ws u → s ≡ u
  sides_one (anywhere a) (anywhere b) = let one = tailed_one a b in let p = one.0 in let q = one.1 in cc
  sides_one (anywhere a) (at_line_start b) = absurd (no_caret a)
  sides_one (at_line_start a) (anywhere b) = absurd (no_caret b)
  sides_one (at_line_start a) (at_line_start b) = let one = tailed_one a b in let p = one.0 in let q = one.1 in cc

  -- a text is the sides of one pattern
  pub spelled_one : (text : List ℕ) (s u : Sides) → SpellsSides names text s → SpellsSides names text u → s ≡ u
  spelled_one text s u x y = sides_one x.2 (rw (elements_one x.1 y.1) y.2)

  -- a text is at most one expression
  pub expression_one : (text : List ℕ) (e f : Expression) → IsExpression names text e → IsExpression names text f
      → e ≡ f
  expression_one text e f x y = phrase_one names x.0 e f x.2 (rw (elements_one x.1 y.1) y.2)

  -- what stands behind the expression at the front of a line
  behind_one : (line : List ℕ) (e f : Expression) (n m : ℕ) → IsFrontExpression names line e n
      → IsFrontExpression names line f m
      → drop n line ≡ drop m line
  behind_one line e f n m x y
      = (ahead_one x.is_expression.1 y.is_expression.1 (alternation_inside names x.is_expression.2)
      (alternation_inside names y.is_expression.2) (drop n line) (drop m line) x.follows y.follows
      (take-append-drop n line ∙ sym (take-append-drop m line))).1

  -- a line has expressions of one length at its front
  pub front_length_one : (line : List ℕ) (e f : Expression) (n m : ℕ) → IsFrontExpression names line e n
      → IsFrontExpression names line f m → n ≡ m
  front_length_one line e f n m x y
      = omega (
        arith,
        ap length (behind_one line e f n m x y),
        length-drop n line,
        length-drop m line,
        x.within,
        y.within,
      )

  pub front_expression_one : (line : List ℕ) (e f : Expression) (n m : ℕ) → IsFrontExpression names line e n
      → IsFrontExpression names line f m → e ≡ f
  front_expression_one line e f n m x y
      = expression_one (take n line) e f x.is_expression
      (subst (λ k. IsExpression names (take k line) f) (sym (front_length_one line e f n m x y)) y.is_expression)

  -- a whole text that is an expression
  pub whole_front : (text : List ℕ) (e : Expression) → IsExpression names text e
      → IsFrontExpression names text e (length text)
  whole_front text e x = record {
    within = omega arith;
    is_expression = rw (take_all (length text) text (omega arith)) x;
    follows = rw (drop_all (length text) text (omega arith)) tt;
  }

-- the one length is determined, since there is a string
pub length_one : (names : List Expression) (e : Expression) (n m : ℕ) → HasOneLength names e n
    → HasOneLength names e m → n ≡ m
length_one names e n m x y = sym (x.all x.string x.belongs) ∙ y.all x.string x.belongs

-- a cut of the sides is determined
cut_one : (names : List Expression) (head : Expression) (tail : Option Expression) (c d : Cut)
    → IsCutOf names head tail c → IsCutOf names head tail d → c ≡ d
cut_one names head None c d x y = x ∙ sym y
cut_one names head (Some t) c d (inl x) (inl y) = x.2 ∙ (ap Head (length_one names head x.0 y.0 x.1 y.1) ∙ sym y.2)
cut_one names head (Some t) c d (inl x) (inr y) = absurd (y.0 x.0 x.1)
cut_one names head (Some t) c d (inr x) (inl y) = absurd (x.0 y.0 y.1)
cut_one names head (Some t) c d (inr x) (inr y) = x.3 ∙ (ap Tail (length_one names t x.1 y.1 x.2 y.2) ∙ sym y.3)

-- patterns with the same sides and the same cut
same_pattern : (p q : Pattern) → sides_of p ≡ sides_of q → p.cut ≡ q.cut → p ≡ q
same_pattern p q sides cut = by (ap (λ (s : Sides). s.line_start) sides) (ap (λ (s : Sides). s.head) sides)
    (ap (λ (s : Sides). s.tail) sides)
  where
    by : p.line_start ≡ q.line_start → p.head ≡ q.head → p.tail ≡ q.tail → p ≡ q
    by line head tail =
        ap (λ b. record p { line_start = b }) line ∙ (ap (λ e. record p { line_start = q.line_start; head = e }) head
        ∙ (ap (λ t. record q { tail = t; cut = p.cut }) tail ∙ ap (λ c. record q { cut = c }) cut))

pub pattern_one : PatternIsOne
pattern_one names text p q x y =
    let sides = spelled_one names text (sides_of p) (sides_of q) x.sides y.sides in
    same_pattern p q sides (cut_one (defined names) p.head p.tail p.cut q.cut x.is_cut
    (subst (λ (s : Sides). IsCutOf (defined names) s.head s.tail q.cut) (sym sides) y.is_cut))

-- the cut of sides tells the truth
pub cut_is_true : (names : List Expression) (head : Expression) (tail : Option Expression) (cut : Cut)
    → IsCutOf names head tail cut → CutHolds names head tail cut
cut_is_true names head None cut x = rw x tt
cut_is_true names head (Some t) cut (inl x) = rw x.2 x.1.all
cut_is_true names head (Some t) cut (inr x) = rw x.3 x.2.all
