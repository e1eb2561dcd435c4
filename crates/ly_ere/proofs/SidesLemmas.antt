-- The sides of a pattern at the front of a line, by its head and what stands behind that.
use Rattle.std.proofs.Common.{◌≡◌, ◌≢◌, ℕ, ◌+◌, List, [], ◌∷◌, ◌++◌, length, take, drop, Option, Some, None, true}
use Rattle.std.proofs.Common.{false}
use Rattle.std.proofs.Common.{refl, sym, ap, subst, ◌∙◌, arith, inl, inr, ◌⊎◌, append_assoc, length-append, length-take}
use Rattle.std.proofs.Common.{take-append-drop, get_or}
use Rattle.std.proofs.lemmas.Bool.Decides.{nat_tests}
use Rattle.std.proofs.lemmas.Bool.{false≢true}
use Rattle.std.proofs.lemmas.List.{append-nil}
use Rattle.std.proofs.Math.Seq.{drop-append_seam, take-append_seam}
use Rattle.ly_ere.specs.Elements.{Element, IsElement, AreElements, end, element, sign, sign_of, caret, dollar_sign}
use Rattle.ly_ere.specs.Elements.{slash}
use Rattle.ly_ere.specs.Expression.{Expression, set}
use Rattle.ly_ere.specs.Grammar.{Alternation, AreSides, Sides, Tailed, anywhere, at_line_start, followed, line_end}
use Rattle.ly_ere.specs.Grammar.{whole}
use Rattle.ly_ere.specs.Names.{Definition}
use Rattle.ly_ere.specs.Patterns.{HasFrontSides, IsBehind, IsExpression, SpellsSides}
use Rattle.ly_ere.specs.Private.Front.{CanEnd, IsFrontExpression, IsFrontTail, IsFrontTailed, newline, none, tail}
use Rattle.ly_ere.proofs.AppendLemmas.{behind_end, element_append, end_cases, end_follows}
use Rattle.ly_ere.proofs.CutLemmas.{element_cut}
use Rattle.ly_ere.proofs.ElementLemmas.{caret_at, dollar_at, front_one, slash_at}
use Rattle.ly_ere.proofs.InsideLemmas.{some_word}
use Rattle.ly_ere.proofs.PatternLaws.{front_expression_one, front_length_one, no_caret, tailed_parts}

-- neither `$` nor `/` may stand behind a pattern
not_behind_36 : (rest : List ℕ) → IsBehind (36 ∷ rest) → ⊥
not_behind_36 rest h = false≢true h

not_behind_47 : (rest : List ℕ) → IsBehind (47 ∷ rest) → ⊥
not_behind_47 rest h = false≢true h

-- what may stand behind a side is `$`, if it is neither `/` nor may stand behind a pattern
pub dollar_left : (line : List ℕ) → CanEnd line → (IsBehind line → ⊥) → ((rest : List ℕ) → line ≢ 47 ∷ rest)
    → line ≡ 36 ∷ drop 1 line
dollar_left [] c behind other = absurd (behind tt)
dollar_left (b ∷ line) c behind other = elim (end_cases b c) [
  | inl e ↦ absurd (behind (rw e refl))
  | inr o ↦ elim o [
    | inl e ↦ absurd (behind (rw e refl))
    | inr q ↦ elim q [ inl e ↦ absurd (other line (ap (λ x. x ∷ line) e)) | inr e ↦ ap (λ x. x ∷ line) e ]
  ]
]

-- elements, and more behind them
join : {t more : List ℕ} {ws vs : List Element} → AreElements t ws → AreElements more vs → CanEnd more
    → AreElements (t ++ more) (ws ++ vs)
join end k c = k
join {more = more} {vs = vs} (element u r w ws s h) k c
    = element (u ++ more) (r ++ more) w (ws ++ vs) (element_append s more (end_follows r more c)) (join h k c)

-- elements, parted before one of them
split : (text : List ℕ) (us : List Element) (m : Element) (vs : List Element) → AreElements text (us ++ m ∷ vs)
    → (t : List ℕ) × (u : List ℕ) × (text ≡ t ++ u) × AreElements t us × AreElements u (m ∷ vs)
split text [] m vs k = ([], text, refl, end, k)
split text (w ∷ us) m vs (element t r x ys s k) =
    let d = split r us m vs k in
    let c = element_cut s d.0 d.1 d.2 in
    (c.0, d.1, c.1, element c.0 d.0 w us c.2 d.3, d.4)

-- the byte of a mark
slash_byte : (b : ℕ) → sign_of b ≡ Some slash → b ≡ 47
slash_byte b p = grind (arith, nat_tests)

dollar_byte : (b : ℕ) → sign_of b ≡ Some dollar_sign → b ≡ 36
dollar_byte b p = grind (arith, nat_tests)

caret_byte : (b : ℕ) → sign_of b ≡ Some caret → b ≡ 94
caret_byte b p = grind (arith, nat_tests)

mark_behind : (b : ℕ) (m : Element) → ((c : ℕ) → sign_of c ≡ Some m → c ≡ b) → (u : List ℕ) (vs : List Element)
    → ((t r : List ℕ) → IsElement t m r → t ≡ b ∷ r) → AreElements u (m ∷ vs)
    → (rest : List ℕ) × (u ≡ b ∷ rest) × AreElements rest vs
mark_behind b m is u vs spelled (element t r w ys s k) = (r, spelled t r s, k)

slash_spelled : (t r : List ℕ) → IsElement t slash r → t ≡ 47 ∷ r
slash_spelled t r (sign b w rest p) = ap (λ c. c ∷ r) (slash_byte b p)

dollar_spelled : (t r : List ℕ) → IsElement t dollar_sign r → t ≡ 36 ∷ r
dollar_spelled t r (sign b w rest p) = ap (λ c. c ∷ r) (dollar_byte b p)

caret_spelled : (t r : List ℕ) → IsElement t caret r → t ≡ 94 ∷ r
caret_spelled t r (sign b w rest p) = ap (λ c. c ∷ r) (caret_byte b p)

no_words : (t : List ℕ) → AreElements t [] → t ≡ []
no_words t end = refl

module _ (names : List Definition) where
  -- an expression in front of what may stand behind a side
  front_of : (t l : List ℕ) (e : Expression) → IsExpression names t e → CanEnd l
      → IsFrontExpression names (t ++ l) e (length t)
  front_of t l e x c = record {
    within = omega (arith, length-append t l);
    is_expression = rw (take-append_seam t l) x;
    follows = rw (drop-append_seam t l) c;
  }

  tailed_of : (t l : List ℕ) (e : Expression) (u : Option Expression) (more n : ℕ) → IsExpression names t e → CanEnd l
      → IsFrontTail names l u more → n ≡ length t + more → IsFrontTailed names (t ++ l) e u n
  tailed_of t l e u more n x c k q = record {
    at = length t;
    more = more;
    head = front_of t l e x c;
    tail = rw (drop-append_seam t l) k;
    is = q;
  }

  -- the words of a head and its tail, in front of what may stand behind a pattern
  tailed_back : (text behind : List ℕ) {ws : List Element} {e : Expression} {t : Option Expression}
      → AreElements text ws → Tailed names ws e t → IsBehind behind
      → IsFrontTailed names (text ++ behind) e t (length text)
  tailed_back text behind {ws} {e} {t} k x b = let a = tailed_parts names x in by a.0 a.1 a.2
    where
      by : (us : List Element) → Alternation names us e → (((ws ≡ us) × (t ≡ None))
          ⊎ (((ws ≡ us ++ dollar_sign ∷ []) × (t ≡ Some (set (10 ∷ []))))
          ⊎ ((vs : List Element) × (f : Expression) × Alternation names vs f × (ws ≡ us ++ slash ∷ vs) × (t ≡ Some f))))
          → IsFrontTailed names (text ++ behind) e t (length text)
      by us a (inl p) = rw p.1 (tailed_of text behind e None 0 (length text) (us, rw (← p.0) k, a) (behind_end behind b)
          (none behind b) (omega arith))
      by us a (inr (inl p)) =
          let d = split text us dollar_sign [] (rw (← p.0) k) in
          let m = mark_behind 36 dollar_sign dollar_byte d.1 [] dollar_spelled d.4 in
          let one : d.1 ≡ 36 ∷ [] = m.1 ∙ ap (λ r. 36 ∷ r) (no_words m.0 m.2) in
          let whole : text ≡ d.0 ++ 36 ∷ [] = d.2 ∙ ap (λ u. d.0 ++ u) one in
          let line : text ++ behind ≡ d.0 ++ 36 ∷ behind
          = ap (λ u. u ++ behind) whole ∙ append_assoc d.0 (36 ∷ []) behind in
          rw (p.1, line) (tailed_of d.0 (36 ∷ behind) e (Some (set (10 ∷ []))) 1 (length text) (us, d.3, a) refl
          (newline behind b) (omega (arith, ap length whole, length-append d.0 (36 ∷ []))))
      by us a (inr (inr (vs, f, g, p, q))) =
          let d = split text us slash vs (rw (← p) k) in
          let m = mark_behind 47 slash slash_byte d.1 vs slash_spelled d.4 in
          let whole : text ≡ d.0 ++ 47 ∷ m.0 = d.2 ∙ ap (λ u. d.0 ++ u) m.1 in
          let line : text ++ behind ≡ d.0 ++ 47 ∷ (m.0 ++ behind)
          = ap (λ u. u ++ behind) whole ∙ append_assoc d.0 (47 ∷ m.0) behind in
          let follows = front_of m.0 behind f (vs, m.2, g) (behind_end behind b) in
          rw (q, line) (tailed_of d.0 (47 ∷ (m.0 ++ behind)) e (Some f) (length m.0 + 1) (length text) (us, d.3, a) refl
          (tail (m.0 ++ behind) f (length m.0) follows (rw (drop-append_seam m.0 behind) b))
          (omega (arith, ap length whole, length-append d.0 (47 ∷ m.0))))

  -- Words of a head and its tail stand in front of what may stand behind a pattern.
  record Spelled (line : List ℕ) (e : Expression) (t : Option Expression) (n : ℕ) : Type 0 where
    text : List ℕ
    behind : List ℕ
    is : line ≡ text ++ behind
    count : n ≡ length text
    follows : IsBehind behind
    words : List Element
    elements : AreElements text words
    tailed : Tailed names words e t

  tailed_forth : (line : List ℕ) (e : Expression) (t : Option Expression) (n : ℕ) → IsFrontTailed names line e t n
      → Spelled line e t n
  tailed_forth line e t n x = by (drop x.at line) refl x.tail x.is
    where
      text : List ℕ
      text = take x.at line

      parts : (l : List ℕ) → drop x.at line ≡ l → line ≡ text ++ l
      parts l q = sym (take-append-drop x.at line) ∙ ap (λ r. text ++ r) q

      many : length text ≡ x.at
      many = omega (arith, length-take x.at line, x.head.within)

      by : (l : List ℕ) {t : Option Expression} {more : ℕ} → drop x.at line ≡ l → IsFrontTail names l t more
          → n ≡ x.at + more → Spelled line e t n
      by l q (none k b) c = record {
        text = text;
        behind = l;
        is = parts l q;
        count = omega (arith, many, c);
        follows = b;
        words = x.head.is_expression.0;
        elements = x.head.is_expression.1;
        tailed = whole x.head.is_expression.2;
      }
      by l q (newline rest b) c = record {
        text = text ++ 36 ∷ [];
        behind = rest;
        is = parts (36 ∷ rest) q ∙ sym (append_assoc text (36 ∷ []) rest);
        count = omega (arith, many, c, length-append text (36 ∷ []));
        follows = b;
        words = x.head.is_expression.0 ++ dollar_sign ∷ [];
        elements = join x.head.is_expression.1 (element (36 ∷ []) [] dollar_sign [] (dollar_at []) end) refl;
        tailed = line_end x.head.is_expression.2;
      }
      by l q (tail rest f m y b) c = record {
        text = text ++ 47 ∷ take m rest;
        behind = drop m rest;
        is = parts (47 ∷ rest) q ∙ (ap (λ r. text ++ 47 ∷ r) (sym (take-append-drop m rest))
            ∙ sym (append_assoc text (47 ∷ take m rest) (drop m rest)));
        count = omega (arith, many, c, length-append text (47 ∷ take m rest), length-take m rest, y.within);
        follows = b;
        words = x.head.is_expression.0 ++ slash ∷ y.is_expression.0;
        elements = join x.head.is_expression.1
            (element (47 ∷ take m rest) (take m rest) slash y.is_expression.0
            (slash_at (take m rest)) y.is_expression.1)
            refl;
        tailed = followed x.head.is_expression.2 y.is_expression.2;
      }

  front_sides : (line text behind : List ℕ) (s : Sides) (n : ℕ) → line ≡ text ++ behind → n ≡ length text
      → SpellsSides names text s → IsBehind behind → HasFrontSides names line s n
  front_sides line text behind s n e q x b = rw (e, q) (record {
    within = omega (arith, length-append text behind);
    sides = rw (take-append_seam text behind) x;
    follows = rw (drop-append_seam text behind) b;
  })

  -- a head and its tail are a pattern's sides, alone and behind `^`
  pub sides_anywhere : (line : List ℕ) (e : Expression) (t : Option Expression) (n : ℕ)
      → IsFrontTailed names line e t n → HasFrontSides names line (record { line_start = false; head = e; tail = t }) n
  sides_anywhere line e t n x =
      let s = tailed_forth line e t n x in
      front_sides line s.text s.behind _ n s.is s.count (s.words, s.elements, anywhere s.tailed) s.follows

  pub sides_at_start : (line rest : List ℕ) (e : Expression) (t : Option Expression) (n : ℕ) → line ≡ 94 ∷ rest
      → IsFrontTailed names rest e t n
      → HasFrontSides names line (record { line_start = true; head = e; tail = t }) (n + 1)
  sides_at_start line rest e t n q x =
      let s = tailed_forth rest e t n x in
      front_sides line (94 ∷ s.text) s.behind _ (n + 1) (q ∙ ap (λ r. 94 ∷ r) s.is) (omega (arith, s.count))
      (caret ∷ s.words, element (94 ∷ s.text) s.text caret s.words (caret_at s.text) s.elements, at_line_start s.tailed)
      s.follows

  -- the sides at the front of a line by their head and its tail
  abbrev pub SidesAt : List ℕ → Sides → ℕ → Type 0
  SidesAt line s n = ((s.line_start ≡ false) × IsFrontTailed names line s.head s.tail n)
      ⊎ ((rest : List ℕ) × (k : ℕ) × (line ≡ 94 ∷ rest) × (s.line_start ≡ true) × (n ≡ k + 1)
      × IsFrontTailed names rest s.head s.tail k)

  pub sides_back : (line : List ℕ) (s : Sides) (n : ℕ) → HasFrontSides names line s n → SidesAt line s n
  sides_back line s n x = by x.sides.1 x.sides.2
    where
      parts : take n line ++ drop n line ≡ line
      parts = take-append-drop n line

      many : length (take n line) ≡ n
      many = omega (arith, length-take n line, x.within)

      by : {ws : List Element} {s : Sides} → AreElements (take n line) ws → AreSides names ws s → SidesAt line s n
      by k (anywhere {e = e} {t = t} a) = inl (
        refl,
        subst (λ l. IsFrontTailed names l e t n) parts
            (subst (λ m. IsFrontTailed names (take n line ++ drop n line) e t m) many
            (tailed_back (take n line) (drop n line) k a x.follows)),
      )
      by k (at_line_start {ws = ws} {e = e} {t = t} a) =
          let m = mark_behind 94 caret caret_byte (take n line) ws caret_spelled k in
          inr (
            m.0 ++ drop n line,
            length m.0,
            sym parts ∙ ap (λ u. u ++ drop n line) m.1,
            refl,
            omega (arith, many, ap length m.1),
            tailed_back m.0 (drop n line) m.2 a x.follows,
          )

  -- no head begins with `^`
  pub no_start : (line rest : List ℕ) (e : Expression) (t : Option Expression) (n : ℕ) → line ≡ 94 ∷ rest
      → IsFrontTailed names line e t n → ⊥
  no_start line rest e t n q x = let s = tailed_forth line e t n x
      in by s.text s.behind s.words (sym s.is ∙ q) s.elements
      s.tailed
    where
      empty_words : (us vs : List Element) → Alternation names us e → [] ≡ us ++ vs → ⊥
      empty_words [] vs a q = some_word names e a
      empty_words (u ∷ us) vs a q = absurd (cc)

      none_read : {ws : List Element} → AreElements [] ws → ws ≡ []
      none_read end = refl
      none_read (element u r w ws s k) = elim s [ ]

      by : (text behind : List ℕ) (ws : List Element) → text ++ behind ≡ 94 ∷ rest → AreElements text ws
          → Tailed names ws e t → ⊥
      by [] behind ws q k y =
          let a = tailed_parts names (rw (none_read k) at y) in
          elim a.2 [
            | inl p ↦ empty_words a.0 [] a.1 (p.0 ∙ sym (append-nil a.0))
            | inr o ↦ elim o [
              | inl p ↦ empty_words a.0 (dollar_sign ∷ []) a.1 p.0
              | inr p ↦ empty_words a.0
                  (slash ∷ p.0) a.1 p.3
            ]
          ]
      by (b ∷ text) behind [] q k y = absurd (some_text k)
        where
          some_text : AreElements (b ∷ text) [] → ⊥
          some_text k = let none = no_words (b ∷ text) k in absurd (cc)
      by (b ∷ text) behind (w ∷ ws) q (element u r v vs s k) y =
          let byte : b ≡ 94 = cc in
          let one = front_one (rw byte at s) (caret_at text) in
          no_caret names (rw one.0 at y)

  -- what stands behind a head is determined
  tail_one : (l : List ℕ) (t u : Option Expression) (n m : ℕ) → IsFrontTail names l t n → IsFrontTail names l u m
      → (t ≡ u) × (n ≡ m)
  tail_one l t u n m x y = by x y refl
    where
      by : {l k : List ℕ} {t u : Option Expression} {n m : ℕ} → IsFrontTail names l t n → IsFrontTail names k u m
          → l ≡ k
          → (t ≡ u) × (n ≡ m)
      by (none l b) (none k c) e = (refl, refl)
      by (none l b) (newline rest c) e = absurd (not_behind_36 rest (subst IsBehind e b))
      by (none l b) (tail rest f i y c) e = absurd (not_behind_47 rest (subst IsBehind e b))
      by (newline rest c) (none k b) e = absurd (not_behind_36 rest (subst IsBehind (sym e) b))
      by (newline rest c) (newline more d) e = (refl, refl)
      by (newline rest c) (tail more f i y d) e = absurd (omega (arith, ap (λ x. get_or x 0 0) e))
      by (tail rest f i y c) (none k b) e = absurd (not_behind_47 rest (subst IsBehind (sym e) b))
      by (tail rest f i y c) (newline more d) e = absurd (omega (arith, ap (λ x. get_or x 0 0) e))
      by (tail rest f i y c) (tail more g j z d) e =
          let same : rest ≡ more = ap (drop 1) e in
          let there : IsFrontExpression names rest g j
          = subst (λ r. IsFrontExpression names r g j) (sym same) z in
          let many = front_length_one names rest f g i j y there in
          (ap Some (front_expression_one names rest f g i j y there), omega (arith, many))

  tailed_front_one : (line : List ℕ) (e f : Expression) (t u : Option Expression) (n m : ℕ)
      → IsFrontTailed names line e t n → IsFrontTailed names line f u m → (e ≡ f) × (t ≡ u) × (n ≡ m)
  tailed_front_one line e f t u n m x y =
      let here = front_length_one names line e f x.at y.at x.head y.head in
      let there = tail_one (drop x.at line) t u x.more y.more x.tail
      (subst (λ k. IsFrontTail names (drop k line) u y.more) (sym here) y.tail) in (
        front_expression_one names line e f x.at y.at x.head y.head,
        there.0,
        omega (arith, here, there.1, x.is, y.is),
      )

  -- a line has the sides of one pattern at its front
  pub front_sides_one : (line : List ℕ) (s u : Sides) (n m : ℕ) → HasFrontSides names line s n
      → HasFrontSides names line u m → (s ≡ u) × (n ≡ m)
  front_sides_one line s u n m x y = by (sides_back line s n x) (sides_back line u m y)
    where
      same : s.line_start ≡ u.line_start → s.head ≡ u.head → s.tail ≡ u.tail → s ≡ u
      same p q r = ap (λ b. record s { line_start = b }) p
          ∙ (ap (λ e. record s { line_start = u.line_start; head = e }) q ∙ ap (λ t. record u { tail = t }) r)

      by : SidesAt line s n → SidesAt line u m → (s ≡ u) × (n ≡ m)
      by (inl p) (inl q) = let one = tailed_front_one line s.head u.head s.tail u.tail n m p.1 q.1
          in (same (p.0 ∙ sym q.0) one.0 one.1, one.2)
      by (inl p) (inr (rest, k, e, l, c, q)) = absurd (no_start line rest s.head s.tail n e p.1)
      by (inr (rest, k, e, l, c, q)) (inl p) = absurd (no_start line rest u.head u.tail m e p.1)
      by (inr (rest, k, e, l, c, q)) (inr (more, i, f, h, d, p)) =
          let behind : more ≡ rest = ap (drop 1) (sym f ∙ e) in
          let one = tailed_front_one rest s.head u.head s.tail u.tail k i q
          (subst (λ r. IsFrontTailed names r u.head u.tail i) behind p) in
          (same (l ∙ sym h) one.0 one.1, omega (arith, one.2, c, d))

  -- what stands behind a head that is no tail
  module _ (line : List ℕ) where
    -- no tail behind `/`
    pub no_tail : (rest : List ℕ) → line ≡ 47 ∷ rest → ((f : Expression) (m : ℕ) → IsFrontExpression names rest f m
        → IsBehind (drop m rest) → ⊥) → (t : Option Expression) (n : ℕ) → IsFrontTail names line t n → ⊥
    no_tail rest e refused t n x = by x e
      where
        by : {l : List ℕ} {t : Option Expression} {n : ℕ} → IsFrontTail names l t n → l ≡ 47 ∷ rest → ⊥
        by (none l b) q = absurd (not_behind_47 rest (subst IsBehind q b))
        by (newline more c) q = absurd (omega (arith, ap (λ x. get_or x 0 0) q))
        by (tail more f m y c) q =
            let same : more ≡ rest = ap (drop 1) q in
            refused f m (subst (λ r. IsFrontExpression names r f m) same y) (subst (λ r. IsBehind (drop m r)) same c)

    -- more stands behind `$`
    pub no_line_end : (rest : List ℕ) → line ≡ 36 ∷ rest → (IsBehind rest → ⊥) → (t : Option Expression) (n : ℕ)
        → IsFrontTail names line t n → ⊥
    no_line_end rest e more t n x = by x e
      where
        by : {l : List ℕ} {t : Option Expression} {n : ℕ} → IsFrontTail names l t n → l ≡ 36 ∷ rest → ⊥
        by (none l b) q = absurd (not_behind_36 rest (subst IsBehind q b))
        by (newline left c) q = more (subst IsBehind (ap (drop 1) q) c)
        by (tail left f m y c) q = absurd (omega (arith, ap (λ x. get_or x 0 0) q))
