-- Elements that are read one after another are those of the front of a line.
use Rattle.std.proofs.Common.{◌≡◌, ℕ, ◌<◌, ◌≤◌, List, [], ◌∷◌, ◌++◌, length, length-append, take, drop, Some, None}
use Rattle.std.proofs.Common.{refl, sym, ap, subst, ◌∙◌, append_assoc, arith}
use Rattle.std.proofs.Common.{take-append-drop}
use Rattle.std.proofs.lemmas.List.{append-nil, append_cancel_right}
use Rattle.ly_ere.specs.Elements.{Element, IsElement, AreElements, end, element}
use Rattle.ly_ere.specs.Expression.{Expression}
use Rattle.ly_ere.specs.Names.{Definition}
use Rattle.ly_ere.specs.Private.Elements.{IsNextElement, Denotes}
use Rattle.ly_ere.specs.Private.Front.{BeginsNo, CanEnd, IsFrontExpression}
use Rattle.ly_ere.specs.Private.Groups.{Group, Reading, and_then, new_group, after_all, start, step, whole}
use Rattle.ly_ere.specs.Private.Levels.{group_of, groups_of, reading_of}
use Rattle.ly_ere.specs.declared.element.Element.{Element as ReadElement}
use Rattle.ly_ere.specs.declared.level.Level.{Level}
use Rattle.ly_ere.proofs.AppendLemmas.{element_append, end_follows}
use Rattle.ly_ere.proofs.CutLemmas.{element_cut}
use Rattle.ly_ere.proofs.ElementLemmas.{element_is_ahead}
use Rattle.ly_ere.proofs.GroupLemmas.{read_is_phrase, after_all-append, whole_runs}
use Rattle.ly_ere.proofs.InsideLemmas.{AreInside, alternation_inside, inside_behind}
use Rattle.ly_ere.proofs.NextElementLemmas.{denotes_one}

-- A line goes on with these elements, and then with the bytes behind them.
pub record AreAhead (line : List ℕ) (ws : List Element) (behind : List ℕ) : Type 0 where
  pub text : List ℕ
  pub is : line ≡ text ++ behind
  pub elements : AreElements text ws

-- Elements were read, which make the reading: the elements from here on follow them.
pub record IsRead (names : List Definition) (t left : List ℕ) (r : Reading) : Type 0 where
  pub so_far : List Element
  pub ran : after_all names so_far start ≡ Some r
  pub forth : (ws : List Element) (behind : List ℕ) → AreAhead left ws behind → AreAhead t (so_far ++ ws) behind
  pub back : (ws : List Element) (behind : List ℕ) → CanEnd behind → AreAhead t ws behind → (vs : List Element)
      × (ws ≡ so_far ++ vs) × AreAhead left vs behind

pub read_start : (names : List Definition) (t : List ℕ) → IsRead names t t start
read_start names t = record { so_far = []; ran = refl; forth = λ ws behind a. a; back = λ ws behind b a. (ws, refl, a) }

-- one more element at the front
more_ahead : (t rest : List ℕ) (w : Element) (ws : List Element) (behind : List ℕ) → IsElement t w rest
    → AreAhead rest ws behind → AreAhead t (w ∷ ws) behind
more_ahead t rest w ws behind s a =
    let cut = element_cut s a.text behind a.is in
    record { text = cut.0; is = cut.1; elements = element cut.0 a.text w ws cut.2 a.elements }

-- the elements of a line that goes on begin with one at its front
first_ahead : (t text : List ℕ) (ws : List Element) (behind : List ℕ) → CanEnd behind → (CanEnd t → ⊥)
    → AreElements text ws → t ≡ text ++ behind → (w : Element) × (rest : List ℕ) × (vs : List Element) × (ws ≡ w ∷ vs)
    × IsElement t w rest × AreAhead rest vs behind
first_ahead t text ws behind b goes_on end e = absurd (goes_on (subst CanEnd (sym e) b))
first_ahead t text ws behind b goes_on (element u rest w vs s k) e = (
  w,
  rest ++ behind,
  vs,
  refl,
  subst (λ x. IsElement x w (rest ++ behind)) (sym e) (element_append s behind (end_follows rest behind b)),
  record { text = rest; is = refl; elements = k },
)

-- where a pattern may end there are no more
none_ahead : (left text : List ℕ) (ws : List Element) (behind : List ℕ) → CanEnd left → AreElements text ws
    → AreInside ws → left ≡ text ++ behind → ws ≡ []
none_ahead left text ws behind b end h e = refl
none_ahead left text ws behind b (element u rest w vs s k) h e
    = absurd (element_is_ahead u s h.0 behind (subst CanEnd e b))

module _ {names : List Definition} {t left : List ℕ} {r : Reading} (i : IsRead names t left r) where
  -- one more element
  pub read_step : (n : ℕ) (s : Reading) (x : ReadElement) → (CanEnd left → ⊥) → IsNextElement left x n
      → (w : Element) → Denotes x w → step names w r ≡ Some s → IsRead names t (drop n left) s
  read_step n s x goes_on next w is q = record {
    so_far = i.so_far ++ w ∷ [];
    ran = after_all-append names i.so_far (w ∷ []) start
        ∙ (ap (λ o. and_then o (after_all names (w ∷ []))) i.ran ∙ ap (λ o. and_then o (after_all names [])) q);
    forth = λ ws behind a. rw append_assoc
        (i.forth (w ∷ ws) behind
        (more_ahead left (drop n left) w ws behind ((next.spelled w (drop n left)).1 (is, refl)) a));
    back = λ ws behind b a.
        let m = i.back ws behind b a in
        let f = first_ahead left m.2.text m.0 behind b goes_on m.2.elements m.2.is in
        let found = (next.spelled f.0 f.1).0 f.4 in
        let same : f.0 ≡ w = denotes_one x f.0 w found.0 is in (
          f.2,
          rw append_assoc (m.1 ∙ ap (λ vs. i.so_far ++ vs) (f.3 ∙ ap (λ v. v ∷ f.2) same)),
          subst (λ y. AreAhead y f.2 behind) found.1 f.5,
        );
  }

  -- what is read up to what may stand behind it is an expression
  pub read_whole : (g : Group) (e : Expression) (n : ℕ) → n ≤ length t → left ≡ drop n t → CanEnd left
      → r ≡ record { outer = []; group = g } → whole g ≡ Some e → IsFrontExpression names t e n
  read_whole g e n within here b q p =
      let a = i.forth [] left (record { text = []; is = refl; elements = end }) in
      let parts : take n t ++ left ≡ t = ap (λ x. take n t ++ x) here ∙ take-append-drop n t in
      let text : take n t ≡ a.text = append_cancel_right (take n t) a.text left (parts ∙ a.is) in
      let elements : AreElements (take n t) i.so_far = rw text (rw append-nil at a.elements) in
      record {
        within = within;
        is_expression = (i.so_far, elements, read_is_phrase names i.so_far g e (i.ran ∙ ap Some q) p);
        follows = subst CanEnd here b;
      }

  -- if an expression stands at the front, the elements that are left are read to its end
  rest_runs : (e : Expression) (n : ℕ) → (x : IsFrontExpression names t e n) → (vs : List Element) × (g : Group)
      × AreAhead left vs (drop n t) × (after_all names vs r ≡ Some (record { outer = []; group = g }))
      × (whole g ≡ Some e)
      × (x.is_expression.0 ≡ i.so_far ++ vs)
  rest_runs e n x =
      let there : AreAhead t x.is_expression.0 (drop n t)
      = record { text = take n t; is = sym (take-append-drop n t); elements = x.is_expression.1 } in
      let b = i.back x.is_expression.0 (drop n t) x.follows there in
      let runs = whole_runs names x.is_expression.0 e x.is_expression.2 in (
        b.0,
        runs.0,
        b.2,
        sym (after_all-append names i.so_far b.0 start ∙ ap (λ o. and_then o (after_all names b.0)) i.ran)
            ∙ (ap (λ ws. after_all names ws start) (sym b.1) ∙ runs.1),
        runs.2,
        b.1,
      )

  -- no element is at the front of what is left
  pub no_element : (CanEnd left → ⊥) → BeginsNo IsElement left → (e : Expression) (n : ℕ)
      → IsFrontExpression names t e n
      → ⊥
  no_element goes_on none e n x =
      let k = rest_runs e n x in
      let f = first_ahead left k.2.text k.0 (drop n t) x.follows goes_on k.2.elements k.2.is in
      none f.0 f.1 f.4

  -- the element at the front is refused
  pub no_step : (CanEnd left → ⊥) → (x : ReadElement) (m : ℕ) → IsNextElement left x m
      → ((w : Element) → Denotes x w → step names w r ≡ None) → (e : Expression) (n : ℕ)
      → IsFrontExpression names t e n → ⊥
  no_step goes_on x m next none e n front =
      let k = rest_runs e n front in
      let f = first_ahead left k.2.text k.0 (drop n t) front.follows goes_on k.2.elements k.2.is in
      let stuck : after_all names k.0 r ≡ None = rw (f.3, none f.0 ((next.spelled f.0 f.1).0 f.4).0) refl in
      let both : Some (record { outer = []; group = k.1 }) ≡ None = sym k.3 ∙ stuck in
      absurd (cc)

  -- what is left has no elements
  left_ends : (e : Expression) (n : ℕ) → CanEnd left → IsFrontExpression names t e n → (g : Group)
      × (r ≡ record { outer = []; group = g }) × (whole g ≡ Some e)
  left_ends e n b x =
      let k = rest_runs e n x in
      let inside = inside_behind i.so_far k.0 (subst AreInside k.5 (alternation_inside names x.is_expression.2)) in
      let none : k.0 ≡ [] = none_ahead left k.2.text k.0 (drop n t) b k.2.elements inside k.2.is in
      let ran : Some r ≡ Some (record { outer = []; group = k.1 }) = sym (ap (λ ws. after_all names ws r) none) ∙ k.3 in
      (k.1, cc, k.4)

  -- the group that is read is none
  pub no_whole : CanEnd left → whole r.group ≡ None → (e : Expression) (n : ℕ) → IsFrontExpression names t e n → ⊥
  no_whole b none e n x =
      let k = left_ends e n b x in
      let both : Some e ≡ None = sym k.2 ∙ (sym (ap (λ (s : Reading). whole s.group) k.1) ∙ none) in
      absurd (cc)

pub init_reading : (a : List Expression) (items : List Level) (l : Level) → items ≡ [] → group_of a l ≡ new_group
    → reading_of a items l ≡ start
init_reading a items l e g = rw (e, g) refl

pub last_reading : (a : List Expression) (items : List Level) (l : Level) → items ≡ []
    → reading_of a items l ≡ record { outer = []; group = group_of a l }
last_reading a items l e = rw e refl

groups_length : (a : List Expression) (levels : List Level) → length (groups_of a levels) ≡ length levels
groups_length a [] = refl
groups_length a (l ∷ ls) = omega (arith, groups_length a ls, length-append (groups_of a ls) (group_of a l ∷ []))

-- a level is open at the end
pub no_open : {names : List Definition} {t left : List ℕ} (a : List Expression) (items : List Level) (l : Level)
    → IsRead names t left (reading_of a items l) → CanEnd left → 0 < length items → (e : Expression) (n : ℕ)
    → IsFrontExpression names t e n → ⊥
no_open a items l i behind some e n x =
    let ends = left_ends i e n behind x in
    absurd (omega (arith, groups_length a items, ap (λ (r : Reading). length r.outer) ends.1))
