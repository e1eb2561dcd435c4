-- How far the elements at the front of a line go.
use Rattle.std.proofs.Common.{◌≡◌, ◌≤◌, ◌+◌, ℕ, List, [], ◌∷◌, ◌++◌, length, drop, refl, sym, ap, subst, ◌∙◌, arith}
use Rattle.std.proofs.Common.{IsTrue}
use Rattle.std.proofs.Common.{drop-drop, length-append, length-drop, take}
use Rattle.std.proofs.Math.Seq.{take-append_seam}
use Rattle.std.proofs.lemmas.Bool.Decides.{nat_tests}
use Rattle.ly_base.specs.Blank.{is_blank}
use Rattle.ly_ere.specs.Elements.{AreElements, Element, IsElement, bounds, braced_name, bracket, dot, element, end}
use Rattle.ly_ere.specs.Elements.{escaped_element, plain, quoted, sign}
use Rattle.ly_ere.specs.Patterns.{IsBehind}
use Rattle.ly_ere.specs.Private.Elements.{IsNextElement}
use Rattle.ly_ere.specs.Private.Front.{BeginsNo}
use Rattle.ly_ere.proofs.AppendLemmas.{behind_end, element_append, end_follows}
use Rattle.ly_ere.proofs.ElementLemmas.{front_one}

-- no element begins with a blank
no_blank : (b : ℕ) (t : List ℕ) (w : Element) (rest : List ℕ) → IsTrue (is_blank b) → IsElement (b ∷ t) w rest → ⊥
no_blank b t w rest blank (plain c r p) = grind (arith, nat_tests)
no_blank b t w rest blank (dot r) = grind (arith, nat_tests)
no_blank b t w rest blank (escaped_element s r c h) = grind (arith, nat_tests)
no_blank b t w rest blank (bracket s bytes r h) = grind (arith, nat_tests)
no_blank b t w rest blank (quoted s bs r h) = grind (arith, nat_tests)
no_blank b t w rest blank (braced_name s n r h) = grind (arith, nat_tests)
no_blank b t w rest blank (bounds s m n r h) = grind (arith, nat_tests)
no_blank b t w rest blank (sign c v r p) = grind (arith, nat_tests)

-- nor with what may stand behind an expression
pub none_behind : (t : List ℕ) (w : Element) (rest : List ℕ) → IsBehind t → IsElement t w rest → ⊥
none_behind [] w rest behind s = elim s [ ]
none_behind (b ∷ t) w rest behind s = no_blank b t w rest behind s

-- the elements of a line that goes on begin with one at its front
pub first_behind : (t text behind : List ℕ) (ws : List Element) → t ≡ text ++ behind → AreElements text ws
    → IsBehind behind → (IsBehind t → ⊥)
    → (w : Element) × (rest : List ℕ) × (vs : List Element) × IsElement t w (rest ++ behind) × AreElements rest vs
first_behind t text behind ws e end b goes_on = absurd (goes_on (subst IsBehind (sym e) b))
first_behind t text behind ws e (element u rest w vs s k) b goes_on = (
  w,
  rest,
  vs,
  subst (λ x. IsElement x w (rest ++ behind)) (sym e)
      (element_append s behind (end_follows rest behind (behind_end behind b))),
  k,
)

-- no elements stand where none may stand behind an expression
pub no_more_behind : (t text behind : List ℕ) (ws : List Element) → t ≡ text ++ behind → AreElements text ws
    → IsBehind behind → IsBehind t → text ≡ []
no_more_behind t text behind ws e end b stops = refl
no_more_behind t text behind ws e (element u rest w vs s k) b stops = absurd (none_behind t w (rest ++ behind) stops
    (subst (λ x. IsElement x w (rest ++ behind)) (sym e)
    (element_append s behind (end_follows rest behind (behind_end behind b)))))

-- Elements of a line that end before behind are ahead here.
pub record AreAheadOf (left behind : List ℕ) : Type 0 where
  pub text : List ℕ
  pub elements : List Element
  pub is : left ≡ text ++ behind
  pub are : AreElements text elements

-- one more is taken
pub one_taken : (line : List ℕ) {behind : List ℕ} (at n : ℕ) {x : _} → IsNextElement (drop at line) x n
    → (IsBehind (drop at line) → ⊥) → IsBehind behind → AreAheadOf (drop at line) behind
    → AreAheadOf (drop (at + n) line) behind
one_taken line {behind} at n next goes_on b a =
    let first = first_behind (drop at line) a.text behind a.elements a.is a.are b goes_on in
    let rest : first.1 ++ behind ≡ drop n (drop at line) = ((next.spelled first.0 (first.1 ++ behind)).0 first.3).1 in
    record {
      text = first.1;
      elements = first.2;
      is = sym (drop-drop n at line) ∙ sym rest;
      are = first.4;
    }

-- none is there, though more should be
pub none_taken : {left behind : List ℕ} → BeginsNo IsElement left → (IsBehind left → ⊥) → IsBehind behind
    → AreAheadOf left behind → ⊥
none_taken {left} {behind} nothing goes_on b a =
    let first = first_behind left a.text behind a.elements a.is a.are b goes_on in
    nothing first.0 (first.1 ++ behind) first.3

-- the elements at the front of a line end in one place
pub extent_one : {t u : List ℕ} {ws vs : List Element} → AreElements t ws → AreElements u vs → (b c : List ℕ)
    → IsBehind b → IsBehind c → t ++ b ≡ u ++ c → t ≡ u
extent_one end end b c i k e = refl
extent_one end (element u r w ws s g) b c i k e = absurd (none_behind b w (r ++ c) i
    (subst (λ x. IsElement x w (r ++ c)) (sym e) (element_append s c (end_follows r c (behind_end c k)))))
extent_one (element t r w ws s g) end b c i k e = absurd (none_behind c w (r ++ b) k
    (subst (λ x. IsElement x w (r ++ b)) e (element_append s b (end_follows r b (behind_end b i)))))
extent_one (element t r w ws s g) (element u l v vs h j) b c i k e =
    let here = element_append s b (end_follows r b (behind_end b i)) in
    let there = element_append h c (end_follows l c (behind_end c k)) in
    let rest : r ++ b ≡ l ++ c = (front_one here (subst (λ x. IsElement x v (l ++ c)) (sym e) there)).1 in
    let more : r ≡ l = extent_one g j b c i k rest in
    let behind : length b ≡ length c
    = omega (arith, ap length rest, ap length more, length-append r b, length-append l c) in
    let long : length t ≡ length u = omega (arith, ap length e, behind, length-append t b, length-append u c) in
    sym (take-append_seam t b)
    ∙ (ap (take (length t)) e ∙ (ap (λ n. take n (u ++ c)) long ∙ take-append_seam u c))

-- where the reading stops the elements end
pub stops_there : (line : List ℕ) (at n : ℕ) → at ≤ length line → n ≤ length line → IsBehind (drop at line)
    → IsBehind (drop n line) → AreAheadOf (drop at line) (drop n line) → n ≡ at
stops_there line at n within most stops b a =
    let none = no_more_behind (drop at line) a.text (drop n line) a.elements a.is a.are b stops in
    let same : drop at line ≡ drop n line = a.is ∙ ap (λ t. t ++ drop n line) none in
    omega (arith, ap length same, length-drop at line, length-drop n line, within, most)
