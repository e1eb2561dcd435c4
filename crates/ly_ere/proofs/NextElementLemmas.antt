-- The element at the front of a text.
use Rattle.std.proofs.Common.{◌≡◌, ◌≢◌, ℕ, ◌<◌, List, [], ◌∷◌, length, drop, get_or, refl, sym, ap, subst, ◌∙◌, arith}
use Rattle.std.proofs.Common.{Some, Bor, false, nat_eq}
use Rattle.std.specs.Prelude.{not}
use Rattle.ly_base.specs.declared.byte_set.ByteSet.{ByteSet}
use Rattle.ly_base.specs.ByteSet.{all_bytes, bytes_where, members}
use Rattle.ly_base.specs.Escapes.{Escape}
use Rattle.ly_base.proofs.EscapeLemmas.{byte_at}
use Rattle.ly_ere.specs.Private.Front.{IsTaken}
use Rattle.ly_ere.specs.Private.Elements.{IsNextElement, IsWellFormed, Denotes}
use Rattle.ly_ere.specs.declared.element.Element.{Element as ReadElement}
use Rattle.ly_ere.specs.declared.element.Element.TheVariants.{OneOf, String, Name, Opening, Closing, Bar, Interval}
use Rattle.ly_ere.specs.declared.element.Element.TheVariants.{Mark}
use Rattle.ly_ere.specs.declared.element.Element.TheVariants.{Postfix as Operator}
use Rattle.ly_ere.specs.Elements.{Element, one_of, string, Quoted, Bracketed, IsElement, plain, dot, escaped_element}
use Rattle.ly_ere.specs.Elements.{bracket}
use Rattle.ly_ere.specs.Elements.{quoted}
use Rattle.ly_ere.specs.Elements.{sign, sign_of, is_among, own_meaning}
use Rattle.ly_ere.proofs.QuotedLemmas.{quoted_one}
use Rattle.ly_ere.proofs.ElementLemmas.{front_one}

-- an element stands for one element at most
pub denotes_one : (s : ReadElement) (v w : Element) → Denotes s v → Denotes s w → v ≡ w
denotes_one (OneOf s) v w h k = h ∙ sym k
denotes_one (String t) v w h k = h.3 ∙ (ap string (quoted_one h.2 k.2).0 ∙ sym k.3)
denotes_one (Name n) v w h k = h ∙ sym k
denotes_one Opening v w h k = h ∙ sym k
denotes_one Closing v w h k = h ∙ sym k
denotes_one Bar v w h k = h ∙ sym k
denotes_one (Operator p) v w h k = h ∙ sym k
denotes_one (Interval m n) v w h k = h ∙ sym k
denotes_one (Mark m) v w h k = h ∙ sym k

pub some_but_newline : bytes_where (λ b. not (nat_eq b 10)) ≢ []
unfolding all_bytes
some_but_newline none = let many : length (bytes_where (λ b. not (nat_eq b 10))) ≡ 255 = refl
    in absurd (omega (arith, many, ap length none))

-- an element that the element stands for is at the front, and so no other
pub next_is : (t : List ℕ) (n : ℕ) (s : ReadElement) (w : Element) → IsTaken t n → IsWellFormed s → Denotes s w
    → IsElement t w (drop n t) → IsNextElement t s n
next_is t n s w front formed is spelled = record {
  front = front;
  formed = formed;
  spelled = λ v rest. (
    λ k. let one = front_one spelled k in (subst (Denotes s) one.0 is, sym one.1),
    λ k. rw (denotes_one s v w k.0 is, k.1) spelled,
  );
}

module _ (t : List ℕ) (some : 0 < length t) where
  one : IsTaken t 1
  one = (omega arith, omega arith)

  -- behind a first byte
  first_spells : (c : ℕ) (w : Element) (rest : List ℕ) → get_or t 0 0 ≡ c → IsElement (c ∷ drop 1 t) w rest
      → IsElement t w rest
  first_spells c w rest e s = subst (λ u. IsElement u w rest) (sym (byte_at t 0 c some e)) s

  -- a sign
  pub sign_next : (c : ℕ) (s : ReadElement) (w : Element) → get_or t 0 0 ≡ c → sign_of c ≡ Some w → IsWellFormed s
      → Denotes s w
      → IsNextElement t s 1
  sign_next c s w e m formed is = next_is t 1 s w one formed is (first_spells c w (drop 1 t) e (sign c w (drop 1 t) m))

  -- a byte that stands for itself
  pub plain_next : (c : ℕ) (set : ByteSet) → get_or t 0 0 ≡ c → members set ≡ c ∷ [] → is_among own_meaning c ≡ false
      → IsNextElement t (OneOf set) 1
  plain_next c set e is m = next_is t 1 (OneOf set) (one_of (c ∷ [])) one (λ n. absurd (cc)) (rw is refl)
      (first_spells c _ (drop 1 t) e (plain c (drop 1 t) m))

  -- `.`
  pub dot_next : (set : ByteSet) → get_or t 0 0 ≡ 46 → members set ≡ bytes_where (λ b. not (nat_eq b 10))
      → IsNextElement t (OneOf set) 1
  dot_next set e is = next_is t 1 (OneOf set) (one_of (members set)) one (rw is some_but_newline) refl
      (first_spells 46 _ (drop 1 t) e (rw is (dot (drop 1 t))))

  -- an escape
  pub escape_next : (b n : ℕ) (set : ByteSet) → IsTaken t n → get_or t 0 0 ≡ 92 → members set ≡ b ∷ []
      → Escape (drop 1 t) b (drop n t) → IsNextElement t (OneOf set) n
  escape_next b n set front e is h = next_is t n (OneOf set) (one_of (b ∷ [])) front (λ n. absurd (cc)) (rw is refl)
      (first_spells 92 _ (drop n t) e (escaped_element (drop 1 t) (drop n t) b h))

  -- a bracket expression
  pub bracket_next : (n : ℕ) (set : ByteSet) → IsTaken t n → get_or t 0 0 ≡ 91 → members set ≢ []
      → Bracketed (drop 1 t) (members set) (drop n t) → IsNextElement t (OneOf set) n
  bracket_next n set front e formed h = next_is t n (OneOf set) (one_of (members set)) front formed refl
      (first_spells 91 _ (drop n t) e (bracket (drop 1 t) (members set) (drop n t) h))

  -- a string
  pub string_next : (bs : List ℕ) (n : ℕ) (behind : Bor (List ℕ)) → IsTaken t n → get_or t 0 0 ≡ 34
      → behind.now ≡ drop 1 t → Quoted (drop 1 t) bs (drop n t) → IsNextElement t (String behind) n
  string_next bs n behind front e is q = next_is t n (String behind) (string bs) front tt (bs, drop n t, rw is q, refl)
      (first_spells 34 _ (drop n t) e (quoted (drop 1 t) bs (drop n t) q))
