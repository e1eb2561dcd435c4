-- A class and its name are determined by the text that begins with them.
use Rattle.std.proofs.Common.{drop-drop, ◌≡◌, ◌≤◌, ◌+◌, ◌-◌, ℕ, List, [], ◌∷◌, ◌++◌, drop, length, take}
use Rattle.std.proofs.Common.{take-append-drop, Bool, true, false, Some, None, refl, sym, ap, ◌∙◌, subst, arith, nat_eq}
use Rattle.std.specs.Prelude.{◌&&◌, if◌then◌else◌}
use Rattle.std.specs.Cmp.Lexicographic.{bytes_decides, pointwise}
use Rattle.std.specs.List.{list_any}
use Rattle.std.proofs.Math.Seq.{take-append_seam}
use Rattle.std.proofs.lemmas.Bool.{and_parts, or_parts}
use Rattle.ly_ere.specs.Private.Brackets.{IsNamed}
use Rattle.ly_ere.specs.Private.Front.{BeginsNo}
use Rattle.ly_ere.specs.Elements.{begins}
use Rattle.ly_ere.specs.Elements.{IsClass, class_of, classes, found_in, is_among, same_text}
use Rattle.ly_base.proofs.EscapeLemmas.{byte_at}
use Rattle.ly_ere.proofs.FrontLemmas.{stands}
use Rattle.ly_ere.proofs.NamedLemmas.{named_one}

texts_agree : (s t : List ℕ) → pointwise nat_eq s t ≡ same_text s t
texts_agree [] [] = refl
texts_agree [] (c ∷ t) = refl
texts_agree (b ∷ s) [] = refl
texts_agree (b ∷ s) (c ∷ t) = ap (λ r. nat_eq b c && r) (texts_agree s t)

found_without : (b : ℕ) (cs : List (List ℕ × List (ℕ × ℕ))) → list_any (λ c. is_among c.0 b) cs ≡ false
    → (name : List ℕ) (rs : List (ℕ × ℕ)) → found_in cs name ≡ Some rs → is_among name b ≡ false
found_without b [] h name rs e = absurd (cc)
found_without b (c ∷ cs) h name rs e =
    let absent = or_parts (is_among c.0 b) (list_any (λ c. is_among c.0 b) cs) h in
    by (same_text c.0 name) refl absent.0 (found_without b cs absent.1 name rs) e
  where
    by : (x : Bool) → same_text c.0 name ≡ x → is_among c.0 b ≡ false
        → (found_in cs name ≡ Some rs → is_among name b ≡ false) → (if x then Some c.1 else found_in cs name) ≡ Some rs
        → is_among name b ≡ false
    by true s absent later e
        = subst (λ n. is_among n b ≡ false) ((bytes_decides c.0 name).0 (texts_agree c.0 name ∙ s)) absent
    by false s absent later e = later e

-- a class's name has neither its mark nor a newline
class_named : (t : List ℕ) (rs : List (ℕ × ℕ)) (rest : List ℕ) → IsClass t rs rest → (name : List ℕ)
    × IsNamed 58 (drop 2 t) name rest × (class_of name ≡ Some rs)
class_named t rs rest k = (
  k.0,
  record {
    is = ap (drop 2) k.2;
    no_mark = found_without 58 classes refl k.0 rs k.1;
    no_line = found_without 10 classes refl k.0 rs k.1;
  },
  k.1,
)

-- a text has one class at its front
pub class_one : {t rest left : List ℕ} {rs ss : List (ℕ × ℕ)} → IsClass t rs rest → IsClass t ss left
    → (rs ≡ ss) × (rest ≡ left)
class_one {t} {rest} {left} {rs} {ss} h k =
    let m = class_named t rs rest h in
    let n = class_named t ss left k in
    let one = named_one 58 (drop 2 t) m.0 rest n.0 left m.1 n.1 in
    let same : Some rs ≡ Some ss = sym m.2 ∙ (ap class_of one.0 ∙ n.2) in
    (cc, one.1)

begun : (t : List ℕ) (m : ℕ) → begins t m ≡ true → t ≡ 91 ∷ m ∷ drop 2 t
begun t m e =
    let k = and_parts _ _ e in
    let a = stands t 0 91 k.0 in
    let b = stands t 1 m k.1 in
    byte_at t 0 91 a.0 a.1 ∙ ap (λ r. 91 ∷ r) (byte_at t 1 m b.0 b.1)

pub class_unnamed : (t : List ℕ) → BeginsNo (IsNamed 58) (drop 2 t) → BeginsNo IsClass t
class_unnamed t none rs rest k = let n = class_named t rs rest k in none n.0 rest n.1

module _ (t : List ℕ) (end : ℕ) (two : 2 ≤ end) where
  pub class_there : begins t 58 ≡ true → drop end t ≡ 58 ∷ 93 ∷ drop (end + 2) t → (rs : List (ℕ × ℕ))
      → class_of (take (end - 2) (drop 2 t)) ≡ Some rs → IsClass t rs (drop (end + 2) t)
  class_there b e rs c =
      let behind : drop (end - 2) (drop 2 t) ≡ 58 ∷ 93 ∷ drop (end + 2) t
      = rw drop-drop (let same : 2 + (end - 2) ≡ end = omega arith in rw same e) in
      let parts : drop 2 t ≡ take (end - 2) (drop 2 t) ++ 58 ∷ 93 ∷ drop (end + 2) t
      = sym (take-append-drop (end - 2) (drop 2 t)) ∙ ap (λ r. take (end - 2) (drop 2 t) ++ r) behind in
      (take (end - 2) (drop 2 t), c, begun t 58 b ∙ ap (λ r. 91 ∷ 58 ∷ r) parts)

  pub class_nowhere : ((name rest : List ℕ) → IsNamed 58 (drop 2 t) name rest → end ≡ 2 + length name)
      → class_of (take (end - 2) (drop 2 t)) ≡ None → BeginsNo IsClass t
  class_nowhere first none rs rest k =
      let n = class_named t rs rest k in
      let long : end - 2 ≡ length n.0 = omega (arith, first n.0 rest n.1) in
      let same : take (end - 2) (drop 2 t) ≡ n.0 = rw (long, n.1.is, take-append_seam n.0 (58 ∷ 93 ∷ rest)) refl in
      let h : Some rs ≡ None = sym n.2 ∙ (sym (ap class_of same) ∙ none) in
      absurd (cc)
