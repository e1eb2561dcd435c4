-- What the plain expression of an operator is, idle operators left out.
use Rattle.std.proofs.Common.{◌≡◌, ℕ, List, [], ◌∷◌, ◌++◌, length, Option, Some, None, Result, Ok, Err, refl, sym, ap}
use Rattle.std.proofs.Common.{subst, ◌∙◌, arith, append_assoc, append-nil, length-append, true, false}
use Rattle.std.specs.Prelude.{OnOk, IfOk}
use Rattle.std.proofs.lemmas.List.{get_or_push, get_or_append_left}
use Rattle.ly_ere.specs.Expression.{Expression, set, empty, concat, either, star, plus, optional, repeat, name}
use Rattle.ly_ere.specs.Arena.{expression_of, part_of}
use Rattle.ly_ere.specs.declared.node.Node.{Node}
use Rattle.ly_ere.specs.declared.node.Node.TheVariants.{Set, Empty, Concat, Either, Star, Plus, Optional, Repeat, Name}
use Rattle.ly_position.specs.Private.Plain.{expression_at, IsPlainPart, Makes}
use Rattle.ly_position.specs.Private.Slim.{is_empty, both_of, star_of, plus_of, optional_of, slim_concat, slim_copies}

-- nothing is added
pub makes_same : (es : List Expression) (p : Option ℕ) (o : Option Expression) → IsPlainPart (length es) p
    → expression_at es p ≡ o → Makes es es p o
makes_same es p o h f = record { rest = []; grown = sym (append-nil es); within = h; is = f }

-- an expression is added
pub makes_push : {E : Type 0} (r : Result (Option ℕ) E) (es fs : List Expression) (e : Expression)
    (o : Option Expression) → OnOk r (fs ≡ es ++ e ∷ []) → IfOk r (λ p. p ≡ Some (length es)) → o ≡ Some e
    → IfOk r (λ p. Makes es fs p o)
makes_push (Ok p) es fs e o grown is f = record {
  rest = e ∷ [];
  grown = grown;
  within = rw (is, grown) (omega (arith, length-append es (e ∷ [])));
  is = rw (is, grown) (ap (λ x. Some x) (get_or_push es e empty (length es) refl) ∙ sym f);
}
makes_push (Err x) es fs e o grown is f = tt

-- an operator that is idle over its part
pub kept : (Op : Option Expression → Option Expression) (es : List Expression) (p : Option ℕ) (a : ℕ) (e : Expression)
    → IsPlainPart (length es) p → p ≡ Some a → e ≡ part_of es a → Op (Some e) ≡ Some e
    → Makes es es (Some a) (Op (expression_at es p))
kept Op es p a e h is at f =
    makes_same es (Some a) (Op (expression_at es p)) (rw is at h)
    (ap (λ x. Some x) (sym at) ∙ sym f ∙ ap (λ x. Op (Some x)) at ∙ sym (ap (λ q. Op (expression_at es q)) is))

-- an operator over its part, or what it comes to
pub added : {E : Type 0} (Op : Option Expression → Option Expression) (r : Result (Option ℕ) E)
    (es fs : List Expression) (p : Option ℕ) (a : ℕ) (e f : Expression) → OnOk r (fs ≡ es ++ f ∷ [])
    → IfOk r (λ q. q ≡ Some (length es)) → p ≡ Some a → e ≡ part_of es a → Op (Some e) ≡ Some f
    → IfOk r (λ q. Makes es fs q (Op (expression_at es p)))
added Op r es fs p a e f grown number is at k = makes_push r es fs f (Op (expression_at es p)) grown number
    (ap (λ q. Op (expression_at es q)) is ∙ sym (ap (λ x. Op (Some x)) at) ∙ k)

-- an operator over no part
pub added_none : {E : Type 0} (Op : Option Expression → Option Expression) (r : Result (Option ℕ) E)
    (es fs : List Expression) (p : Option ℕ) (f : Expression) → OnOk r (fs ≡ es ++ f ∷ [])
    → IfOk r (λ q. q ≡ Some (length es)) → p ≡ None → Op None ≡ Some f
    → IfOk r (λ q. Makes es fs q (Op (expression_at es p)))
added_none Op r es fs p f grown number is k = makes_push r es fs f (Op (expression_at es p)) grown number
    (ap (λ q. Op (expression_at es q)) is ∙ k)

-- the empty string is idle in a concatenation
first_idle : (r s : Expression) → is_empty r ≡ true → both_of r s ≡ s
first_idle r s e = rw e refl

second_idle : (r s : Expression) → empty ≡ s → both_of r s ≡ r
second_idle (set bytes) s e = rw (← e) refl
second_idle empty s e = sym e
second_idle (concat x y) s e = rw (← e) refl
second_idle (either x y) s e = rw (← e) refl
second_idle (star x) s e = rw (← e) refl
second_idle (plus x) s e = rw (← e) refl
second_idle (optional x) s e = rw (← e) refl
second_idle (repeat m n x) s e = rw (← e) refl
second_idle (name x) s e = rw (← e) refl

pub concat_none : (o : Option Expression) → slim_concat o None ≡ None
concat_none None = refl
concat_none (Some r) = refl

module _ (es : List Expression) (p q : Option ℕ) (a b : ℕ) (is_p : p ≡ Some a) (is_q : q ≡ Some b) where
  both_at : slim_concat (expression_at es p) (expression_at es q) ≡ Some (both_of (part_of es a) (part_of es b))
  both_at = rw (is_p, is_q) refl

  pub first_left_out : empty ≡ part_of es a → IsPlainPart (length es) q
      → Makes es es q (slim_concat (expression_at es p) (expression_at es q))
  first_left_out e within = makes_same es q (slim_concat (expression_at es p) (expression_at es q)) within
      (ap (expression_at es) is_q ∙ ap (λ x. Some x) (sym (first_idle (part_of es a) (part_of es b)
      (ap is_empty (sym e)))) ∙ sym both_at)

  pub second_left_out : empty ≡ part_of es b → IsPlainPart (length es) p
      → Makes es es p (slim_concat (expression_at es p) (expression_at es q))
  second_left_out e within = makes_same es p (slim_concat (expression_at es p) (expression_at es q)) within
      (ap (expression_at es) is_p ∙ ap (λ x. Some x) (sym (second_idle (part_of es a) (part_of es b) e))
      ∙ sym both_at)

  pub both_there : is_empty (part_of es a) ≡ false → is_empty (part_of es b) ≡ false
      → slim_concat (expression_at es p) (expression_at es q) ≡ Some (concat (part_of es a) (part_of es b))
  both_there x y = both_at ∙ (rw (x, y) refl)

-- over which nodes no operator is idle
pub not_empty : (es : List Expression) (n : Node) → (n ≡ Empty → ⊥) → is_empty (expression_of es n) ≡ false
not_empty es (Set s) other = refl
not_empty es Empty other = absurd (other refl)
not_empty es (Concat a b) other = refl
not_empty es (Either a b) other = refl
not_empty es (Star a) other = refl
not_empty es (Plus a) other = refl
not_empty es (Optional a) other = refl
not_empty es (Repeat m n a) other = refl
not_empty es (Name x) other = refl

-- each operator stays over the expression
pub record AreKept (e : Expression) : Type 0 where
  pub by_star : star_of e ≡ star e
  pub by_plus : plus_of e ≡ plus e
  pub by_optional : optional_of e ≡ optional e

pub all_kept : (es : List Expression) (n : Node) (e : Expression) → expression_of es n ≡ e → (n ≡ Empty → ⊥)
    → ((a : ℕ) → n ≡ Star a → ⊥) → ((a : ℕ) → n ≡ Plus a → ⊥) → ((a : ℕ) → n ≡ Optional a → ⊥) → AreKept e
all_kept es n e is w x y z = subst AreKept is (of n w x y z)
  where
    of : (m : Node) → (m ≡ Empty → ⊥) → ((a : ℕ) → m ≡ Star a → ⊥) → ((a : ℕ) → m ≡ Plus a → ⊥)
        → ((a : ℕ) → m ≡ Optional a → ⊥) → AreKept (expression_of es m)
    of (Set s) w x y z = record { by_star = refl; by_plus = refl; by_optional = refl }
    of Empty w x y z = absurd (w refl)
    of (Concat a b) w x y z = record { by_star = refl; by_plus = refl; by_optional = refl }
    of (Either a b) w x y z = record { by_star = refl; by_plus = refl; by_optional = refl }
    of (Star a) w x y z = absurd (x a refl)
    of (Plus a) w x y z = absurd (y a refl)
    of (Optional a) w x y z = absurd (z a refl)
    of (Repeat m o a) w x y z = record { by_star = refl; by_plus = refl; by_optional = refl }
    of (Name v) w x y z = record { by_star = refl; by_plus = refl; by_optional = refl }

-- a part has the same expression as the expressions grow
part_stays : (es rest : List Expression) (p : Option ℕ) → IsPlainPart (length es) p
    → expression_at (es ++ rest) p ≡ expression_at es p
part_stays es rest None h = refl
part_stays es rest (Some a) h = ap (λ x. Some x) (get_or_append_left es rest empty a h)

pub part_grown : (es fs rest : List Expression) (p : Option ℕ) → fs ≡ es ++ rest → IsPlainPart (length es) p
    → expression_at fs p ≡ expression_at es p
part_grown es fs rest p e h = ap (λ (gs : List Expression). expression_at gs p) e ∙ part_stays es rest p h

pub within_grown : (es fs rest : List Expression) (p : Option ℕ) → fs ≡ es ++ rest → IsPlainPart (length es) p
    → IsPlainPart (length fs) p
within_grown es fs rest None e h = tt
within_grown es fs rest (Some a) e h = omega (arith, ap length e, length-append es rest)

-- one growth after another
pub makes_trans : (es fs gs : List Expression) (p q : Option ℕ) (m n o : Option Expression) → Makes es fs p m
    → Makes fs gs q n → n ≡ o → Makes es gs q o
makes_trans es fs gs p q m n o a b f = record {
  rest = a.rest ++ b.rest;
  grown = b.grown ∙ (ap (λ z. z ++ b.rest) a.grown ∙ append_assoc es a.rest b.rest);
  within = b.within;
  is = b.is ∙ f;
}

-- copies of a part in front of what was made of it
pub then_copies : {E : Type 0} (r : Result (Option ℕ) E) (es fs gs : List Expression) (p q : Option ℕ) (n : ℕ)
    (m o : Option Expression) → IsPlainPart (length es) p → Makes es fs q m
    → IfOk r (λ x. Makes fs gs x (slim_copies n (expression_at fs p) (expression_at fs q)))
    → slim_copies n (expression_at es p) m ≡ o → IfOk r (λ x. Makes es gs x o)
then_copies (Ok x) es fs gs p q n m o h a b f =
    makes_trans es fs gs q x m (slim_copies n (expression_at fs p) (expression_at fs q)) o a b
    (ap (λ y. slim_copies n y (expression_at fs q)) (part_grown es fs a.rest p a.grown h)
    ∙ ap (slim_copies n (expression_at es p)) a.is ∙ f)
then_copies (Err x) es fs gs p q n m o h a b f = tt
