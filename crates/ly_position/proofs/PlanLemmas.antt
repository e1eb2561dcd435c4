-- The parts of nodes, one after another.
use Rattle.std.proofs.Common.{◌≡◌, inl, inr, ℕ, suc, ◌+◌, ◌<◌, List, [], ◌∷◌, ◌++◌, length, get_or, Option}
use Rattle.std.proofs.Common.{Some, None, refl, sym, ap, ap₂, subst, ◌∙◌, arith, append_assoc, length-append, add-one}
use Rattle.std.proofs.Common.{Result, Ok, Err}
use Rattle.std.specs.Prelude.{All, slice_get, IfOk}
use Rattle.std.proofs.lemmas.Bool.{cases_eq, cases_lt, eq-eqb, ne_eqb}
use Rattle.std.proofs.lemmas.List.{get_or_push, get_or_append_left, get_or_past}
use Rattle.std.proofs.lemmas.List.Elements.{All-push, All-weaker}
use Rattle.ly_ere.specs.Expression.{Expression}
use Rattle.ly_ere.specs.Arena.{part_of, expression_of, expressions, FitsAt, IsOrdered}
use Rattle.ly_ere.specs.declared.node.Node.{Node}
use Rattle.ly_ere.specs.declared.node.Node.TheVariants.{Set, Empty, Concat, Either, Star, Plus, Optional, Repeat, Name}
use Rattle.ly_ere.specs.declared.pattern.Rule.{Rule}
use Rattle.ly_position.specs.Written.{definition_under, named_up_to, pattern_written}
use Rattle.ly_position.specs.Private.Plain.{expression_at, listed, IsPlainPart, Makes}
use Rattle.ly_position.specs.Private.Slim.{slim, slim_concat, slim_either, slim_node, slim_pattern, slim_under}
use Rattle.ly_position.specs.Private.Slim.{slim_star, slim_plus, slim_optional, slim_times}
use Rattle.ly_ere.proofs.ExpressionLemmas.{expression_at as node_at}
use Rattle.ly_position.proofs.PlainLemmas.{makes_trans, part_grown, within_grown}
use Rattle.ly_position.proofs.SlimLemmas.{slim_written, slim_pattern_written}

-- a node is its expression if its parts are theirs
node_under : (N P : ℕ → Option Expression) (es : List Expression) (k : ℕ) (n : Node)
    → ((a : ℕ) → a < k → P a ≡ slim_under N (part_of es a)) → FitsAt k n
    → slim_node N P n ≡ slim_under N (expression_of es n)
node_under N P es k (Set s) f h = refl
node_under N P es k Empty f h = refl
node_under N P es k (Concat a b) f h = ap₂ slim_concat (f a h.0) (f b h.1)
node_under N P es k (Either a b) f h = ap₂ slim_either (f a h.0) (f b h.1)
node_under N P es k (Star a) f h = ap slim_star (f a h)
node_under N P es k (Plus a) f h = ap slim_plus (f a h)
node_under N P es k (Optional a) f h = ap slim_optional (f a h)
node_under N P es k (Repeat m o a) f h = ap (slim_times m o) (f a h)
node_under N P es k (Name x) f h = refl

-- functions with the same values are the same
pub same_names : (N M : ℕ → Option Expression) → ((x : ℕ) → N x ≡ M x) → N ≡ M
same_names N M f = λ i. λ x. f x i

-- a part of a list is there, or none
pub listed_within : (n : ℕ) (ps : List (Option ℕ)) (x : ℕ) → All (IsPlainPart n) ps → IsPlainPart n (get_or ps x None)
listed_within n ps x all = elim (cases_lt x (length ps)) [
  | inl a ↦ all x None a
  | inr b ↦ rw (get_or_past ps x None b) tt
]

-- listed parts have the same expressions as the expressions grow
pub listed_grown : (es fs rest : List Expression) (ps : List (Option ℕ)) → fs ≡ es ++ rest
    → All (IsPlainPart (length es)) ps → listed fs ps ≡ listed es ps
listed_grown es fs rest ps e all = same_names (listed fs ps) (listed es ps) each
  where
    each : (x : ℕ) → listed fs ps x ≡ listed es ps x
    each x = part_grown es fs rest (get_or ps x None) e (listed_within (length es) ps x all)

pub all_grown : (es fs rest : List Expression) (ps : List (Option ℕ)) → fs ≡ es ++ rest
    → All (IsPlainPart (length es)) ps
    → All (IsPlainPart (length fs)) ps
all_grown es fs rest ps e all = All-weaker (IsPlainPart (length es)) (IsPlainPart (length fs))
    (λ p h. within_grown es fs rest p e h) ps all

-- one more part at the end of a list
pub listed_push_old : (es : List Expression) (ps : List (Option ℕ)) (p : Option ℕ) (x : ℕ) → x < length ps
    → listed es (ps ++ p ∷ []) x ≡ listed es ps x
listed_push_old es ps p x h = ap (expression_at es) (get_or_append_left ps (p ∷ []) None x h)

pub listed_push_new : (es : List Expression) (ps : List (Option ℕ)) (p : Option ℕ) (k : ℕ) → length ps ≡ k
    → listed es (ps ++ p ∷ []) k ≡ expression_at es p
listed_push_new es ps p k e = ap (expression_at es) (get_or_push ps p None k e)

-- one more node
module _ (es₀ es es' rest : List Expression) (names parts : List (Option ℕ)) (nodes : List Node) (i : ℕ) (n : Node)
    (p : Option ℕ)
    (grown : es ≡ es₀ ++ rest) (all_names : All (IsPlainPart (length es₀)) names) (count : length parts ≡ i)
    (within : All (IsPlainPart (length es)) parts)
    (each : (a : ℕ) → a < i → listed es parts a ≡ slim_under (listed es₀ names) (part_of (expressions nodes) a))
    (ordered : IsOrdered nodes) (less : i < length nodes) (is : n ≡ get_or nodes i n)
    (made : Makes es es' p (slim_node (listed es names) (listed es parts) n)) where
  pub more_grown : es' ≡ es₀ ++ (rest ++ made.rest)
  more_grown = made.grown ∙ (ap (λ z. z ++ made.rest) grown ∙ append_assoc es₀ rest made.rest)

  pub more_within : All (IsPlainPart (length es')) (parts ++ p ∷ [])
  more_within = All-push (IsPlainPart (length es')) parts p (all_grown es es' made.rest parts made.grown within)
      made.within

  fits : FitsAt i n
  fits = let F : Node → Type 0 = λ m. FitsAt i m in subst F (sym is) (ordered i n less)

  new_is : listed es' (parts ++ p ∷ []) i ≡ slim_under (listed es₀ names) (part_of (expressions nodes) i)
  new_is = listed_push_new es' parts p i count ∙ made.is
      ∙ ap (λ N. slim_node N (listed es parts) n) (listed_grown es₀ es rest names grown all_names)
      ∙ node_under (listed es₀ names) (listed es parts) (expressions nodes) i n each fits
      ∙ ap (slim_under (listed es₀ names)) (node_at nodes i n ordered less is)

  pub more_each : (a : ℕ) → a < i + 1
      → listed es' (parts ++ p ∷ []) a ≡ slim_under (listed es₀ names) (part_of (expressions nodes) a)
  more_each a l = elim (cases_lt a i) [
    | inl m ↦ listed_push_old es' parts p a (omega arith)
        ∙ ap (λ N. N a) (listed_grown es es' made.rest parts made.grown within) ∙ each a m
    | inr m ↦ let e : i ≡ a = omega arith
        in subst (λ k. listed es' (parts ++ p ∷ []) k ≡ slim_under (listed es₀ names) (part_of (expressions nodes) k)) e
        new_is
  ]

-- one more definition
module _ (names : List Expression) (i : ℕ) (d : Expression) (is : slice_get names i ≡ Some d) where
  named_other : (x : ℕ) → (x ≡ i → ⊥) → named_up_to names (suc i) x ≡ named_up_to names i x
  named_other x other = rw (ne_eqb x i other) refl

  named_new : named_up_to names (suc i) i ≡ definition_under (named_up_to names i) (Some d)
  named_new = rw (eq-eqb i i refl, is) refl

  module _ (es es' : List Expression) (ps : List (Option ℕ)) (p : Option ℕ) (within : All (IsPlainPart (length es)) ps)
      (count : length ps ≡ i) (each : (x : ℕ) → listed es ps x ≡ slim (named_up_to names i x))
      (made : Makes es es' p (slim_under (listed es ps) d)) where
    pub names_more_within : All (IsPlainPart (length es')) (ps ++ p ∷ [])
    names_more_within
        = All-push (IsPlainPart (length es')) ps p (all_grown es es' made.rest ps made.grown within) made.within

    new_definition : listed es' (ps ++ p ∷ []) i ≡ slim (named_up_to names (suc i) i)
    new_definition = listed_push_new es' ps p i count ∙ made.is
        ∙ ap (λ N. slim_under N d) (same_names (listed es ps) (λ x. slim (named_up_to names i x)) each)
        ∙ sym (slim_written (named_up_to names i) d) ∙ ap slim (sym named_new)

    old_definition : (x : ℕ) → (x ≡ i → ⊥) → listed es' (ps ++ p ∷ []) x ≡ listed es' ps x
        → listed es' (ps ++ p ∷ []) x ≡ slim (named_up_to names (suc i) x)
    old_definition x other e = e ∙ ap (λ N. N x) (listed_grown es es' made.rest ps made.grown within) ∙ each x
        ∙ ap slim (sym (named_other x other))

    pub names_more : (x : ℕ) → listed es' (ps ++ p ∷ []) x ≡ slim (named_up_to names (i + 1) x)
    names_more x = rw (add-one i) (elim (cases_lt x i) [
      | inl l ↦ old_definition x (λ e. omega arith) (listed_push_old es' ps p x (omega arith))
      | inr m ↦ elim (cases_eq i x) [
        | inl e ↦ subst (λ k. listed es' (ps ++ p ∷ []) k ≡ slim (named_up_to names (suc i) k)) e new_definition
        | inr ne ↦ old_definition x (λ e. ne (sym e))
            (ap (expression_at es') (get_or_past (ps ++ p ∷ []) x None (omega (arith, length-append ps (p ∷ [])))
            ∙ sym (get_or_past ps x None (omega arith))))
      ]
    ])

-- a head and a tail
pub then_tail : {E : Type 0} (r : Result (Option ℕ) E) (e₀ e₁ e₂ e₃ : List Expression) (names : List (Option ℕ))
    (p q : Option ℕ) (head tail : Expression) → All (IsPlainPart (length e₀)) names
    → Makes e₀ e₁ p (slim_under (listed e₀ names) head) → Makes e₁ e₂ q (slim_under (listed e₁ names) tail)
    → IfOk r (λ x. Makes e₂ e₃ x (slim_concat (expression_at e₂ p) (expression_at e₂ q)))
    → IfOk r (λ x. Makes e₀ e₃ x
    (slim_concat (slim_under (listed e₀ names) head) (slim_under (listed e₀ names) tail)))
then_tail (Ok x) e₀ e₁ e₂ e₃ names p q head tail all a b c =
    let H = slim_under (listed e₀ names) head in
    let T = slim_under (listed e₀ names) tail in
    let ab = makes_trans e₀ e₁ e₂ p q H (slim_under (listed e₁ names) tail) T a b
    (ap (λ N. slim_under N tail) (listed_grown e₀ e₁ a.rest names a.grown all)) in
    makes_trans e₀ e₂ e₃ q x T (slim_concat (expression_at e₂ p) (expression_at e₂ q)) (slim_concat H T) ab c
    (ap₂ slim_concat (part_grown e₁ e₂ b.rest p b.grown a.within ∙ a.is) ab.is)
then_tail (Err x) e₀ e₁ e₂ e₃ names p q head tail all a b c = tt

-- one more rule
module _ (names : List Expression) (rules : List Rule) (es es' : List Expression) (ds ps : List (Option ℕ)) (i : ℕ)
    (r : Rule) (p : Option ℕ)
    (within_names : All (IsPlainPart (length es)) ds)
    (named : (x : ℕ) → listed es ds x ≡ slim (named_up_to names (length names) x))
    (count : length ps ≡ i) (within : All (IsPlainPart (length es)) ps)
    (each : (j : ℕ) (q : Rule) → j < i → slice_get rules j ≡ Some q
    → listed es ps j ≡ slim (pattern_written names q.pattern))
    (is : slice_get rules i ≡ Some r) (made : Makes es es' p (slim_pattern (listed es ds) r.pattern)) where
  pub rules_names_within : All (IsPlainPart (length es')) ds
  rules_names_within = all_grown es es' made.rest ds made.grown within_names

  pub rules_named : (x : ℕ) → listed es' ds x ≡ slim (named_up_to names (length names) x)
  rules_named x = ap (λ N. N x) (listed_grown es es' made.rest ds made.grown within_names) ∙ named x

  pub rules_within : All (IsPlainPart (length es')) (ps ++ p ∷ [])
  rules_within = All-push (IsPlainPart (length es')) ps p (all_grown es es' made.rest ps made.grown within) made.within

  rule_new : listed es' (ps ++ p ∷ []) i ≡ slim (pattern_written names r.pattern)
  rule_new = listed_push_new es' ps p i count ∙ made.is
      ∙ ap (λ N. slim_pattern N r.pattern)
      (same_names (listed es ds) (λ x. slim (named_up_to names (length names) x)) named)
      ∙ sym (slim_pattern_written names r.pattern)

  pub rules_more : (j : ℕ) (q : Rule) → j < i + 1 → slice_get rules j ≡ Some q
      → listed es' (ps ++ p ∷ []) j ≡ slim (pattern_written names q.pattern)
  rules_more j q l e = elim (cases_lt j i) [
    | inl m ↦ listed_push_old es' ps p j (omega arith)
        ∙ ap (λ N. N j) (listed_grown es es' made.rest ps made.grown within) ∙ each j q m e
    | inr m ↦ let k : i ≡ j = omega arith in
        let one : r ≡ q = let a = is in let b : slice_get rules i ≡ Some q = ap (λ x. slice_get rules x) k ∙ e in cc in
        subst (λ x. listed es' (ps ++ p ∷ []) x ≡ slim (pattern_written names q.pattern)) k
        (subst (λ (x : Rule). listed es' (ps ++ p ∷ []) i ≡ slim (pattern_written names x.pattern)) one rule_new)
  ]
