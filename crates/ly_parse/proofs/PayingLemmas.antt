-- What the terms on a stack cost, and that a forest goes on paying for them.
use Rattle.std.proofs.Common.{◌≡◌, ℕ, zero, suc, ◌+◌, ◌*◌, ◌≤◌, List, [], ◌∷◌, length, drop, take, Err, Ok}
use Rattle.std.proofs.Common.{sym, ap, ◌∙◌, arith, length-drop, subst}
use Rattle.std.proofs.lemmas.List.{length-take-le}
use Rattle.std.proofs.lemmas.List.Sums.{sum_by-cons, sum_by-take-drop}
use Rattle.std.specs.Global.{Global}
use Rattle.std.specs.Prelude.{OnOk, Result, Vec}
use Rattle.ly_base.specs.Shape.{Shape, nil, node, place, shape_of}
use Rattle.ly_base.specs.declared.rule_tree.RuleTree.{RuleTree}
use Rattle.ly_base.specs.declared.rule_tree.RuleTree.TheVariants.{Build}
use Rattle.ly_pack.specs.Machine.{IsShapeFor}
use Rattle.ly_parse.specs.Feeding.{Level}
use Rattle.ly_parse.specs.Private.Paying.{places_in, stack_cost, IsStackPaid}
use Rattle.ly_parse.specs.Private.Stack.{terms_onto}
use Rattle.ly_tree.proofs.CostLemmas.{budget_kept, count_of, each_in_cost, place_cost, places_cost}
use Rattle.ly_tree.specs.Costs.{budget, cost, costs, IsBoundedBySize}
use Rattle.ly_tree.specs.Forest.{Grown, Keeps}
use Rattle.ly_tree.specs.Term.{Terms, leaf, made, more, none}

stack_cost-cons : (each byte : ℕ) (l : Level) (stack : List Level)
    → stack_cost each byte (l ∷ stack) ≡ cost each byte l.term + stack_cost each byte stack
stack_cost-cons each byte l stack = sum_by-cons (λ l. cost each byte l.term) l stack

-- in which order terms stand doesn't matter
costs_onto : (each byte : ℕ) (stack : List Level) (ts : Terms)
    → costs each byte (terms_onto stack ts) ≡ stack_cost each byte stack + costs each byte ts
costs_onto each byte [] ts = omega arith
costs_onto each byte (l ∷ stack) ts =
    omega (arith, costs_onto each byte stack (more l.term ts), stack_cost-cons each byte l stack)

count_onto : (stack : List Level) (ts : Terms) → count_of (terms_onto stack ts) ≡ length stack + count_of ts
count_onto [] ts = omega arith
count_onto (l ∷ stack) ts = omega (arith, count_onto stack (more l.term ts))

each_in_stack : (each byte : ℕ) (stack : List Level) → each * length stack ≤ stack_cost each byte stack
each_in_stack each byte [] = omega arith
each_in_stack each byte (l ∷ stack) =
    omega (
      arith,
      each_in_stack each byte stack,
      each_in_cost each byte l.term,
      stack_cost-cons each byte l stack,
    )

-- no terms
pub none_paid : (f : Grown) → IsStackPaid f []
none_paid f each byte = omega arith

-- what is left of a stack is paid for
pub paid_drop : (f : Grown) (n : ℕ) (stack : List Level) → IsStackPaid f stack → IsStackPaid f (drop n stack)
paid_drop f zero stack h = h
paid_drop f (suc n) [] h = h
paid_drop f (suc n) (l ∷ stack) h =
    paid_drop f n stack (λ each byte. omega (
      arith,
      h each byte,
      each_in_cost each byte l.term,
      stack_cost-cons each byte l stack,
    ))

-- so is a stack in a forest that keeps the terms
pub paid_kept : (f g : Grown) (stack : List Level) → Keeps f g → IsStackPaid f stack → IsStackPaid g stack
paid_kept f g stack k h = λ each byte. omega (arith, h each byte, budget_kept f g k each byte)

-- and the term on top alone
pub top_paid : (f : Grown) (l : Level) (stack : List Level) → IsStackPaid f (l ∷ stack) → IsBoundedBySize f l.term
top_paid f l stack h = λ each byte. omega (
  arith,
  h each byte,
  each_in_stack each byte stack,
  stack_cost-cons each byte l stack,
)

-- a leaf that is put on top: the forest has its bytes then
pub leaf_paid : (f g : Grown) (state t : ℕ) (bytes : List ℕ) (stack : List Level) → IsStackPaid f stack
    → ((each byte : ℕ) → budget each byte g ≡ budget each byte f + byte * length bytes)
    → IsStackPaid g (record { state = state; term = leaf t bytes } ∷ stack)
leaf_paid f g state t bytes stack h pays = λ each byte. omega (
  arith,
  h each byte,
  pays each byte,
  stack_cost-cons each byte (record { state = state; term = leaf t bytes }) stack,
)

-- What a rule makes costs no more than the terms of its body and its children: it uses no term of them twice.
made_cost : (each byte p : ℕ) (shape : Shape) (ts : Terms) → IsShapeFor (count_of ts) shape
    → cost each byte (made p shape ts) + each * count_of ts ≤ each + costs each byte ts + each * places_in shape
made_cost each byte p nil ts h = omega (arith, ap (λ n. each * n) h)
made_cost each byte p (place i) ts h = omega (arith, place_cost each byte ts i h.0 h.1)
made_cost each byte p (node name is) ts h = omega (arith, places_cost each byte ts is h.1 h.2)

-- it is put on top in place of the body: the forest has its children then
pub made_paid : (f g : Grown) (stack : List Level) (n p state : ℕ) (shape : Shape) → IsStackPaid f stack
    → IsShapeFor n shape → n ≤ length stack
    → ((each byte : ℕ) → budget each byte g ≡ budget each byte f + each * places_in shape)
    → IsStackPaid g (record { state = state; term = made p shape (terms_onto (take n stack) none) } ∷ drop n stack)
made_paid f g stack n p state shape h fits within pays = λ each byte.
    let body = terms_onto (take n stack) none in
    let count : count_of body ≡ n = omega (arith, count_onto (take n stack) none, length-take-le n stack within) in
    let size : length stack ≡ count_of body + length (drop n stack) = omega (arith, length-drop n stack) in
    omega (
      arith,
      h each byte,
      pays each byte,
      made_cost each byte p shape body (subst (λ k. IsShapeFor k shape) (sym count) fits),
      costs_onto each byte (take n stack) none,
      sum_by-take-drop (λ l. cost each byte l.term) stack n,
      ap (λ k. each * k) size,
      stack_cost-cons each byte (record { state = state; term = made p shape body }) (drop n stack),
    )

-- a node's children, by the rule that makes it
pub children_paid : {T E : Type 0} (f g h : Grown) (name places : Vec ℕ Global) (t : RuleTree) (is : List ℕ)
    (r : Result T E) → f ≡ h → t ≡ Build name places → is ≡ places.items
    → OnOk r ((each byte : ℕ) → budget each byte g ≡ budget each byte f + each * length is)
    → OnOk r ((each byte : ℕ) → budget each byte g ≡ budget each byte h + each * places_in (shape_of t))
children_paid f g h name places t is (Ok x) view build same pays = λ each byte. pays each byte
    ∙ (ap (λ e. budget each byte e + each * length is) view
    ∙ ap (λ n. budget each byte h + each * n)
    (ap (λ ps. length ps) same ∙ ap (λ u. places_in (shape_of u)) (sym build)))
children_paid f g h name places t is (Err e) view build same pays = pays
