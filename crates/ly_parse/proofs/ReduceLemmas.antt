-- Reductions by the rules of the tables, on a stack as it is kept.
use Rattle.std.proofs.Common.{◌≡◌, ℕ, ◌<◌, ◌≤◌, ◌+◌, ◌-◌, List, [], ◌∷◌, ◌++◌, length, drop, take}
use Rattle.std.proofs.Common.{Some, None, sym, ap, ◌∙◌, arith, subst}
use Rattle.std.proofs.lemmas.Option.{get_or_from_slice_get, slice_get_within}
use Rattle.std.specs.Global.{Global}
use Rattle.std.specs.Prelude.{Bool, Option, Vec, vec_len}
use Rattle.ly_pack.specs.Machine.{Machine, TableRule, goto_at, IsMachine, IsRuleWithin, IsShapeFor}
use Rattle.ly_pack.specs.Machine.{IsTableRule}
use Rattle.ly_pack.specs.Steady.{rule_at}
use Rattle.ly_pack.proofs.WithinLemmas.{rule_known}
use Rattle.ly_parse.specs.Feeding.{faulty, go_to, goes_on, reduce_by, settles, top_of, uncover}
use Rattle.ly_parse.specs.Parse.{Parse}
use Rattle.ly_parse.specs.Private.Stack.{parse_from, stack_from, terms_onto, IsParse}
use Rattle.ly_parse.specs.declared.level.Level as code
use Rattle.ly_parse.proofs.StackLemmas.{below, length-stack_from, stack_from-push}
use Rattle.ly_parse.proofs.TermLemmas.{pop_past, pop_within}
use Rattle.ly_tree.proofs.StandLemmas.{stands_unwrapped}
use Rattle.ly_tree.specs.Forest.{Grown, StandsFor}
use Rattle.ly_tree.specs.Term.{made, none}

-- a body that fits on the stack, and what is left below it
pub body_fits : (v : Vec code.Level Global) (n body low : ℕ) → n ≡ vec_len v → (body ≤ n) × (low ≡ n - body)
    → body + low ≡ length v.items
body_fits v n body low count cases =
    let fits = cases.0 in
    let rest = cases.1 in
    omega arith

-- a body that doesn't
pub body_exceeds : (v : Vec code.Level Global) (n body : ℕ) → n ≡ vec_len v → (body ≤ n → ⊥) → length v.items < body
body_exceeds v n body count past = omega (arith, past)

-- a rule's symbols and places are there
pub rule_within : (m : Machine) (n : ℕ) (r : TableRule) → IsMachine m → IsTableRule m n r
    → IsRuleWithin m.nonterminals r
rule_within m n r h is =
    subst (IsRuleWithin m.nonterminals) (get_or_from_slice_get m.rules is.0 r r is.2)
    (h.rules is.0 r (slice_get_within m.rules is.0 r is.2))

-- a body that goes past the bottom
pub past_bottom : (m : Machine) (f : Grown) (levels : List code.Level) (p : Parse) (count : ℕ) (over : Bool) (n : ℕ)
    (r : TableRule) → parse_from m f levels count over ≡ p → IsTableRule m n r → length levels < r.body_length
    → reduce_by p.machine n p.stack (rule_at p.machine n) ≡ settles faulty
past_bottom m f levels p count over n r view is less =
    subst (λ q. reduce_by q.machine n q.stack (rule_at q.machine n) ≡ settles faulty) view
    (ap (reduce_by m n (stack_from f levels)) (rule_known m n r is)
    ∙ ap (uncover m n r) (pop_past r.body_length (stack_from f levels) none
    (omega (arith, length-stack_from f levels))))

-- the shape of a rule suits the levels that it takes
pub shape_fits : (m : Machine) (f : Grown) (levels : List code.Level) (p : Parse) (count : ℕ) (over : Bool)
    (n low : ℕ) (r : TableRule) → parse_from m f levels count over ≡ p → IsParse m f levels → IsTableRule m n r
    → r.body_length + low ≡ length levels → IsShapeFor (length p.stack - low) r.shape
shape_fits m f levels p count over n low r view h is size =
    let same = ap (λ q. length q.stack) view in
    let long : r.body_length ≡ length p.stack - low = omega (arith, length-stack_from f levels) in
    subst (λ k. IsShapeFor k r.shape) long (rule_within m n r h.machine is).shape

-- A stack whose levels above some are the body of a rule: as it was, and in the forest that has the rule's term.
pub record IsCut (p : Parse) (n : ℕ) (r : TableRule) (low : ℕ) (m : Machine) (f : Grown) (levels : List code.Level)
    : Type 0 where
  pub machine : p.machine ≡ m
  pub stack : stack_from f levels ≡ p.stack
  pub parse : IsParse m f levels
  pub rule : IsTableRule m n r
  pub size : r.body_length + low ≡ length levels

pub is_cut : (k m : Machine) (e f : Grown) (old levels : List code.Level) (p q : Parse) (i j : ℕ) (u v : Bool)
    (n low : ℕ) (r : TableRule) → parse_from k e old i u ≡ p → parse_from m f levels j v ≡ q → IsParse m f levels
    → q.machine ≡ p.machine → q.stack ≡ p.stack → IsTableRule k n r → r.body_length + low ≡ length old
    → IsCut p n r low m f levels
is_cut k m e f old levels p q i j u v n low r first second h machines stacks is size =
    let same : k ≡ m = ap (λ x. x.machine) first ∙ (sym machines ∙ ap (λ x. x.machine) (sym second)) in
    let long = ap (λ x. length x.stack) first in
    let later = ap (λ x. length x.stack) second in
    let between = ap (λ s. length s) stacks in
    record {
      machine = sym machines ∙ ap (λ x. x.machine) (sym second);
      stack = ap (λ x. x.stack) second ∙ stacks;
      parse = h;
      rule = subst (λ x. IsTableRule x n r) same is;
      size = omega (arith, length-stack_from e old, length-stack_from f levels);
    }

-- what the reduction does, by where the tables go
cut_reduces : (p : Parse) (n : ℕ) (r : TableRule) (low : ℕ) (m : Machine) (f : Grown) (levels : List code.Level)
    (o : Option ℕ) → IsCut p n r low m f levels → goto_at m (top_of (stack_from f (take low levels))) r.left ≡ o
    → reduce_by p.machine n p.stack (rule_at p.machine n)
    ≡ go_to n r (terms_onto (take r.body_length p.stack) none) (stack_from f (take low levels)) o
cut_reduces p n r low m f levels o h e =
    let size = h.size in
    let long = ap (λ s. length s) h.stack in
    let body : r.body_length ≡ length levels - low = omega arith in
    let rest : drop r.body_length p.stack ≡ stack_from f (take low levels)
    = ap (λ s. drop r.body_length s) (sym h.stack)
    ∙ (ap (λ k. drop k (stack_from f levels)) body ∙ below f levels low) in
    ap (λ k. reduce_by k n p.stack (rule_at k n)) h.machine
    ∙ (ap (reduce_by m n p.stack) (rule_known m n r h.rule)
    ∙ (ap (uncover m n r) (pop_within r.body_length p.stack none (omega (arith, length-stack_from f levels)))
    ∙ (ap (λ s. go_to n r (terms_onto (take r.body_length p.stack) none) s (goto_at m (top_of s) r.left)) rest
    ∙ ap (go_to n r (terms_onto (take r.body_length p.stack) none) (stack_from f (take low levels))) e)))

-- a goto that is missing
pub lacks_goto : (p : Parse) (n : ℕ) (r : TableRule) (low : ℕ) (m : Machine) (f : Grown) (levels : List code.Level)
    (kept : List code.Level) (top : ℕ) → IsCut p n r low m f levels → kept ≡ take low levels
    → top ≡ top_of (stack_from f kept) → None ≡ goto_at m top r.left
    → reduce_by p.machine n p.stack (rule_at p.machine n) ≡ settles faulty
lacks_goto p n r low m f levels kept top h k t e =
    cut_reduces p n r low m f levels None h
    (ap (λ s. goto_at m s r.left) (sym (t ∙ ap (λ s. top_of (stack_from f s)) k)) ∙ sym e)

-- a goto that is there: the reduction is made
pub goes_to : (p : Parse) (n : ℕ) (r : TableRule) (low : ℕ) (m : Machine) (f : Grown) (levels : List code.Level)
    (kept more : List code.Level) (top : ℕ) (l : code.Level) (q : Grown) → IsCut p n r low m f levels
    → kept ≡ take low levels → top ≡ top_of (stack_from f kept) → Some l.state.0 ≡ goto_at m top r.left → q ≡ f
    → StandsFor q l.term (made n r.shape (terms_onto (take (length p.stack - low) p.stack) none))
    → more ≡ kept ++ l ∷ [] → reduce_by p.machine n p.stack (rule_at p.machine n) ≡ goes_on (stack_from f more)
goes_to p n r low m f levels kept more top l q h k t e same stands pushes =
    let size = h.size in
    let long = ap (λ s. length s) h.stack in
    let body : length p.stack - low ≡ r.body_length = omega (arith, length-stack_from f levels) in
    let whole = made n r.shape (terms_onto (take (length p.stack - low) p.stack) none) in
    let term = stands_unwrapped f l.term whole (subst (λ x. StandsFor x l.term whole) same stands)
    ∙ ap (λ j. made n r.shape (terms_onto (take j p.stack) none)) body in
    cut_reduces p n r low m f levels (Some l.state.0) h
    (ap (λ s. goto_at m s r.left) (sym (t ∙ ap (λ s. top_of (stack_from f s)) k)) ∙ sym e)
    ∙ (ap (λ s. goes_on (record {
      state = l.state.0;
      term = made n r.shape (terms_onto (take r.body_length p.stack) none);
    } ∷ s)) (ap (stack_from f) (sym k))
    ∙ (ap (λ d. goes_on (record { state = l.state.0; term = d } ∷ stack_from f kept)) (sym term)
    ∙ ap goes_on (sym (ap (stack_from f) pushes ∙ stack_from-push f kept l))))
