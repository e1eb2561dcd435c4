-- Reductions that pass on the term on top of the stack, on a stack as it is kept.
use Rattle.std.proofs.Common.{◌≡◌, ℕ, zero, suc, ◌<◌, ◌≤◌, ◌-◌, List, [], ◌∷◌, ◌++◌, length, drop, take, get_or}
use Rattle.std.proofs.Common.{slice_set, Some, refl, sym, ap, ◌∙◌, arith, subst}
use Rattle.std.proofs.lemmas.List.{get_or-take, length-take-le}
use Rattle.std.specs.Global.{Global}
use Rattle.std.specs.Prelude.{Bool, IsSome, Vec, vec_len}
use Rattle.ly_base.specs.Shape.{place}
use Rattle.ly_pack.specs.Machine.{Machine, TableRule, action_of, reduce, states_of, IsMachine, IsShapeFor, IsTableRule}
use Rattle.ly_pack.specs.Steady.{IsTableEdge}
use Rattle.ly_pack.specs.SteadyLaws.{IsStack}
use Rattle.ly_pack.specs.Values.{action_from}
use Rattle.ly_pack.proofs.WithinLemmas.{rule_known}
use Rattle.ly_parse.specs.Feeding.{faulty, states_on, top_of}
use Rattle.ly_parse.specs.Parse.{Parse}
use Rattle.ly_parse.specs.Private.Paying.{IsStackPaid}
use Rattle.ly_parse.specs.Private.Shortcuts.{passing, ArePasses, IsFrom, IsPass, IsSituation, LacksGoto, Passes}
use Rattle.ly_parse.specs.Private.Stack.{level_from, parse_from, stack_from, FeedAs, IsParse, LeadsByReductions}
use Rattle.ly_parse.specs.declared.level.Level as code
use Rattle.ly_parse.specs.declared.shortcut.Shortcut.{Shortcut}
use Rattle.ly_parse.specs.declared.shortcut.Situation.{Situation}
use Rattle.ly_parse.proofs.ReduceLemmas.{rule_within}
use Rattle.ly_parse.proofs.ShortcutLemmas.{acts_from, edge_behind, fails, known_behind, leads}
use Rattle.ly_parse.proofs.StackLemmas.{below, cut, edge_under, length-stack_from, pushed, stack_from-push}
use Rattle.ly_tree.specs.Forest.{term_of, Grown}

-- how many levels are below the top one
pub counts : (v : Vec code.Level Global) (n low : ℕ) → n ≡ vec_len v → (1 ≤ n) × (low ≡ n - 1)
    → suc low ≡ length v.items
counts v n low count cases =
    let some = cases.0 in
    let rest = cases.1 in
    omega (arith, some, rest, count)

-- the level on top, and those below it
top_apart : (levels : List code.Level) (low : ℕ) (l : code.Level) → suc low ≡ length levels → l ≡ get_or levels low l
    → levels ≡ take low levels ++ l ∷ []
top_apart [] low l size e = absurd (omega (arith, size))
top_apart (x ∷ []) zero l size e = ap (λ y. y ∷ []) (sym e)
top_apart (x ∷ y ∷ levels) zero l size e = absurd (omega (arith, size))
top_apart (x ∷ levels) (suc low) l size e = ap (λ w. x ∷ w) (top_apart levels low l (omega (arith, size)) e)

-- another in its place
top_replaced : (levels : List code.Level) (low : ℕ) (l : code.Level) → suc low ≡ length levels
    → slice_set levels low l ≡ take low levels ++ l ∷ []
top_replaced [] low l size = absurd (omega (arith, size))
top_replaced (x ∷ []) zero l size = refl
top_replaced (x ∷ y ∷ levels) zero l size = absurd (omega (arith, size))
top_replaced (x ∷ levels) (suc low) l size = ap (λ w. x ∷ w) (top_replaced levels low l (omega (arith, size)))

-- a place has one level
pub one_level : (levels : List code.Level) (low : ℕ) (k l : code.Level) → suc low ≡ length levels
    → k ≡ get_or levels low k → l ≡ get_or levels low l → l ≡ k
one_level [] low k l size e f = absurd (omega (arith, size))
one_level (x ∷ levels) zero k l size e f = f ∙ sym e
one_level (x ∷ levels) (suc low) k l size e f = one_level levels low k l (omega (arith, size)) e f

-- the levels up to a height
up_to : (m : Machine) (f : Grown) (levels : List code.Level) (p : Parse) (count : ℕ) (over : Bool) (height : ℕ)
    → parse_from m f levels count over ≡ p
    → drop (length p.stack - height) p.stack ≡ stack_from f (take height levels)
up_to m f levels p count over height view =
    ap (λ q. drop (length q.stack - height) q.stack) (sym view)
    ∙ (ap (λ k. drop (k - height) (stack_from f levels)) (length-stack_from f levels) ∙ below f levels height)

-- and the state on top of them
pub state_at : (m : Machine) (f : Grown) (levels : List code.Level) (p : Parse) (count : ℕ) (over : Bool)
    (height low : ℕ) (l : code.Level) → parse_from m f levels count over ≡ p → height ≤ length p.stack
    → (1 ≤ height) × (low ≡ height - 1) → l ≡ get_or levels low l
    → l.state.0 ≡ top_of (drop (length p.stack - height) p.stack)
state_at m f levels p count over height low l view within next e =
    let long = ap (λ q. length q.stack) view in
    let some = next.0 in
    let same = next.1 in
    let size : suc low ≡ length (take height levels)
    = omega (arith, some, same)
    ∙ sym (length-take-le height levels (omega (arith, length-stack_from f levels, long))) in
    let there = e ∙ sym (get_or-take height levels low l (omega (arith, some, same))) in
    sym (ap top_of (up_to m f levels p count over height view
    ∙ (ap (stack_from f) (top_apart (take height levels) low l size there)
    ∙ stack_from-push f (take low (take height levels)) l)))

-- the state on top of them, where it is told
pub top_below : (m : Machine) (f : Grown) (levels : List code.Level) (p : Parse) (count : ℕ) (over : Bool)
    (height top : ℕ) → parse_from m f levels count over ≡ p → top ≡ top_of (drop (length p.stack - height) p.stack)
    → top ≡ top_of (stack_from f (take height levels))
top_below m f levels p count over height top view t = t ∙ ap top_of (up_to m f levels p count over height view)

-- that of all levels is the stack's
pub top_of_all : (m : Machine) (f : Grown) (v : Vec code.Level Global) (p : Parse) (count : ℕ) (over : Bool)
    (n top : ℕ) → parse_from m f v.items count over ≡ p → n ≡ vec_len v
    → top ≡ top_of (drop (length p.stack - n) p.stack) → top ≡ top_of p.stack
top_of_all m f v p count over n top view size t =
    let long = ap (λ q. length q.stack) view in
    let all : length p.stack - n ≡ 0 = omega (arith, length-stack_from f v.items, long, size) in
    t ∙ ap (λ k. top_of (drop k p.stack)) all

-- A parse with a level on top, and the state below that.
pub record HasTop (p : Parse) (m : Machine) (f : Grown) (levels : List code.Level) (low below : ℕ) (k : code.Level)
    : Type 0 where
  pub machine : m ≡ p.machine
  pub parse : IsParse m f levels
  pub size : suc low ≡ length levels
  pub is : k ≡ get_or levels low k
  pub stack : level_from f k ∷ stack_from f (take low levels) ≡ p.stack
  pub under : top_of (stack_from f (take low levels)) ≡ below

pub has_top : (m : Machine) (f : Grown) (levels : List code.Level) (p : Parse) (count : ℕ) (over : Bool)
    (low below : ℕ) (k : code.Level) → parse_from m f levels count over ≡ p → IsParse m f levels
    → suc low ≡ length levels → k ≡ get_or levels low k
    → below ≡ top_of (drop (length p.stack - low) p.stack) → HasTop p m f levels low below k
has_top m f levels p count over low below k view h size is t = record {
  machine = ap (λ q. q.machine) view;
  parse = h;
  size = size;
  is = is;
  stack = sym (ap (stack_from f) (top_apart levels low k size is) ∙ stack_from-push f (take low levels) k)
      ∙ ap (λ q. q.stack) view;
  under = sym (t ∙ ap top_of (up_to m f levels p count over low view));
}

-- it stands in a situation that its tables allow
pub situated : (p : Parse) (m : Machine) (f : Grown) (levels : List code.Level) (low : ℕ) (k : code.Level)
    (s : Situation) → HasTop p m f levels low s.below.0 k → s.top.0 ≡ k.state.0 → s.below.0 < states_of p.machine
    → s.terminal.0 < p.machine.terminals → IsSituation m s
situated p m f levels low k s h top below terminal =
    let size = h.size in
    let edges = subst (λ w. IsStack m (states_on w))
    (ap (stack_from f) (top_apart levels low k size h.is) ∙ stack_from-push f (take low levels) k) h.parse.edges in
    let edge = subst (λ b. IsTableEdge m b k.state.0) h.under
    (edge_under m (level_from f k) (stack_from f (take low levels)) edges) in record {
      terminal = subst (λ q. s.terminal.0 < q.terminals) (sym h.machine) terminal;
      below = subst (λ q. s.below.0 < states_of q) (sym h.machine) below;
      top = subst (λ x. x < states_of m) (sym (top ∙ ap (λ x. x.state.0) h.is)) (h.parse.states low k (omega arith));
      edge = subst (IsTableEdge m s.below.0) (sym top) edge;
    }

-- with another state on top, which passes lead to, the parse stays one
pub passed_on : (p : Parse) (m : Machine) (f : Grown) (levels : List code.Level) (low : ℕ) (k l : code.Level)
    (s : Situation) → HasTop p m f levels low s.below.0 k → IsSituation m s
    → Passes m s.terminal.0 s.below.0 s.top.0 l.state.0 → l.term ≡ k.term → IsParse m f (slice_set levels low l)
passed_on p m f levels low k l s h stands passes term =
    let size = h.size in
    subst (IsParse m f) (sym (top_replaced levels low l size))
    (pushed m f (take low levels) l (cut m f levels low h.parse)
    (known_behind m s.terminal.0 s.below.0 s.top.0 l.state.0 h.parse.machine passes stands.top)
    (subst (λ n. IsSome (term_of f n)) (sym (term ∙ ap (λ x. x.term) h.is)) (h.parse.terms low k (omega arith)))
    (subst (λ b. IsTableEdge m b l.state.0) (sym h.under)
    (edge_behind m s.terminal.0 s.below.0 s.top.0 l.state.0 passes stands.edge))
    (subst (λ n. IsStackPaid f (level_from f (record { state = l.state; term = n }) ∷ stack_from f (take low levels)))
    (sym term) (subst (IsStackPaid f)
    (ap (stack_from f) (top_apart levels low k size h.is) ∙ stack_from-push f (take low levels) k) h.parse.paid)))

-- the stack then
pub passed_stack : (f : Grown) (levels : List code.Level) (low : ℕ) (k l : code.Level) → suc low ≡ length levels
    → l.term ≡ k.term
    → stack_from f (slice_set levels low l)
    ≡ record { state = l.state.0; term = (level_from f k).term } ∷ stack_from f (take low levels)
passed_stack f levels low k l size term =
    ap (stack_from f) (top_replaced levels low l size)
    ∙ (stack_from-push f (take low levels) l
    ∙ ap (λ n. level_from f (record { state = l.state; term = n }) ∷ stack_from f (take low levels)) term)

-- what is done there
pub acts_on : (p : Parse) (m : Machine) (f : Grown) (levels : List code.Level) (low below : ℕ) (k l : code.Level)
    (from : Situation) (s : Shortcut Situation) → HasTop p m f levels low below k → IsFrom (ArePasses m) from s
    → l.state ≡ s.state → l.term ≡ k.term
    → action_from s.action ≡ action_of p.machine (top_of (stack_from f (slice_set levels low l))) from.terminal.0
acts_on p m f levels low below k l from s h is state term =
    acts_from m from s is
    ∙ (ap (λ x. action_of m x.0 from.terminal.0) (sym state)
    ∙ (ap (λ w. action_of m (top_of w) from.terminal.0) (sym (passed_stack f levels low k l h.size term))
    ∙ ap (λ q. action_of q (top_of (stack_from f (slice_set levels low l))) from.terminal.0) h.machine))

-- and passes lead there
pub passes_lead : (p : Parse) (m : Machine) (f : Grown) (levels : List code.Level) (low : ℕ) (k l : code.Level)
    (s : Situation) → HasTop p m f levels low s.below.0 k → s.top.0 ≡ k.state.0
    → Passes m s.terminal.0 s.below.0 s.top.0 l.state.0 → l.term ≡ k.term
    → LeadsByReductions p.machine s.terminal.0 p.stack (stack_from f (slice_set levels low l))
passes_lead p m f levels low k l s h top passes term =
    let rest = stack_from f (take low levels) in
    let x = (level_from f k).term in
    let led = leads m s.terminal.0 s.top.0 x rest l.state.0
    (subst (λ b. Passes m s.terminal.0 b s.top.0 l.state.0) (sym h.under) passes) in
    subst (λ q. LeadsByReductions q s.terminal.0 p.stack (stack_from f (slice_set levels low l))) h.machine
    (subst (λ w. LeadsByReductions m s.terminal.0 w (stack_from f (slice_set levels low l)))
    (ap (λ n. record { state = n; term = x } ∷ rest) top ∙ h.stack)
    (subst (LeadsByReductions m s.terminal.0 (record { state = s.top.0; term = x } ∷ rest))
    (sym (passed_stack f levels low k l h.size term)) led))

-- where a goto is missing the token is settled so
pub passes_fail : (p : Parse) (m : Machine) (f : Grown) (levels : List code.Level) (low : ℕ) (k : code.Level)
    (s : Situation) → HasTop p m f levels low s.below.0 k → s.top.0 ≡ k.state.0 → LacksGoto m s
    → FeedAs p.machine s.terminal.0 p.stack faulty
passes_fail p m f levels low k s h top lacks =
    let rest = stack_from f (take low levels) in
    let x = (level_from f k).term in
    subst (λ q. FeedAs q s.terminal.0 p.stack faulty) h.machine
    (subst (λ w. FeedAs m s.terminal.0 w faulty) (ap (λ n. record { state = n; term = x } ∷ rest) top ∙ h.stack)
    (fails m s x rest h.under lacks))

-- a rule that passes on the one symbol of its body
pub is_passing : (m : Machine) (r : TableRule) (i : ℕ) → IsShapeFor r.body_length r.shape → r.body_length ≡ 1
    → r.shape ≡ place i → r ≡ passing r.left
is_passing m r i fits one shape =
    let within : IsShapeFor 1 (place i) = subst (IsShapeFor 1) shape (subst (λ n. IsShapeFor n r.shape) one fits) in
    let low = within.0 in
    let high = within.1 in
    ap (λ n. record { left = r.left; body_length = n; shape = r.shape }) one
    ∙ ap (λ s. record { left = r.left; body_length = 1; shape = s }) (shape ∙ ap place (omega (arith, low, high)))

-- so a reduction by it is a pass
pub is_pass : (m : Machine) (n i : ℕ) (r : TableRule) → IsMachine m → IsTableRule m n r → r.body_length ≡ 1
    → r.shape ≡ place i → IsPass m (reduce n) r.left
is_pass m n i r h is one shape =
    (n, refl, rule_known m n r is ∙ ap Some (is_passing m r i (rule_within m n r h is).shape one shape))
