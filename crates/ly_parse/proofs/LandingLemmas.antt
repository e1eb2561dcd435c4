-- Reductions whose goto and the passes behind it are known, on a stack as it is kept.
use Rattle.std.proofs.Common.{◌≡◌, ℕ, ◌<◌, ◌+◌, ◌-◌, ◌*◌, List, [], ◌∷◌, ◌++◌, length, drop, take, Some}
use Rattle.std.proofs.Common.{refl, sym, ap, ◌∙◌, arith, subst}
use Rattle.ly_pack.specs.Machine.{Machine, TableAction, TableRule, action_of, goto_at, states_of, IsLegal}
use Rattle.ly_pack.specs.Machine.{IsMachine, IsShapeFor}
use Rattle.ly_pack.specs.Steady.{rule_at, by_goto, IsTableEdge}
use Rattle.ly_pack.specs.Values.{action_from}
use Rattle.ly_parse.specs.Feeding.{Level, faulty, goes_on, reduce_by, top_of}
use Rattle.ly_parse.specs.Parse.{Parse}
use Rattle.ly_parse.specs.Private.Paying.{places_in, IsStackPaid}
use Rattle.ly_parse.specs.Private.Shortcuts as run
use Rattle.ly_parse.specs.Private.Shortcuts.{GoesTo, IsFrom, IsSituation, LacksGoto, Lands, Passes, Strands}
use Rattle.ly_parse.specs.Private.Stack.{at_once, behind, level_from, stack_from, terms_onto, FailsByRule, FeedAs}
use Rattle.ly_parse.specs.Private.Stack.{IsParse, LeadsByReductions, LeadsByRule}
use Rattle.ly_parse.specs.declared.landing.Landing.{Landing}
use Rattle.ly_parse.specs.declared.level.Level as code
use Rattle.ly_parse.specs.declared.shortcut.Shortcut.{Shortcut}
use Rattle.ly_parse.specs.declared.shortcut.Situation.{Situation}
use Rattle.ly_parse.proofs.FeedingLemmas.{legal}
use Rattle.ly_parse.proofs.PayingLemmas.{made_paid}
use Rattle.ly_parse.proofs.ReduceLemmas.{goes_to, lacks_goto, rule_within, IsCut}
use Rattle.ly_parse.proofs.ShortcutLemmas.{edge_behind, fails, known_behind, leads}
use Rattle.ly_parse.proofs.StackLemmas.{below, cut, length-stack_from, pushed, stack_from-push}
use Rattle.ly_tree.proofs.StandLemmas.{stands_known, stands_unwrapped}
use Rattle.ly_tree.specs.Costs.{budget}
use Rattle.ly_tree.specs.Forest.{Grown, StandsFor}
use Rattle.ly_tree.specs.Term.{Term, made, none}

-- the goto of a landing, from the state of the situation that it leads to
goto_from : (m : Machine) (l : Landing) (s : Situation) → GoesTo m l s
    → goto_at m s.below.0 l.left.0 ≡ Some s.top.0
goto_from m l s goes = ap (λ b. goto_at m b.0 l.left.0) goes.below ∙ goes.goto

-- where a goto leads is a situation that tables allow
pub situated : (m : Machine) (l : Landing) (s : Situation) → IsMachine m → GoesTo m l s → l.below.0 < states_of m
    → l.terminal.0 < m.terminals → IsSituation m s
situated m l s h goes below terminal = record {
  terminal = subst (λ t. t.0 < m.terminals) (sym goes.terminal) terminal;
  below = subst (λ b. b.0 < states_of m) (sym goes.below) below;
  top = h.gotos s.below.0 l.left.0 s.top.0 (goto_from m l s goes);
  edge = by_goto l.left.0 (goto_from m l s goes);
}

-- where a shortcut from a landing leads
pub lands_from : (m : Machine) (l : Landing) (s : Shortcut Landing) → IsFrom (Lands m) l s
    → Lands m l s.state.0 (action_from s.action)
lands_from m l s h = subst (λ k. Lands m k s.state.0 (action_from s.action)) h.0 h.1

-- what the tables do where it leads
pub lands_there : (m : Machine) (l : Landing) (s : Shortcut Landing) → IsFrom (Lands m) l s
    → Lands m l s.state.0 (action_of m s.state.0 l.terminal.0)
lands_there m l s h =
    let lands = lands_from m l s h in
    subst (Lands m l s.state.0) (lands.2.acts ∙ ap (λ t. action_of m s.state.0 t.0) lands.1.terminal) lands

-- the state there is one of the tables
pub lands_known : (m : Machine) (l : Landing) (s : Shortcut Landing) → IsMachine m → IsFrom (Lands m) l s
    → s.state.0 < states_of m
lands_known m l s machine h =
    let lands = lands_from m l s h in
    known_behind m lands.0.terminal.0 lands.0.below.0 lands.0.top.0 s.state.0 machine lands.2.passes
    (machine.gotos lands.0.below.0 l.left.0 lands.0.top.0 (goto_from m l lands.0 lands.1))

-- A stack whose levels above some are the body of a rule, in a forest that has the rule's term, and what is left of it.
pub record IsReduced (p : Parse) (n : ℕ) (r : TableRule) (low : ℕ) (m : Machine) (f : Grown)
    (levels kept : List code.Level) (l : Landing) (x : code.Level) (q : Grown) : Type 0 where
  pub cut : IsCut p n r low m f levels
  pub left_of : kept ≡ take low levels
  pub below : l.below.0 ≡ top_of (stack_from f kept)
  pub left : l.left.0 ≡ r.left
  pub same : q ≡ f
  pub stands : StandsFor q x.term (made n r.shape (terms_onto (take (length p.stack - low) p.stack) none))

-- Its left side is landed, with a level put on top.
module _ (p : Parse) (n : ℕ) (r : TableRule) (low : ℕ) (m : Machine) (f : Grown) (levels kept : List code.Level)
    (l : Landing) (x : code.Level) (q : Grown) (h : IsReduced p n r low m f levels kept l x q) where
  -- the stack that is left, and the term put there
  abbrev rest : List Level
  rest = stack_from f kept

  abbrev term : Term
  term = (level_from f x).term

  -- a goto leads to a situation
  module _ (s : Situation) (goes : GoesTo m l s) where
    under : top_of rest ≡ s.below.0
    under = sym h.below ∙ ap (λ b. b.0) (sym goes.below)

    abbrev first : code.Level
    first = record { state = s.top; term = x.term }

    reduces : reduce_by p.machine n p.stack (rule_at p.machine n) ≡ goes_on (stack_from f (kept ++ first ∷ []))
    reduces = goes_to p n r low m f levels kept (kept ++ first ∷ []) l.below.0 first q h.cut h.left_of h.below
        (sym goes.goto ∙ ap (goto_at m l.below.0) h.left) h.same h.stands refl

    fails_behind : LacksGoto m s → FailsByRule p.machine n l.terminal.0 p.stack
    fails_behind lacks = behind (stack_from f (kept ++ first ∷ [])) reduces
        (subst (λ w. FeedAs p.machine l.terminal.0 w faulty) (sym (stack_from-push f kept first))
        (subst (λ k. FeedAs k l.terminal.0 (level_from f first ∷ rest) faulty) (sym h.cut.machine)
        (subst (λ t. FeedAs m t.0 (level_from f first ∷ rest) faulty) goes.terminal
        (fails m s term rest under lacks))))

  -- where a goto is missing
  pub strands : Strands m l → FailsByRule p.machine n l.terminal.0 p.stack
  strands (run.at_once missing) = at_once (lacks_goto p n r low m f levels kept l.below.0 h.cut h.left_of h.below
      (sym missing ∙ ap (goto_at m l.below.0) h.left))
  strands (run.behind s goes lacks) = fails_behind s goes lacks

  -- the forest pays for what the rule makes and for what is left
  left_paid : IsStackPaid p.forest p.stack
      → ((each byte : ℕ) → budget each byte q ≡ budget each byte p.forest + each * places_in r.shape)
      → IsStackPaid f (level_from f x ∷ rest)
  left_paid paid pays =
      let popped = length p.stack - low in
      let size = h.cut.size in
      let long = ap (λ s. length s) h.cut.stack in
      let body : r.body_length ≡ popped = omega (arith, length-stack_from f levels) in
      let whole = made n r.shape (terms_onto (take popped p.stack) none) in
      let left : drop popped p.stack ≡ rest
      = ap (λ s. drop (length s - low) s) (sym h.cut.stack)
      ∙ (ap (λ k. drop (k - low) (stack_from f levels)) (length-stack_from f levels)
      ∙ (below f levels low ∙ ap (stack_from f) (sym h.left_of))) in
      subst (λ t. IsStackPaid f (record { state = x.state.0; term = t } ∷ rest))
      (sym (stands_unwrapped f x.term whole (subst (λ g. StandsFor g x.term whole) h.same h.stands)))
      (subst (λ s. IsStackPaid f (record { state = x.state.0; term = whole } ∷ s)) left
      (subst (λ g. IsStackPaid g (record { state = x.state.0; term = whole } ∷ drop popped p.stack)) h.same
      (made_paid p.forest q p.stack popped n x.state.0 r.shape paid
      (subst (λ k. IsShapeFor k r.shape) body (rule_within m n r h.cut.parse.machine h.cut.rule).shape)
      (omega arith) pays)))

  -- where it leads to the level's state
  module _ (a : TableAction) (lands : Lands m l x.state.0 a) where
    passes : Passes m lands.0.terminal.0 lands.0.below.0 lands.0.top.0 x.state.0
    passes = lands.2.passes

    goto : goto_at m lands.0.below.0 l.left.0 ≡ Some lands.0.top.0
    goto = goto_from m l lands.0 lands.1

    -- the parse stays one
    pub landed : IsStackPaid p.forest p.stack
        → ((each byte : ℕ) → budget each byte q ≡ budget each byte p.forest + each * places_in r.shape)
        → IsParse m f (kept ++ x ∷ [])
    landed paid pays = pushed m f kept x (subst (IsParse m f) (sym h.left_of) (cut m f levels low h.cut.parse))
        (known_behind m lands.0.terminal.0 lands.0.below.0 lands.0.top.0 x.state.0 h.cut.parse.machine passes
        (h.cut.parse.machine.gotos lands.0.below.0 l.left.0 lands.0.top.0 goto))
        (stands_known f x.term (made n r.shape (terms_onto (take (length p.stack - low) p.stack) none))
        (subst (λ k. StandsFor k x.term (made n r.shape (terms_onto (take (length p.stack - low) p.stack) none)))
        h.same h.stands))
        (subst (λ b. IsTableEdge m b x.state.0) (sym (under lands.0 lands.1))
        (edge_behind m lands.0.terminal.0 lands.0.below.0 lands.0.top.0 x.state.0 passes (by_goto l.left.0 goto)))
        (left_paid paid pays)

    -- all that the action names is there
    pub legal_there : IsLegal p.machine l.terminal.0 a
    legal_there = subst (λ k. IsLegal k l.terminal.0 a) (sym h.cut.machine)
        (legal m x.state.0 l.terminal.0 a h.cut.parse.machine
        (sym (lands.2.acts ∙ ap (λ t. action_of m x.state.0 t.0) lands.1.terminal)))

    module _ (more : List code.Level) (pushes : more ≡ kept ++ x ∷ []) where
      all : stack_from f more ≡ level_from f x ∷ rest
      all = ap (stack_from f) pushes ∙ stack_from-push f kept x

      -- the reduction and the passes lead there
      pub leads_on : LeadsByRule p.machine n l.terminal.0 p.stack (stack_from f more)
      leads_on = let start = first lands.0 lands.1 in record {
        next = stack_from f (kept ++ start ∷ []);
        makes = reduces lands.0 lands.1;
        leads = subst (λ w. LeadsByReductions p.machine l.terminal.0 w (stack_from f more))
            (sym (stack_from-push f kept start))
            (subst (LeadsByReductions p.machine l.terminal.0 (level_from f start ∷ rest)) (sym all)
            (subst (λ k. LeadsByReductions k l.terminal.0 (level_from f start ∷ rest) (level_from f x ∷ rest))
            (sym h.cut.machine)
            (subst (λ t. LeadsByReductions m t.0 (level_from f start ∷ rest) (level_from f x ∷ rest)) lands.1.terminal
            (leads m lands.0.terminal.0 lands.0.top.0 term rest x.state.0
            (subst (λ b. Passes m lands.0.terminal.0 b lands.0.top.0 x.state.0) (sym (under lands.0 lands.1))
            passes)))));
      }

      -- and the action is what is done there
      pub acts_there : a ≡ action_of p.machine (top_of (stack_from f more)) l.terminal.0
      acts_there = lands.2.acts
          ∙ (ap (λ t. action_of m x.state.0 t.0) lands.1.terminal
          ∙ (ap (λ w. action_of m (top_of w) l.terminal.0) (sym all)
          ∙ ap (λ k. action_of k (top_of (stack_from f more)) l.terminal.0) (sym h.cut.machine)))
