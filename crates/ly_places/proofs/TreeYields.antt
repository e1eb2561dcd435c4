-- The trees on a parser's stack have the tokens that were read as their yields, and fit its rules.
use Rattle.std.proofs.Common.{◌≡◌, ◌∙◌, ◌+◌, ◌-◌, ℕ, zero, suc, List, [], ◌∷◌, ◌++◌, Option, Some, None, ap, append-nil}
use Rattle.std.proofs.Common.{append_assoc, arith, refl, slice_get, subst, sym}
use Rattle.ly_base.specs.Lexed.{Token}
use Rattle.ly_base.specs.Trees.{Tree, Trees, more, none, yield_of, yields_of}
use Rattle.ly_pack.specs.Machine.{IsLegal, IsMachine, IsRuleNumber, Machine, TableAction, TableRule, action_of, goto_at}
use Rattle.ly_pack.specs.Machine.{accept, error, reduce, shift}
use Rattle.ly_pack.specs.Steady.{rule_at}
use Rattle.ly_parse.proofs.FeedingLemmas.{legal}
use Rattle.ly_parse.specs.Deriving.{FeedsTree, TreeFed, TreeLevel, TreeTurn, accept_tree, done, faulty}
use Rattle.ly_parse.specs.Deriving.{go_to_state, goes_on, onward, perform_trees, pop_trees, pushed}
use Rattle.ly_parse.specs.Deriving.{reduce_trees, refused, settled, settles, top_state, turn_trees, uncover_trees}
use Rattle.ly_places.specs.Shapes.{AllFit, Fits, FitsRule, count_of}

-- the tokens of the trees on a stack, the bottom's first
abbrev pub yields_on : List TreeLevel → List (Token ℕ)
yields_on [] = []
yields_on (l ∷ stack) = yields_on stack ++ yield_of l.tree

abbrev pub AllFitOn : List TableRule → List TreeLevel → Type 0
AllFitOn rules [] = Unit {0}
AllFitOn rules (l ∷ stack) = Fits rules l.tree × AllFitOn rules stack

pop_yields : (n : ℕ) (stack : List TreeLevel) (ts : Trees) (x : Trees × List TreeLevel)
    → pop_trees n stack ts ≡ Some x → yields_on stack ++ yields_of ts ≡ yields_on x.1 ++ yields_of x.0
pop_yields zero stack ts x e =
    let same : (ts, stack) ≡ x = cc in ap (λ y. yields_on y.1 ++ yields_of y.0) same
pop_yields (suc n) [] ts x e = absurd cc
pop_yields (suc n) (l ∷ stack) ts x e = append_assoc (yields_on stack) (yield_of l.tree) (yields_of ts)
    ∙ pop_yields n stack (more l.tree ts) x e

pop_count : (n : ℕ) (stack : List TreeLevel) (ts : Trees) (x : Trees × List TreeLevel)
    → pop_trees n stack ts ≡ Some x → count_of x.0 ≡ n + count_of ts
pop_count zero stack ts x e =
    let same : (ts, stack) ≡ x = cc in
    let count = ap (λ y. count_of y.0) same in omega (arith, count)
pop_count (suc n) [] ts x e = absurd cc
pop_count (suc n) (l ∷ stack) ts x e = let rest = pop_count n stack (more l.tree ts) x e in omega (arith, rest)

pop_fits : (rules : List TableRule) (n : ℕ) (stack : List TreeLevel) (ts : Trees) (x : Trees × List TreeLevel)
    → pop_trees n stack ts ≡ Some x → AllFitOn rules stack → AllFit rules ts
    → AllFit rules x.0 × AllFitOn rules x.1
pop_fits rules zero stack ts x e below fits =
    let same : (ts, stack) ≡ x = cc in subst (λ y. AllFit rules y.0 × AllFitOn rules y.1) same (fits, below)
pop_fits rules (suc n) [] ts x e below fits = absurd cc
pop_fits rules (suc n) (l ∷ stack) ts x e below fits =
    pop_fits rules n stack (more l.tree ts) x e below.1 (below.0, fits)

-- A reduction leaves the tokens as they are.
pub record IsReduced (rules : List TableRule) (stack next : List TreeLevel) : Type 0 where
  pub yields : yields_on next ≡ yields_on stack
  pub fit : AllFitOn rules next

-- the tree on top has the tokens behind some others
pub record IsOnTop (rules : List TableRule) (stack : List TreeLevel) (t : Tree) : Type 0 where
  pub before : List (Token ℕ)
  pub yields : yields_on stack ≡ before ++ yield_of t
  pub fits : Fits rules t

-- what holds of the trees behind a token
abbrev pub IsGrown : List TableRule → Token ℕ → List TreeLevel → TreeFed → Type 0
IsGrown rules token stack (pushed next) = (yields_on next ≡ yields_on stack ++ token ∷ []) × AllFitOn rules next
IsGrown rules token stack (done t) = IsOnTop rules stack t
IsGrown rules token stack refused = Unit {0}
IsGrown rules token stack faulty = Unit {0}

-- of a turn
abbrev IsTurned : List TableRule → Token ℕ → List TreeLevel → TreeTurn → Type 0
IsTurned rules token stack (settles out) = IsGrown rules token stack out
IsTurned rules token stack (goes_on next) = IsReduced rules stack next

module _ (m : Machine) (token : Token ℕ) (is_machine : IsMachine m) where
  fits_rule : (p : ℕ) (r : TableRule) (ts : Trees) → IsRuleNumber m p → rule_at m p ≡ Some r
      → count_of ts ≡ r.body_length → FitsRule m.rules p ts
  fits_rule zero r ts is at count = absurd (let low = is.0 in omega (arith, low))
  fits_rule (suc p) r ts is at count =
      let place : suc p - 1 ≡ p = omega arith in (r, subst (λ n. slice_get m.rules n ≡ Some r) place at, count)

  goes : (p : ℕ) (r : TableRule) (stack : List TreeLevel) (x : Trees × List TreeLevel) (o : Option ℕ)
      → IsRuleNumber m p → rule_at m p ≡ Some r → AllFitOn m.rules stack → pop_trees r.body_length stack none ≡ Some x
      → IsTurned m.rules token stack (go_to_state p x.0 x.1 o)
  goes p r stack x None is at fit popped = tt
  goes p r stack x (Some state) is at fit popped =
      let fits = pop_fits m.rules r.body_length stack none x popped fit tt in
      let count = pop_count r.body_length stack none x popped in
      let enough : count_of x.0 ≡ r.body_length = omega (arith, count) in
      record {
        yields = sym (sym (append-nil (yields_on stack)) ∙ pop_yields r.body_length stack none x popped);
        fit = ((fits_rule p r x.0 is at enough, fits.0), fits.1);
      }

  reduces : (p : ℕ) (r : TableRule) (stack : List TreeLevel) (o : Option (Trees × List TreeLevel))
      → IsRuleNumber m p → rule_at m p ≡ Some r → AllFitOn m.rules stack → pop_trees r.body_length stack none ≡ o
      → IsTurned m.rules token stack (uncover_trees m p r o)
  reduces p r stack None is at fit popped = tt
  reduces p r stack (Some x) is at fit popped =
      goes p r stack x (goto_at m (top_state x.1) r.left) is at fit popped

  by_rule : (p : ℕ) (stack : List TreeLevel) (o : Option TableRule) → IsRuleNumber m p → rule_at m p ≡ o
      → AllFitOn m.rules stack → IsTurned m.rules token stack (reduce_trees m p stack o)
  by_rule p stack None is at fit = tt
  by_rule p stack (Some r) is at fit = reduces p r stack (pop_trees r.body_length stack none) is at fit refl

  accepts : (stack : List TreeLevel) → AllFitOn m.rules stack → IsTurned m.rules token stack (accept_tree stack)
  accepts [] fit = tt
  accepts (l ∷ stack) fit = record { before = yields_on stack; yields = refl; fits = fit.0 }

  performs : (stack : List TreeLevel) (a : TableAction) → IsLegal m token.terminal a → AllFitOn m.rules stack
      → IsTurned m.rules token stack (perform_trees m token stack a)
  performs stack (shift state) is fit = (refl, (tt, fit))
  performs stack (reduce p) is fit = by_rule p stack (rule_at m p) is refl fit
  performs stack accept is fit = accepts stack fit
  performs stack error is fit = tt

  turned : (stack : List TreeLevel) → AllFitOn m.rules stack
      → IsTurned m.rules token stack (turn_trees m token stack)
  turned stack fit =
      let a = action_of m (top_state stack) token.terminal in
      performs stack a (legal m (top_state stack) token.terminal a is_machine refl) fit

  behind_reduction : (stack next : List TreeLevel) (out : TreeFed) → IsReduced m.rules stack next
      → IsGrown m.rules token next out → IsGrown m.rules token stack out
  behind_reduction stack next (pushed last) r g = (g.0 ∙ ap (λ ts. ts ++ token ∷ []) r.yields, g.1)
  behind_reduction stack next (done t) r g
      = record { before = g.before; yields = sym r.yields ∙ g.yields; fits = g.fits }
  behind_reduction stack next refused r g = tt
  behind_reduction stack next faulty r g = tt

  -- behind a token that is read its leaf stands, and a tree that is accepted has the last tokens
  pub grown : {stack : List TreeLevel} {out : TreeFed} → FeedsTree m token stack out → AllFitOn m.rules stack
      → IsGrown m.rules token stack out
  grown {stack} (settled e) fit = subst (IsTurned m.rules token stack) e (turned stack fit)
  grown {stack} {out} (onward {next = next} e f) fit =
      let r = subst (IsTurned m.rules token stack) e (turned stack fit) in
      behind_reduction stack next out r (grown f r.fit)
