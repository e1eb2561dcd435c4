-- The run of tables with terms on the stack is the run with derivation trees, and its terms are built from the trees.
use Rattle.std.proofs.Common.{◌≡◌, ◌∙◌, ℕ, zero, suc, ◌-◌, List, [], ◌∷◌, Option, Some, None, ap, arith, refl}
use Rattle.std.proofs.Common.{slice_get, subst, sym}
use Rattle.std.specs.Prelude.{option_map, unwrap_or}
use Rattle.ly_base.specs.Lexed.{Token}
use Rattle.ly_base.specs.Shape.{Shape, nil}
use Rattle.ly_base.specs.Trees.{Tree, Trees, leaf, more, node, none}
use Rattle.ly_pack.specs.Machine.{Machine, TableAction, TableRule, action_of, goto_at}
use Rattle.ly_pack.specs.Machine.{accept, error, reduce, shift}
use Rattle.ly_pack.specs.Steady.{rule_at}
use Rattle.ly_parse.specs.Deriving.{AcceptedTermsAreBuilt, Derives, DerivesInOneWay, FeedsTree}
use Rattle.ly_parse.specs.Deriving.{HasTrees, ReadsTrees, TermsAreOfTrees, TreeFed, TreeLevel, TreeTurn}
use Rattle.ly_parse.specs.Deriving.{TreesAreFedInOneWay, accept_tree, and_one, at_end, done, faulty, fed_by}
use Rattle.ly_parse.specs.Deriving.{go_to_state, goes_on, levels_by, onward, perform_trees, pop_trees, pushed}
use Rattle.ly_parse.specs.Deriving.{reduce_trees, refused, settled, settles, shape_of_rule, states_below, top_state}
use Rattle.ly_parse.specs.Deriving.{turn_trees, uncover_trees}
use Rattle.ly_parse.specs.Feeding.{Fed, Feeds, Level, Turn, accept_with, perform, pop, reduce_by, states_on, top_of}
use Rattle.ly_parse.specs.Feeding.{turn, uncover}
use Rattle.ly_parse.specs.Feeding as terms
use Rattle.ly_parse.specs.Reading.{ReadsTokens}
use Rattle.ly_parse.specs.Reading as reading
use Rattle.ly_tree.specs.Term.{Term, Terms, build, builds, made}

-- a turn with the terms that rules of these shapes build from the trees
abbrev pub turn_by : (ℕ → Shape) → TreeTurn → Turn
turn_by shape (settles out) = terms.settles (fed_by shape out)
turn_by shape (goes_on stack) = terms.goes_on (levels_by shape stack)

abbrev popped_by : (ℕ → Shape) → Option (Trees × List TreeLevel) → Option (Terms × List Level)
popped_by shape None = None
popped_by shape (Some x) = Some (builds shape x.0, levels_by shape x.1)

pub same_states : (shape : ℕ → Shape) (stack : List TreeLevel) → states_on (levels_by shape stack) ≡ states_below stack
same_states shape [] = refl
same_states shape (l ∷ stack) = ap (λ states. l.state ∷ states) (same_states shape stack)

-- the shapes of a machine's rules are these
pub has_shapes : (m : Machine) (p : ℕ) (r : TableRule) → rule_at m p ≡ Some r → shape_of_rule m.rules p ≡ r.shape
has_shapes m zero r at = ap (λ o. unwrap_or (option_map (λ (x : TableRule). x.shape) o) nil) at
has_shapes m (suc p) r at =
    let place : suc p - 1 ≡ p = omega arith in
    ap (λ o. unwrap_or (option_map (λ (x : TableRule). x.shape) o) nil)
    (subst (λ n. slice_get m.rules n ≡ Some r) place at)

pub same_top : (shape : ℕ → Shape) (stack : List TreeLevel) → top_of (levels_by shape stack) ≡ top_state stack
same_top shape [] = refl
same_top shape (l ∷ stack) = refl

module _ (m : Machine) (token : Token ℕ) where
  abbrev pub shape : ℕ → Shape
  shape = shape_of_rule m.rules

  pops : (n : ℕ) (stack : List TreeLevel) (ts : Trees)
      → pop n (levels_by shape stack) (builds shape ts) ≡ popped_by shape (pop_trees n stack ts)
  pops zero stack ts = refl
  pops (suc n) [] ts = refl
  pops (suc n) (l ∷ stack) ts = pops n stack (more l.tree ts)

  goes : (p : ℕ) (r : TableRule) (ts : Trees) (stack : List TreeLevel) (o : Option ℕ) → shape p ≡ r.shape
      → terms.go_to p r (builds shape ts) (levels_by shape stack) o ≡ turn_by shape (go_to_state p ts stack o)
  goes p r ts stack None same = refl
  goes p r ts stack (Some state) same = ap (λ s. terms.goes_on (record {
    state = state;
    term = made p s (builds shape ts);
  } ∷ levels_by shape stack)) (sym same)

  uncovers : (p : ℕ) (r : TableRule) (x : Option (Trees × List TreeLevel)) → shape p ≡ r.shape
      → uncover m p r (popped_by shape x) ≡ turn_by shape (uncover_trees m p r x)
  uncovers p r None same = refl
  uncovers p r (Some x) same =
      ap (λ s. terms.go_to p r (builds shape x.0) (levels_by shape x.1) (goto_at m s r.left)) (same_top shape x.1)
      ∙ goes p r x.0 x.1 (goto_at m (top_state x.1) r.left) same

  reduces : (p : ℕ) (stack : List TreeLevel) (o : Option TableRule) → rule_at m p ≡ o
      → reduce_by m p (levels_by shape stack) o ≡ turn_by shape (reduce_trees m p stack o)
  reduces p stack None at = refl
  reduces p stack (Some r) at = ap (uncover m p r) (pops r.body_length stack none)
      ∙ uncovers p r (pop_trees r.body_length stack none) (has_shapes m p r at)

  accepts : (stack : List TreeLevel) → accept_with (levels_by shape stack) ≡ turn_by shape (accept_tree stack)
  accepts [] = refl
  accepts (l ∷ stack) = refl

  performs : (stack : List TreeLevel) (a : TableAction)
      → perform m token (levels_by shape stack) a ≡ turn_by shape (perform_trees m token stack a)
  performs stack (shift state) = refl
  performs stack (reduce p) = reduces p stack (rule_at m p) refl
  performs stack accept = accepts stack
  performs stack error = refl

  pub turns : (stack : List TreeLevel)
      → turn m token (levels_by shape stack) ≡ turn_by shape (turn_trees m token stack)
  turns stack = ap (λ s. perform m token (levels_by shape stack) (action_of m s token.terminal)) (same_top shape stack)
      ∙ performs stack (action_of m (top_state stack) token.terminal)

  -- a run with trees is one with terms
  pub done_with_terms : {stack : List TreeLevel} {out : TreeFed} → FeedsTree m token stack out
      → Feeds m token (levels_by shape stack) (fed_by shape out)
  done_with_terms {stack} (settled e) = terms.settled (turns stack ∙ ap (turn_by shape) e)
  done_with_terms {stack} (onward e f) = terms.onward (turns stack ∙ ap (turn_by shape) e) (done_with_terms f)

  settles_alike : (levels : List Level) (stack : List TreeLevel) (out : Fed) → levels ≡ levels_by shape stack
      → turn m token levels ≡ terms.settles out → HasTrees m token stack out
  settles_alike levels stack out same e = by_turn (turn_trees m token stack) refl
    where
      by_turn : (t : TreeTurn) → turn_trees m token stack ≡ t → HasTrees m token stack out
      by_turn (settles x) is =
          let both : terms.settles out ≡ terms.settles (fed_by shape x)
          = sym e ∙ (ap (turn m token) same ∙ (turns stack ∙ ap (turn_by shape) is)) in
          record { fed = x; feeds = settled is; same = cc }
      by_turn (goes_on n) is =
          let both : terms.settles out ≡ terms.goes_on (levels_by shape n)
          = sym e ∙ (ap (turn m token) same ∙ (turns stack ∙ ap (turn_by shape) is)) in
          absurd cc

  goes_alike : (levels next : List Level) (stack : List TreeLevel) → levels ≡ levels_by shape stack
      → turn m token levels ≡ terms.goes_on next
      → (n : List TreeLevel) × (turn_trees m token stack ≡ goes_on n) × (next ≡ levels_by shape n)
  goes_alike levels next stack same e = by_turn (turn_trees m token stack) refl
    where
      by_turn : (t : TreeTurn) → turn_trees m token stack ≡ t
          → (n : List TreeLevel) × (turn_trees m token stack ≡ goes_on n) × (next ≡ levels_by shape n)
      by_turn (settles x) is =
          let both : terms.goes_on next ≡ terms.settles (fed_by shape x)
          = sym e ∙ (ap (turn m token) same ∙ (turns stack ∙ ap (turn_by shape) is)) in
          absurd cc
      by_turn (goes_on n) is =
          let both : terms.goes_on next ≡ terms.goes_on (levels_by shape n)
          = sym e ∙ (ap (turn m token) same ∙ (turns stack ∙ ap (turn_by shape) is)) in
          (n, is, cc)

  -- and a run with terms is one with trees
  pub done_with_trees : {levels : List Level} {out : Fed} (stack : List TreeLevel) → levels ≡ levels_by shape stack
      → Feeds m token levels out → HasTrees m token stack out
  done_with_trees {levels} {out} stack same (terms.settled e) = settles_alike levels stack out same e
  done_with_trees {levels} stack same (terms.onward {next = next} e f) =
      let turn = goes_alike levels next stack same e in
      let it = done_with_trees turn.0 turn.2 f in
      record { fed = it.fed; feeds = onward turn.1 it.feeds; same = it.same }

pub terms_are_of_trees : TermsAreOfTrees
terms_are_of_trees m token stack out feeds = done_with_trees m token stack refl feeds

one : {m : Machine} {token : Token ℕ} {stack : List TreeLevel} {out other : TreeFed} → FeedsTree m token stack out
    → FeedsTree m token stack other → out ≡ other
one (settled e) (settled f) = cc
one (settled e) (onward f k) = cc
one (onward e h) (settled f) = cc
one {m} {token} {other = b} (onward {next = x} e h) (onward {next = y} f k) =
    let same : y ≡ x = cc in
    one h (subst (λ z. FeedsTree m token z b) same k)

pub fed_in_one_way : TreesAreFedInOneWay
fed_in_one_way m token stack out other x y = one x y

-- the stack after tokens is unique
read_in_one_way : {m : Machine} {levels last other : List TreeLevel} {tokens : List (Token ℕ)}
    → ReadsTrees m levels tokens last → ReadsTrees m levels tokens other → last ≡ other
read_in_one_way at_end at_end = refl
read_in_one_way {m} {other = b} (and_one {next = x} {token = token} {tokens = ts} f h) (and_one {next = y} g k) =
    let both : pushed x ≡ pushed y = one f g in
    let same : y ≡ x = cc in
    read_in_one_way h (subst (λ z. ReadsTrees m z ts b) same k)

pub derived_in_one_way : DerivesInOneWay
derived_in_one_way m tokens end d e x y =
    let last : y.last ≡ x.last = sym (read_in_one_way x.reads y.reads) in
    let both : done d ≡ done e = one x.accepts (subst (λ z. FeedsTree m end z (done e)) last y.accepts) in
    cc

-- The stacks after tokens that are read with terms.
pub record AreReadFrom (m : Machine) (stack : List TreeLevel) (tokens : List (Token ℕ)) (last : List Level) : Type 0 where
  pub on : List TreeLevel
  pub same : last ≡ levels_by (shape_of_rule m.rules) on
  pub reads : ReadsTrees m stack tokens on

-- a token that is read
one_read : (m : Machine) (token : Token ℕ) (stack : List TreeLevel) (levels next : List Level)
    → levels ≡ levels_by (shape_of_rule m.rules) stack → Feeds m token levels (terms.pushed next)
    → (on : List TreeLevel) × (next ≡ levels_by (shape_of_rule m.rules) on) × FeedsTree m token stack (pushed on)
one_read m token stack levels next same f = by_fed it.fed it.same it.feeds
  where
    it : HasTrees m token stack (terms.pushed next)
    it = done_with_trees m token stack same f

    by_fed : (x : TreeFed) → terms.pushed next ≡ fed_by (shape_of_rule m.rules) x → FeedsTree m token stack x
        → (on : List TreeLevel) × (next ≡ levels_by (shape_of_rule m.rules) on) × FeedsTree m token stack (pushed on)
    by_fed (pushed on) is feeds = (on, cc, feeds)
    by_fed (done d) is feeds = absurd cc
    by_fed refused is feeds = absurd cc
    by_fed faulty is feeds = absurd cc

pub read_with_trees : {m : Machine} {levels last : List Level} {tokens : List (Token ℕ)} (stack : List TreeLevel)
    → levels ≡ levels_by (shape_of_rule m.rules) stack → ReadsTokens m levels tokens last
    → AreReadFrom m stack tokens last
read_with_trees stack same reading.at_end = record { on = stack; same = same; reads = at_end }
read_with_trees {m} {levels} stack same (reading.onward {next = next} {token = token} first others) =
    let it = one_read m token stack levels next same first in
    let rest = read_with_trees it.0 it.1 others in
    record { on = rest.on; same = rest.same; reads = and_one it.2 rest.reads }

-- tokens that are read with trees are read with terms
pub read_with_terms : {m : Machine} {stack last : List TreeLevel} {tokens : List (Token ℕ)}
    → ReadsTrees m stack tokens last
    → ReadsTokens m (levels_by (shape_of_rule m.rules) stack) tokens (levels_by (shape_of_rule m.rules) last)
read_with_terms at_end = reading.at_end
read_with_terms {m} (and_one {token = token} f h) = reading.onward (done_with_terms m token f) (read_with_terms h)

-- an accepted term
pub one_accepted : (m : Machine) (token : Token ℕ) (stack : List TreeLevel) (levels : List Level) (t : Term)
    → levels ≡ levels_by (shape_of_rule m.rules) stack → Feeds m token levels (terms.done t)
    → (d : Tree) × FeedsTree m token stack (done d) × (t ≡ build (shape_of_rule m.rules) d)
one_accepted m token stack levels t same f = by_fed it.fed it.same it.feeds
  where
    it : HasTrees m token stack (terms.done t)
    it = done_with_trees m token stack same f

    by_fed : (x : TreeFed) → terms.done t ≡ fed_by (shape_of_rule m.rules) x → FeedsTree m token stack x
        → (d : Tree) × FeedsTree m token stack (done d) × (t ≡ build (shape_of_rule m.rules) d)
    by_fed (done d) is feeds = (d, feeds, cc)
    by_fed (pushed on) is feeds = absurd cc
    by_fed refused is feeds = absurd cc
    by_fed faulty is feeds = absurd cc

-- a refused token, with trees
pub one_refused : (m : Machine) (token : Token ℕ) (stack : List TreeLevel) (levels : List Level)
    → levels ≡ levels_by (shape_of_rule m.rules) stack → Feeds m token levels terms.refused
    → FeedsTree m token stack refused
one_refused m token stack levels same f = by_fed it.fed it.same it.feeds
  where
    it : HasTrees m token stack terms.refused
    it = done_with_trees m token stack same f

    by_fed : (x : TreeFed) → terms.refused ≡ fed_by (shape_of_rule m.rules) x → FeedsTree m token stack x
        → FeedsTree m token stack refused
    by_fed refused is feeds = feeds
    by_fed (done d) is feeds = absurd cc
    by_fed (pushed on) is feeds = absurd cc
    by_fed faulty is feeds = absurd cc

-- and a fault
pub one_fault : (m : Machine) (token : Token ℕ) (stack : List TreeLevel) (levels : List Level)
    → levels ≡ levels_by (shape_of_rule m.rules) stack → Feeds m token levels terms.faulty
    → FeedsTree m token stack faulty
one_fault m token stack levels same f = by_fed it.fed it.same it.feeds
  where
    it : HasTrees m token stack terms.faulty
    it = done_with_trees m token stack same f

    by_fed : (x : TreeFed) → terms.faulty ≡ fed_by (shape_of_rule m.rules) x → FeedsTree m token stack x
        → FeedsTree m token stack faulty
    by_fed faulty is feeds = feeds
    by_fed (done d) is feeds = absurd cc
    by_fed (pushed on) is feeds = absurd cc
    by_fed refused is feeds = absurd cc

pub accepted_terms_are_built : AcceptedTermsAreBuilt
accepted_terms_are_built m tokens end last t reads feeds =
    let it = read_with_trees [] refl reads in
    let top = one_accepted m end it.on last t it.same feeds in (
      top.0,
      record { last = it.on; reads = it.reads; accepts = top.1 },
      top.2,
    )
