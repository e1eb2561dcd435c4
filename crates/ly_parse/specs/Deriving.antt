-- The effect of a parser's tables on tokens, with derivation trees on the stack in place of terms, and the terms that
-- rules build from these trees.
use Rattle.std.specs.Prelude.{◌≡◌, ℕ, zero, suc, List, [], ◌∷◌, Option, Some, None, option_map, slice_get}
use Rattle.std.specs.Prelude.{unwrap_or}
use Rattle.ly_base.specs.Lexed.{Token}
use Rattle.ly_base.specs.Shape.{Shape, nil}
use Rattle.ly_base.specs.Trees.{Tree, Trees, leaf, more, node, none}
use Rattle.ly_pack.specs.Machine.{Machine, TableAction, TableRule, accept, action_of, error, goto_at, reduce, shift}
use Rattle.ly_pack.specs.Steady.{rule_at}
use Rattle.ly_parse.specs.Feeding as terms
use Rattle.ly_parse.specs.Feeding.{Fed, Feeds, Level}
use Rattle.ly_parse.specs.Reading.{ReadsTokens}
use Rattle.ly_tree.specs.Term.{Term, build}

-- A state on a parser's stack, with the derivation tree of the symbol that led to it.
pub record TreeLevel : Type 0 where
  pub state : ℕ
  pub tree : Tree

-- the outcome for a token: it is read, with this stack; the tables accept with a tree; they reject the token; or they
-- are faulty
pub data TreeFed : Type 0 where
  pushed : List TreeLevel → TreeFed
  done : Tree → TreeFed
  refused : TreeFed
  faulty : TreeFed

-- one turn: the outcome for the token, or the stack after a reduction
pub data TreeTurn : Type 0 where
  settles : TreeFed → TreeTurn
  goes_on : List TreeLevel → TreeTurn

-- the state on top of a stack, its top first; the bottom's is 0
abbrev pub top_state : List TreeLevel → ℕ
top_state [] = 0
top_state (l ∷ stack) = l.state

-- the states of a stack, that of the bottom last
abbrev pub states_below : List TreeLevel → List ℕ
states_below [] = 0 ∷ []
states_below (l ∷ stack) = l.state ∷ states_below stack

-- this many trees popped from a stack, in the order of the text before others, and the rest of the stack
abbrev pub pop_trees : ℕ → List TreeLevel → Trees → Option (Trees × List TreeLevel)
pop_trees zero stack ts = Some (ts, stack)
pop_trees (suc n) [] ts = None
pop_trees (suc n) (l ∷ stack) ts = pop_trees n stack (more l.tree ts)

-- a stack with the tree of a rule's left side pushed
abbrev pub go_to_state : ℕ → Trees → List TreeLevel → Option ℕ → TreeTurn
go_to_state p ts stack None = settles faulty
go_to_state p ts stack (Some state) = goes_on (record { state = state; tree = node p ts } ∷ stack)

abbrev pub uncover_trees : Machine → ℕ → TableRule → Option (Trees × List TreeLevel) → TreeTurn
uncover_trees m p r None = settles faulty
uncover_trees m p r (Some x) = go_to_state p x.0 x.1 (goto_at m (top_state x.1) r.left)

abbrev pub reduce_trees : Machine → ℕ → List TreeLevel → Option TableRule → TreeTurn
reduce_trees m p stack None = settles faulty
reduce_trees m p stack (Some r) = uncover_trees m p r (pop_trees r.body_length stack none)

abbrev pub accept_tree : List TreeLevel → TreeTurn
accept_tree [] = settles faulty
accept_tree (l ∷ stack) = settles (done l.tree)

abbrev pub perform_trees : Machine → Token ℕ → List TreeLevel → TableAction → TreeTurn
perform_trees m token stack (shift state) = settles (pushed (record { state = state; tree = leaf token } ∷ stack))
perform_trees m token stack (reduce p) = reduce_trees m p stack (rule_at m p)
perform_trees m token stack accept = accept_tree stack
perform_trees m token stack error = settles refused

-- one turn on a token
abbrev pub turn_trees : Machine → Token ℕ → List TreeLevel → TreeTurn
turn_trees m token stack = perform_trees m token stack (action_of m (top_state stack) token.terminal)

-- Turns lead to the outcome for a token.
pub data FeedsTree (m : Machine) (token : Token ℕ) : List TreeLevel → TreeFed → Type 0 where
  settled : {stack : List TreeLevel} {out : TreeFed} → turn_trees m token stack ≡ settles out
      → FeedsTree m token stack out
  onward : {stack next : List TreeLevel} {out : TreeFed} → turn_trees m token stack ≡ goes_on next
      → FeedsTree m token next out → FeedsTree m token stack out

-- The tables read tokens one after another.
pub data ReadsTrees (m : Machine) : List TreeLevel → List (Token ℕ) → List TreeLevel → Type 0 where
  at_end : {levels : List TreeLevel} → ReadsTrees m levels [] levels
  and_one : {levels next last : List TreeLevel} {token : Token ℕ} {tokens : List (Token ℕ)}
      → FeedsTree m token levels (pushed next) → ReadsTrees m next tokens last
      → ReadsTrees m levels (token ∷ tokens) last

-- From an empty stack the tables read the tokens, and accept with the end after them. The accepted tree is on top of the
-- stack then.
pub record Derives (m : Machine) (tokens : List (Token ℕ)) (end : Token ℕ) (d : Tree) : Type 0 where
  pub last : List TreeLevel
  pub reads : ReadsTrees m [] tokens last
  pub accepts : FeedsTree m end last (done d)

-- The shape of the rule with a number, which are counted from 1 (0 is read as 1, as by rule_at); that of nothing if
-- there is no such rule.
abbrev pub shape_of_rule : List TableRule → ℕ → Shape
shape_of_rule rules zero = unwrap_or (option_map (λ r. r.shape) (slice_get rules 0)) nil
shape_of_rule rules (suc p) = unwrap_or (option_map (λ r. r.shape) (slice_get rules p)) nil

-- the stack with the terms that rules of these shapes build from the trees
abbrev pub levels_by : (ℕ → Shape) → List TreeLevel → List Level
levels_by shape [] = []
levels_by shape (l ∷ stack) = record { state = l.state; term = build shape l.tree } ∷ levels_by shape stack

-- the outcome with these terms
abbrev pub fed_by : (ℕ → Shape) → TreeFed → Fed
fed_by shape (pushed stack) = terms.pushed (levels_by shape stack)
fed_by shape (done t) = terms.done (build shape t)
fed_by shape refused = terms.refused
fed_by shape faulty = terms.faulty

-- The same run has an outcome with trees.
pub record HasTrees (m : Machine) (token : Token ℕ) (stack : List TreeLevel) (out : Fed) : Type 0 where
  pub fed : TreeFed
  pub feeds : FeedsTree m token stack fed
  pub same : out ≡ fed_by (shape_of_rule m.rules) fed

-- the outcome with terms is the one with trees, and the terms are those that the rules build from the trees
abbrev pub TermsAreOfTrees : Type 0
TermsAreOfTrees = (m : Machine) (token : Token ℕ) (stack : List TreeLevel) (out : Fed)
    → Feeds m token (levels_by (shape_of_rule m.rules) stack) out → HasTrees m token stack out

-- the outcome with trees is unique
abbrev pub TreesAreFedInOneWay : Type 0
TreesAreFedInOneWay = (m : Machine) (token : Token ℕ) (stack : List TreeLevel) (out other : TreeFed)
    → FeedsTree m token stack out → FeedsTree m token stack other → out ≡ other

-- tokens have at most one derivation by the same tables
abbrev pub DerivesInOneWay : Type 0
DerivesInOneWay = (m : Machine) (tokens : List (Token ℕ)) (end : Token ℕ) (d e : Tree) → Derives m tokens end d
    → Derives m tokens end e → d ≡ e

-- A term that tables accept tokens with is the one that their rules build from the derivation.
abbrev pub AcceptedTermsAreBuilt : Type 0
AcceptedTermsAreBuilt = (m : Machine) (tokens : List (Token ℕ)) (end : Token ℕ) (last : List Level) (t : Term)
    → ReadsTokens m [] tokens last → Feeds m end last (terms.done t)
    → (d : Tree) × Derives m tokens end d × (t ≡ build (shape_of_rule m.rules) d)
