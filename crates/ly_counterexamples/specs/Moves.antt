-- The moves of a parser that builds a tree, and how two trees take both actions of a conflict (Knuth 1965: a parse from
-- the left is a rightmost derivation in reverse). Strings of symbols have their last symbol first, like stacks.
use Rattle.std.specs.Prelude.{◌≡◌, ◌≢◌, ℕ, List, [], ◌∷◌, ◌++◌, reverse, Option, Some, None}
use Rattle.ly_base.specs.Trees.{Tree, Trees, leaf, node, none, more}
use Rattle.ly_join.specs.Grammar.{Grammar, IsRule, GrammarRule, Symbol, nonterminal, terminal}
use Rattle.ly_grammar.specs.Items.{Merges}
use Rattle.ly_resolve.specs.Actions.{Action, error, reduce, shift}
use Rattle.ly_resolve.specs.Conflicts.{Conflict}
use Rattle.ly_resolve.specs.Resolved.{Resolved}
use Rattle.ly_counterexamples.specs.Examples.{rival}
use Rattle.ly_counterexamples.specs.Sentences.{HasTwoTrees}

-- A move of a parser: it shifts a terminal, or reduces by a rule.
pub data Move : Type 0 where
  shifts : ℕ → Move
  reduces : ℕ → Move

abbrev mutual
  -- the moves that build a tree, from its leaves up and from the left
  pub moves_of : Tree → List Move
  moves_of (leaf t) = shifts t.terminal ∷ []
  moves_of (node p ts) = moves_among ts ++ reduces p ∷ []

  -- the moves that build trees, one after another
  pub moves_among : Trees → List Move
  moves_among none = []
  moves_among (more t ts) = moves_of t ++ moves_among ts

-- the moves of a parser that accepts a tree: after it the end is shifted
abbrev pub parse_of : Tree → List Move
parse_of d = moves_of d ++ shifts 0 ∷ []

-- the terminals that are shifted, in order
abbrev pub shifted : List Move → List ℕ
shifted [] = []
shifted (shifts t ∷ moves) = t ∷ shifted moves
shifted (reduces p ∷ moves) = shifted moves

-- The moves lead from a string of symbols to another one. A shifted terminal is pushed, and the left side of a rule
-- replaces the rule's body on top.
abbrev pub Lead : Grammar → List Symbol → List Move → List Symbol → Type 0
Lead G g [] h = g ≡ h
Lead G g (shifts t ∷ moves) h = Lead G (terminal t ∷ g) moves h
Lead G g (reduces p ∷ moves) h = (r : GrammarRule) × (below : List Symbol) × IsRule G p r
    × (g ≡ reverse r.body ++ below) × Lead G (nonterminal r.left ∷ below) moves h

-- the move that an action before a terminal is; an error is none
abbrev pub move_before : ℕ → Action → Option Move
move_before t shift = Some (shifts t)
move_before t (reduce p) = Some (reduces p)
move_before t error = None

-- Two parses take both actions of a conflict. The same moves lead both to a string with the core of the conflict's
-- prefix, before its terminal. There the one takes the rival of the conflict's rule, and the other reduces by the rule.
pub record TakeBoth (r : Resolved) (c : Conflict) (one other : List Move) : Type 0 where
  pub before : List Move
  pub string : List Symbol
  pub leads : Lead r.spec.grammar [] before string
  pub merges : Merges r.automaton.grammar c.prefix string
  pub move : Move
  pub is_rival : move_before c.terminal (rival c.kind c.choice) ≡ Some move
  pub apart : move ≢ reduces c.rule
  pub behind : List Move
  pub first : one ≡ before ++ move ∷ behind
  pub beyond : List Move
  pub second : other ≡ before ++ reduces c.rule ∷ beyond
  pub left : List ℕ
  pub first_next : shifted (move ∷ behind) ≡ c.terminal ∷ left
  pub second_next : shifted beyond ≡ c.terminal ∷ left

-- The terminals are a sentence with two trees, which have these rules and take both actions of the conflict.
pub record IsAmbiguousAt (r : Resolved) (c : Conflict) (one other : List ℕ) (sentence : List ℕ) : Type 0 where
  pub trees : HasTwoTrees r.spec.grammar one other sentence
  pub actions : TakeBoth r c (parse_of trees.first.tree) (parse_of trees.second.tree)

-- no sentence has two trees with these rules that take both actions of the conflict
abbrev pub HaveNoneAt : Resolved → Conflict → List ℕ → List ℕ → Type 0
HaveNoneAt r c one other = (sentence : List ℕ) → IsAmbiguousAt r c one other sentence → ⊥
