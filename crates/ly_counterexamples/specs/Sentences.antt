-- Trees given by their rules, and sentences that have two trees (Knuth 1965).
use Rattle.std.specs.Prelude.{◌≡◌, ◌≢◌, ℕ, List, [], ◌∷◌, ◌++◌, map}
use Rattle.ly_base.specs.Trees.{Tree, Trees, leaf, node, none, more, yield_of}
use Rattle.ly_base.specs.declared.numbers.Sym.{Sym}
use Rattle.ly_join.specs.Grammar.{Grammar, nonterminal}
use Rattle.ly_grammar.specs.Derivations.{IsTree}

abbrev mutual
  -- the rules of a tree, each before those below it: the rules of its leftmost derivation, in order
  pub rules_of : Tree → List ℕ
  rules_of (leaf t) = []
  rules_of (node p ts) = p ∷ rules_among ts

  -- the rules of trees one after another
  pub rules_among : Trees → List ℕ
  rules_among none = []
  rules_among (more t ts) = rules_of t ++ rules_among ts

-- The terminals are a sentence, by a tree of the start symbol that has these rules.
pub record IsSentenceBy (G : Grammar) (rules : List ℕ) (sentence : List ℕ) : Type 0 where
  pub tree : Tree
  pub derives : IsTree G (nonterminal G.start) tree
  pub has : rules_of tree ≡ rules
  pub yields : map (λ t. t.terminal) (yield_of tree) ≡ sentence

-- The terminals are a sentence with two trees, which have different rules (an ambiguous sentence).
pub record HasTwoTrees (G : Grammar) (one other : List ℕ) (sentence : List ℕ) : Type 0 where
  pub first : IsSentenceBy G one sentence
  pub second : IsSentenceBy G other sentence
  pub apart : one ≢ other

-- terminals as they are stored
abbrev pub numbers_of : List Sym → List ℕ
numbers_of = map (λ t. t.0)
