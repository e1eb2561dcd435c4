-- Derivation trees: their leaves are tokens, and their nodes are rules by number (Knuth 1965).
use Rattle.std.specs.Prelude.{ℕ, List, [], ◌∷◌, ◌++◌, ◌⊎◌, ◌≡◌}
use Rattle.ly_base.specs.Lexed.{Token}

mutual
  -- a token, or a rule with a tree for each symbol of its body
  pub data Tree : Type 0 where
    leaf : Token ℕ → Tree
    node : ℕ → Trees → Tree

  -- trees one after another
  pub data Trees : Type 0 where
    none : Trees
    more : Tree → Trees → Trees

abbrev mutual
  -- the tokens at the leaves, in the order of the text
  pub yield_of : Tree → List (Token ℕ)
  yield_of (leaf t) = t ∷ []
  yield_of (node p ts) = yields_of ts

  -- the tokens of trees one after another
  pub yields_of : Trees → List (Token ℕ)
  yields_of none = []
  yields_of (more t ts) = yield_of t ++ yields_of ts

abbrev mutual
  -- the rule occurs in the tree
  pub Occurs : ℕ → Tree → Type 0
  Occurs p (leaf t) = ⊥
  Occurs p (node q ts) = (p ≡ q) ⊎ OccursAmong p ts

  -- it occurs in one of the trees
  pub OccursAmong : ℕ → Trees → Type 0
  OccursAmong p none = ⊥
  OccursAmong p (more t ts) = Occurs p t ⊎ OccursAmong p ts
