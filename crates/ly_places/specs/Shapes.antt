-- Rules that keep their whole bodies, and the derivation trees that fit rules.
use Rattle.std.specs.Prelude.{◌≡◌, ℕ, zero, suc, List, [], ◌∷◌, Some, codes, slice_get, map}
use Rattle.ly_base.specs.Shape as shape
use Rattle.ly_base.specs.Shape.{Shape, nil, place}
use Rattle.ly_base.specs.Trees.{Tree, Trees, leaf, more, node, none}
use Rattle.ly_pack.specs.Machine.{Machine, TableRule}

-- the places of a body of this length, after this many others
abbrev pub places_behind : ℕ → ℕ → List ℕ
places_behind before zero = []
places_behind before (suc n) = suc before ∷ places_behind (suc before) n

-- The shape of a node with the whole body. A rule of nothing still makes nothing, and one of a single symbol that
-- passes on its term still does.
abbrev pub keeping : ℕ → Shape → Shape
keeping n nil = nil
keeping (suc zero) (place i) = place i
keeping n other = shape.node (codes "kept") (places_behind 0 n)

abbrev pub keeping_rule : TableRule → TableRule
keeping_rule r = record { left = r.left; body_length = r.body_length; shape = keeping r.body_length r.shape }

-- the parser that builds derivations
abbrev pub keeping_machine : Machine → Machine
keeping_machine m = record {
  terminals = m.terminals;
  nonterminals = m.nonterminals;
  actions = m.actions;
  defaults = m.defaults;
  gotos = m.gotos;
  rules = map keeping_rule m.rules;
}

-- the number of trees
abbrev pub count_of : Trees → ℕ
count_of none = 0
count_of (more t ts) = suc (count_of ts)

-- the rule exists, and there are as many trees as symbols of its body
abbrev pub FitsRule : List TableRule → ℕ → Trees → Type 0
FitsRule rules zero ts = ⊥
FitsRule rules (suc p) ts = (r : TableRule) × (slice_get rules p ≡ Some r) × (count_of ts ≡ r.body_length)

-- The rule of each node exists, and the node has a tree for each symbol of its body.
abbrev mutual
  pub Fits : List TableRule → Tree → Type 0
  Fits rules (leaf t) = Unit {0}
  Fits rules (node p ts) = FitsRule rules p ts × AllFit rules ts

  pub AllFit : List TableRule → Trees → Type 0
  AllFit rules none = Unit {0}
  AllFit rules (more t ts) = Fits rules t × AllFit rules ts
