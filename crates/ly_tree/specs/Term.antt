-- Terms, which actions build: trees of constructors over leaves.
use Rattle.std.specs.Prelude.{ℕ, zero, suc, List, [], ◌∷◌}
use Rattle.ly_base.specs.Shape.{Shape, nil, place, node}
use Rattle.ly_base.specs.Trees as derivation
use Rattle.ly_base.specs.Trees.{Tree, Trees}

mutual
  -- Nothing; a leaf, by its terminal and the token's bytes; or a rule's constructor over terms.
  pub data Term : Type 0 where
    nothing : Term
    leaf : ℕ → List ℕ → Term
    built : ℕ → Terms → Term

  -- terms one after another
  pub data Terms : Type 0 where
    none : Terms
    more : Term → Terms → Terms

-- the term at a place, counted from 1; nothing if there is none
abbrev pub at_place : Terms → ℕ → Term
at_place none i = nothing
at_place (more t ts) zero = nothing
at_place (more t ts) (suc zero) = t
at_place (more t ts) (suc (suc i)) = at_place ts (suc i)

-- the terms at these places
abbrev pub at_places : Terms → List ℕ → Terms
at_places ts [] = none
at_places ts (i ∷ is) = more (at_place ts i) (at_places ts is)

-- the term that a rule builds from the terms of its body
abbrev pub made : ℕ → Shape → Terms → Term
made p nil ts = nothing
made p (place i) ts = at_place ts i
made p (node name is) ts = built p (at_places ts is)

-- the terms that rules with these shapes build from a derivation tree (POSIX, XCU yacc: the actions are executed in the
-- order of the reductions, and each gives the value of its rule)
abbrev mutual
  pub build : (ℕ → Shape) → Tree → Term
  build shape (derivation.leaf t) = leaf t.terminal t.bytes
  build shape (derivation.node p ts) = made p (shape p) (builds shape ts)

  pub builds : (ℕ → Shape) → Trees → Terms
  builds shape derivation.none = none
  builds shape (derivation.more t ts) = more (build shape t) (builds shape ts)
