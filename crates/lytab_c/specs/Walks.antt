-- What a walk over the children of a part visits.
use Rattle.std.specs.Prelude.{◌≡◌, ◌<◌, ℕ, suc, ◌+◌, List, [], ◌∷◌, ◌++◌, Some, length, slice_get}
use Rattle.ly_spans.specs.declared.span.Span.{Span}
use Rattle.ly_places.specs.Parts.{parts_of}
use Rattle.ly_places.specs.Placed.{Placed, PlacedTerms, built, more, none}
use Rattle.lytab_c.specs.Parsing.{listed}
use Rattle.lytab_c.specs.declared.part.Part.{Part}

-- the parts of a term are in a list from this index on
abbrev pub StandsAt : List Part → ℕ → Placed → Type 0
StandsAt parts at t = (before : List Part) × (behind : List Part) × (length before ≡ at)
    × (parts ≡ before ++ (listed at (parts_of t) ++ behind))

-- the parts of terms are in a list one after another, from this index on
abbrev pub AllStandAt : List Part → ℕ → PlacedTerms → Type 0
AllStandAt parts at none = Unit {0}
AllStandAt parts at (more t ts) = StandsAt parts at t × AllStandAt parts (at + length (parts_of t)) ts

-- the indices at which the terms begin
abbrev pub starts_from : ℕ → PlacedTerms → List ℕ
starts_from at none = []
starts_from at (more t ts) = at ∷ starts_from (at + length (parts_of t)) ts

-- The loop `for (k = at; k < end; k = parts[k].next)` visits these indices and ends.
abbrev pub Meets : List Part → ℕ → ℕ → List ℕ → Type 0
Meets parts end at [] = at ≡ end
Meets parts end at (k ∷ ks) = (k ≡ at) × (at < end) × (p : Part) × (slice_get parts at ≡ Some p)
    × Meets parts end p.next ks

-- If the parts of a node are in a list, the loop from the index after the node to its `next` visits its children.
abbrev pub WalksMeetChildren : Type 0
WalksMeetChildren = (parts : List Part) (at p : ℕ) (e : Span) (ts : PlacedTerms) → StandsAt parts at (built p e ts)
    → (own : Part) × (slice_get parts at ≡ Some own) × Meets parts own.next (suc at) (starts_from (suc at) ts)
    × AllStandAt parts (suc at) ts
