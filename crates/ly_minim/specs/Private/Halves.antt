-- Lists of states by which blocks are split (Hopcroft 1971).
use Rattle.std.specs.Prelude.{◌≡◌, ◌≢◌, ℕ, ◌<◌, List, length, All}
use Rattle.std.specs.declared.alloc.Global.{Global}
use Rattle.std.specs.declared.vec.Vec.{Vec}
use Rattle.ly_subset.specs.Automaton.{Automaton, next_by_class}
use Rattle.ly_minim.specs.Private.Groups.{AreChains, AreGrouped}
use Rattle.ly_minim.specs.Private.Partition.{IsUnion}
use Rattle.ly_minim.specs.Private.Signature.{block_of}
use Rattle.ly_minim.specs.declared.groups.Groups.{Groups}

-- each list has all states of a block or none of them
abbrev pub AreUnions : List ℕ → List (Vec ℕ Global) → Type 0
AreUnions of halves = All (λ (half : Vec ℕ Global). IsUnion of half.items) halves

-- the states by where a class leads
pub record AreGroupsOf (A : Automaton) (class : ℕ) (groups : Groups) : Type 0 where
  pub keys : length groups.last ≡ length A.rules
  pub chains : AreChains (length A.rules) groups.last groups.before
  pub grouped : AreGrouped (length A.rules) (λ s. next_by_class A s class) groups.last groups.before

-- so it is for some class
abbrev pub IsByClass : Automaton → Groups → Type 0
IsByClass A groups = (class : ℕ) × (class < A.classes) × AreGroupsOf A class groups

-- states of one block of the second partition are in one block of the first
abbrev pub IsRefinedBy : ℕ → List ℕ → List ℕ → Type 0
IsRefinedBy n first second = (s t : ℕ) → s < n → t < n → block_of first s ≢ block_of first t
    → block_of second s ≢ block_of second t
