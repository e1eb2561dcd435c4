-- Groups of conflicts, as they are found.
use Rattle.std.specs.Prelude.{◌≡◌, ◌≢◌, ◌<◌, ℕ, List, [], ◌∷◌, ◌++◌, Option, Some, AllPairs, Contains, IfSome, length}
use Rattle.std.specs.Prelude.{slice_get}
use Rattle.ly_resolve.specs.Resolved.{Resolved}
use Rattle.ly_resolve.specs.Values.{conflict_from, IsInside}
use Rattle.ly_resolve.specs.declared.conflict.Conflict.{Conflict}
use Rattle.ly_counterexamples.specs.Examples.{IsSearchResult}
use Rattle.ly_counterexamples.specs.declared.example.Example.{Example}
use Rattle.ly_conflicts.specs.declared.common.Key.{Key}
use Rattle.ly_conflicts.specs.declared.groups.Group.{Group}
use Rattle.ly_conflicts.specs.declared.groups.Groups.{Groups}
use Rattle.ly_conflicts.specs.Groups.{IsTrueOf, most_demands}
use Rattle.ly_conflicts.specs.Private.Keys.{common_from, key_from}

-- The conflict of an index.
pub record IsAt (r : Resolved) (i : ℕ) (x : Conflict) : Type 0 where
  pub at : slice_get r.conflicts i ≡ Some (conflict_from r.automaton x)
  pub inside : IsInside r.automaton x

-- what is known of the example of a conflict, if it was sought
abbrev pub IsSought : Resolved → Conflict → Option Example → Type 0
IsSought r x example = IfSome example (IsSearchResult r.automaton (conflict_from r.automaton x) most_demands)

-- The conflict of an index has a key, and what the key says was answered is so.
pub record HasKey (r : Resolved) (k : Key) (i : ℕ) : Type 0 where
  pub conflict : Conflict
  pub is : IsAt r i conflict
  pub common : common_from conflict ≡ k.common
  pub answer : IsTrueOf r.automaton (conflict_from r.automaton conflict) k.answer

-- Conflicts with a key among the first n.
pub record IsGroupBelow (r : Resolved) (n : ℕ) (k : Key) (g : Group) : Type 0 where
  pub first : ℕ
  pub begins : slice_get g.conflicts.items 0 ≡ Some first
  pub conflict : Conflict
  pub is_first : IsAt r first conflict
  pub example : IsSought r conflict g.example
  pub key : k ≡ key_from conflict g.example
  pub rising : AllPairs (λ i j. i < j) g.conflicts.items
  pub below : (i : ℕ) → Contains g.conflicts.items i → i < n
  pub keyed : (i : ℕ) → Contains g.conflicts.items i → HasKey r k i

-- The first n conflicts in groups, each with a key of its own.
pub record AreGroupsBelow (r : Resolved) (n : ℕ) (keys : List Key) (groups : List Group) : Type 0 where
  pub count : length keys ≡ length groups
  pub distinct : (p q : ℕ) (k : Key) → slice_get keys p ≡ Some k → slice_get keys q ≡ Some k → p ≡ q
  pub are : (p : ℕ) (k : Key) (g : Group) → slice_get keys p ≡ Some k → slice_get groups p ≡ Some g
      → IsGroupBelow r n k g
  pub each : (i : ℕ) → i < n → (p : ℕ) × (g : Group) × (slice_get groups p ≡ Some g) × Contains g.conflicts.items i
  pub once : (p q i : ℕ) (g h : Group) → slice_get groups p ≡ Some g → slice_get groups q ≡ Some h
      → Contains g.conflicts.items i → Contains h.conflicts.items i → p ≡ q
  pub ordered : (p q : ℕ) (g h : Group) → p < q → slice_get groups p ≡ Some g → slice_get groups q ≡ Some h
      → (j : ℕ) → Contains h.conflicts.items j → (i : ℕ) × Contains g.conflicts.items i × (i < j)

abbrev pub AreGrouped : Resolved → ℕ → Groups → Type 0
AreGrouped r n groups = AreGroupsBelow r n groups.keys groups.list.items

-- the group at a place has one more conflict, and nothing else is changed
pub record IsJoinedBy (place index : ℕ) (old new : List Group) : Type 0 where
  pub count : length new ≡ length old
  pub there : (g : Group) → slice_get old place ≡ Some g → (h : Group) × (slice_get new place ≡ Some h)
      × (h.conflicts.items ≡ g.conflicts.items ++ index ∷ []) × (h.example ≡ g.example)
  pub others : (q : ℕ) → q ≢ place → slice_get new q ≡ slice_get old q

-- a group of one conflict is added
pub record IsOpenedBy (index : ℕ) (example : Option Example) (old new : List Group) : Type 0 where
  pub group : Group
  pub list : new ≡ old ++ group ∷ []
  pub conflicts : group.conflicts.items ≡ index ∷ []
  pub has : group.example ≡ example
