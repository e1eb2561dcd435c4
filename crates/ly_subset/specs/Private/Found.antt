-- What a construction of subsets has found so far.
use Rattle.std.specs.Prelude.{◌≡◌, ◌↔◌, ℕ, ◌<◌, ◌≤◌, ◌+◌, ◌*◌, ◌++◌, List, [], ◌∷◌, length, map, slice_index_or, Option}
use Rattle.std.specs.Prelude.{Some, None, Contains, AllPairs, ◌⊎◌, option_map}
use Rattle.ly_position.specs.Nfa.{Nfa, Stepped}
use Rattle.ly_subset.specs.Automaton.{AreInOrder, entry_at}
use Rattle.ly_base.specs.Entry.{target_of}
use Rattle.ly_subset.specs.Subsets.{AreSets, HasEnd, IsLeastRule, IsStateOf, set_at}
use Rattle.ly_base.specs.declared.numbers.RuleNo.{RuleNo}
use Rattle.ly_subset.specs.declared.found.Found.{Found}

-- Sets of numbers below a bound, none empty and no two the same, each in rising order and no more than the limit.
pub record AreKept (below limit : ℕ) (sets : List (List ℕ)) : Type 0 where
  pub are_sets : AreSets below sets
  pub rising : (s : ℕ) → s < length sets → AllPairs (λ a b. a < b) (set_at sets s)
  pub few : length sets ≤ limit

-- such are the sets, below some bound
abbrev pub SomeKept : ℕ → List (List ℕ) → Type 0
SomeKept limit sets = (below : ℕ) × AreKept below limit sets

-- A set that is kept has a member, and its members rise.
pub record IsKeptSet (set : List ℕ) : Type 0 where
  pub some : (q : ℕ) × Contains set q
  pub rising : AllPairs (λ a b. a < b) set

-- The entry leads to the set of these members, which was added where it was a new one.
pub record IsNumbered (old : List (List ℕ)) (members : List ℕ) (new : List (List ℕ)) (entry : Option ℕ) : Type 0 where
  pub more : List (List ℕ)
  pub grown : new ≡ old ++ more
  pub state : IsStateOf new entry (Contains members)
  pub fresh : (s : ℕ) → s < length new → length old ≤ s → (s ≡ length old) × (entry ≡ Some s)

-- the entries' states
abbrev pub targets_of : Found → List (Option ℕ)
targets_of found = map target_of found.entries.items

-- The entry that leads to the set of these members was appended.
pub record IsEntered (old : Found) (members : List ℕ) (new : Found) : Type 0 where
  pub entry : Option ℕ
  pub numbered : IsNumbered old.keys members new.keys entry
  pub appended : targets_of new ≡ targets_of old ++ entry ∷ []

-- There are as many sets as the limit allows, and the set of these members is another one.
pub record IsFull (limit : ℕ) (sets : List (List ℕ)) (members : List ℕ) : Type 0 where
  pub full : limit ≤ length sets
  pub some : (q : ℕ) × Contains members q
  pub other : (s : ℕ) → s < length sets → ((q : ℕ) → Contains (set_at sets s) q ↔ Contains members q) → ⊥

-- The entry that was appended leads to the set of what may come after some positions once the byte is read.
pub record IsLed (nfa : Nfa) (ps : List ℕ) (b : ℕ) (old new : Found) : Type 0 where
  pub members : List ℕ
  pub stepped : (q : ℕ) → Contains members q ↔ Stepped nfa ps b q
  pub entered : IsEntered old members new

-- There are as many sets as the limit allows, and that of what may come after some positions is another one.
pub record IsLedPast (nfa : Nfa) (ps : List ℕ) (b limit : ℕ) (sets : List (List ℕ)) : Type 0 where
  pub members : List ℕ
  pub stepped : (q : ℕ) → Contains members q ↔ Stepped nfa ps b q
  pub full : IsFull limit sets members

-- The first entries lead to the start lists, and those after them to what the sets of the states come to by the bytes
-- of the classes; numbers have appeared in their order, each before its row.
pub record AreFound (nfa : Nfa) (starts : ℕ) (least : List ℕ) (limit : ℕ) (sets : List (List ℕ))
    (entries : List (Option ℕ)) : Type 0 where
  pub kept : AreKept (length nfa.positions) limit sets
  pub order : AreInOrder starts (length least) (length sets) entries
  pub at_start : (k : ℕ) → k < length entries → k < starts
      → IsStateOf sets (entry_at entries k) (Contains (slice_index_or nfa.starts k []))
  pub at_row : (s c : ℕ) → c < length least → starts + (s * length least + c) < length entries → (s < length sets)
      × IsStateOf sets (entry_at entries (starts + (s * length least + c)))
      (Stepped nfa (set_at sets s) (slice_index_or least c 0))

-- so it is with what was found
abbrev pub IsFound : Nfa → List ℕ → Found → Type 0
IsFound nfa least found = AreFound nfa found.starts least found.limit found.keys (targets_of found)

-- A set that starts or a step lead to would have been one more than the limit allows.
pub record IsPast (nfa : Nfa) (starts : ℕ) (least : List ℕ) (limit : ℕ) : Type 0 where
  pub sets : List (List ℕ)
  pub entries : List (Option ℕ)
  pub found : AreFound nfa starts least limit sets entries
  pub members : List ℕ
  pub full : IsFull limit sets members
  pub reached : ((k : ℕ) × (k < starts) × ((q : ℕ) → Contains members q ↔ Contains (slice_index_or nfa.starts k []) q))
      ⊎ ((s : ℕ) × (c : ℕ) × (s < length sets) × (c < length least)
      × ((q : ℕ) → Contains members q ↔ Stepped nfa (set_at sets s) (slice_index_or least c 0) q))

-- for each set, the least rule that ends in it
pub record HaveRules (nfa : Nfa) (sets : List (List ℕ)) (rules : List (Option ℕ)) : Type 0 where
  pub count : length rules ≡ length sets
  pub least : (s : ℕ) → s < length sets → IsLeastRule (HasEnd nfa (set_at sets s)) (slice_index_or rules s None)

-- the rules' numbers
abbrev pub numbers_of : List (Option RuleNo) → List (Option ℕ)
numbers_of rules = map (option_map (λ r. r.0)) rules
