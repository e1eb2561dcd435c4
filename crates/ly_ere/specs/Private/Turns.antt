-- Things that use one another, in an order in which each stands behind those that it uses.
use Rattle.std.specs.Prelude.{◌≡◌, ◌↔◌, ◌<◌, ◌≤◌, ◌+◌, ℕ, zero, suc, List, [], ◌∷◌, ◌++◌, All, Contains, length, map}
use Rattle.std.specs.Prelude.{slice_index_or, Bool, true, false, MatchOption}
use Rattle.std.specs.BTreeSet.{contains}
use Rattle.std.specs.Ordering.{nat_cmp}
use Rattle.ly_ere.specs.declared.turns.InTurn.{InTurn}
use Rattle.ly_ere.specs.declared.turns.Turns.{Turns}

-- what the thing of a number uses
abbrev pub uses_at : List (List ℕ) → ℕ → List ℕ
uses_at uses n = slice_index_or uses n []

-- all that a thing uses is taken
abbrev pub HasAllTaken : List (List ℕ) → List ℕ → ℕ → Type 0
HasAllTaken uses order n = All (Contains order) (uses_at uses n)

-- Numbers of things, each the least of those that aren't before it and have all that they use before it.
pub data AreInTurn (uses : List (List ℕ)) : List ℕ → Type 0 where
  none : AreInTurn uses []
  next : (order : List ℕ) (n : ℕ) → AreInTurn uses order → n < length uses → (Contains order n → ⊥)
      → HasAllTaken uses order n → ((k : ℕ) → k < n → (Contains order k → ⊥) → HasAllTaken uses order k → ⊥)
      → AreInTurn uses (order ++ n ∷ [])

-- no thing that isn't among them has all that it uses among them
abbrev pub IsLastTurn : List (List ℕ) → List ℕ → Type 0
IsLastTurn uses order = (n : ℕ) → n < length uses → (Contains order n → ⊥) → HasAllTaken uses order n → ⊥

-- Things are put in order as far as they can be, and one is left that can't, if there is any.
pub record ArePut (uses : List (List ℕ)) (put : InTurn) : Type 0 where
  pub in_turn : AreInTurn uses put.order.items
  pub last : IsLastTurn uses put.order.items
  pub left : MatchOption put.left ((n : ℕ) → n < length uses → Contains put.order.items n)
      (λ n. (n < length uses) × (Contains put.order.items n → ⊥))

-- what is used is there
abbrev pub AreThere : List (List ℕ) → Type 0
AreThere uses = (n : ℕ) → All (λ u. u < length uses) (uses_at uses n)

-- numbers one after another, from one on
abbrev pub numbers_from : ℕ → ℕ → List ℕ
numbers_from n zero = []
numbers_from n (suc k) = n ∷ numbers_from (n + 1) k

-- how many aren't taken
abbrev pub count_untaken : List Bool → ℕ
count_untaken [] = 0
count_untaken (true ∷ bs) = count_untaken bs
count_untaken (false ∷ bs) = suc (count_untaken bs)

-- The first of a thing's uses, from one on, that isn't taken.
pub record IsNextUse (uses : List ℕ) (taken : List Bool) (from at : ℕ) : Type 0 where
  pub behind : from ≤ at
  pub within : at ≤ length uses
  pub passed : (k : ℕ) → from ≤ k → k < at → slice_index_or taken (slice_index_or uses k 0) false ≡ true
  pub stops : at < length uses → slice_index_or taken (slice_index_or uses at 0) false ≡ false

-- how many of the uses of a thing are passed
abbrev pub passed_at : List ℕ → ℕ → ℕ
passed_at passed n = slice_index_or passed n 0

-- the first of them that isn't
abbrev pub awaited : List (List ℕ) → List ℕ → ℕ → ℕ
awaited uses passed n = slice_index_or (uses_at uses n) (passed_at passed n) 0

-- not all uses of a thing are passed
abbrev pub IsShort : List (List ℕ) → List ℕ → ℕ → Type 0
IsShort uses passed n = passed_at passed n < length (uses_at uses n)

-- all are
abbrev pub IsThrough : List (List ℕ) → List ℕ → ℕ → Type 0
IsThrough uses passed n = passed_at passed n ≡ length (uses_at uses n)

-- a thing that isn't taken
abbrev pub IsOpen : List (List ℕ) → List ℕ → ℕ → Type 0
IsOpen uses order n = (n < length uses) × (Contains order n → ⊥)

-- Things that are taken in turn: passed are known to be taken of the uses of each, waiting has those that wait for
-- each, taken says of each whether it is, ready of which all uses are passed, order has those that are taken. Of those
-- that pend it isn't known what they wait for.
pub record AreTaken (uses : List (List ℕ)) (passed : List ℕ) (waiting : List (List ℕ)) (taken : List Bool)
    (ready : ℕ → Bool) (order pending : List ℕ) : Type 0 where
  pub there : AreThere uses
  pub passed_counted : length passed ≡ length uses
  pub waiting_counted : length waiting ≡ length uses
  pub taken_counted : length taken ≡ length uses
  pub is_taken : (n : ℕ) → n < length uses → (slice_index_or taken n false ≡ true) ↔ Contains order n
  pub in_turn : AreInTurn uses order
  pub within : (n : ℕ) → passed_at passed n ≤ length (uses_at uses n)
  pub behind : (n k : ℕ) → k < passed_at passed n → Contains order (slice_index_or (uses_at uses n) k 0)
  pub done : (n : ℕ) → Contains order n → IsThrough uses passed n
  pub is_ready : (n : ℕ) → ready n ≡ true → IsOpen uses order n × IsThrough uses passed n
  pub waits : (m n : ℕ) → Contains (uses_at waiting m) n → (Contains order m → ⊥)
      → (n < length uses) × IsShort uses passed n × (awaited uses passed n ≡ m)
  pub rest : (n : ℕ) → IsOpen uses order n → ready n ≡ false → (Contains pending n → ⊥) → IsShort uses passed n
      × (Contains order (awaited uses passed n) → ⊥) × Contains (uses_at waiting (awaited uses passed n)) n
  pub are_open : All (IsOpen uses order) pending

-- what each thing uses
abbrev pub uses_in : Turns → List (List ℕ)
uses_in t = map (λ v. v.items) t.uses.now

-- things as they are kept
abbrev pub AreTurns : Turns → List ℕ → Type 0
AreTurns t pending = AreTaken (uses_in t) t.passed.items (map (λ v. v.items) t.waiting.items) t.taken.items
    (contains nat_cmp t.ready) t.order.items pending
