-- Default reductions (Aho, Sethi and Ullman 1986, 4.7; POSIX, XCU yacc, leaves them open).
use Rattle.std.specs.Prelude.{◌≡◌, ◌⊎◌, ℕ, ◌<◌, ◌≤◌, length, filter, Bool, false, Option, Some, None}
use Rattle.std.specs.Prelude.{slice_get, nat_eq, if◌then◌else◌, MatchOption}
use Rattle.std.specs.List.{range_with_len}
use Rattle.ly_pack.specs.Machine.{Machine, TableAction, reduce, entry_at, states_of}

-- the entry is a reduction by the rule
abbrev pub is_by : ℕ → Option TableAction → Bool
is_by p (Some (reduce q)) = nat_eq p q
is_by p _ = false

-- the number of entries of a state that reduce by the rule
abbrev pub count_by : Machine → ℕ → ℕ → ℕ
count_by m state p = length (filter (λ t. is_by p (entry_at m state t)) (range_with_len 0 m.terminals))

-- The rule by which most entries of a state reduce; the least if there are several.
pub record IsMostFrequent (m : Machine) (state p : ℕ) : Type 0 where
  pub some : 1 ≤ count_by m state p
  pub most : (q : ℕ) → (count_by m state q < count_by m state p)
      ⊎ ((count_by m state q ≡ count_by m state p) × (p ≤ q)) ⊎ (count_by m state q ≡ 0)

-- the default of a state: the most frequent rule, or none if no entry reduces
abbrev pub IsDefaultOf : Machine → ℕ → Option ℕ → Type 0
IsDefaultOf m state d = MatchOption d ((p : ℕ) → count_by m state p ≡ 0) (IsMostFrequent m state)

-- an entry, removed if it equals the default
abbrev pub without : Option ℕ → Option TableAction → Option TableAction
without None a = a
without (Some p) a = if is_by p a then None else a

-- The second machine is the first with a default in each state that reduces, and without the entries that are equal to
-- it.
pub record HasDefaultsOf (m n : Machine) : Type 0 where
  pub terminals : n.terminals ≡ m.terminals
  pub nonterminals : n.nonterminals ≡ m.nonterminals
  pub states : states_of n ≡ states_of m
  pub defaults : (state : ℕ) (d : Option ℕ) → slice_get n.defaults state ≡ Some d → IsDefaultOf m state d
  pub actions : (state t : ℕ) (d : Option ℕ) → slice_get n.defaults state ≡ Some d
      → entry_at n state t ≡ without d (entry_at m state t)
  pub gotos : n.gotos ≡ m.gotos
  pub rules : n.rules ≡ m.rules
