-- The search for the nonterminals that have trees.
use Rattle.std.specs.Prelude.{◌≡◌, ℕ, ◌<◌, ◌≤◌, ◌+◌, ◌*◌, List, [], ◌∷◌, ◌++◌, ◌⊎◌, Bool, true, false, slice_index_or}
use Rattle.std.specs.Prelude.{slice_set, if◌then◌else◌, Contains, length, take, All, Option, Some, None, IfSome}
use Rattle.ly_base.specs.Trees.{Tree, Trees, yield_of, yields_of}
use Rattle.ly_join.specs.Grammar.{Grammar, GrammarRule, IsRule, Symbol, symbol_of, terminal, nonterminal}
use Rattle.ly_join.specs.declared.symbol.Symbol as code
use Rattle.ly_grammar.specs.Derivations.{IsTree, AreTrees}

-- the symbol has a tree, without tokens where terminals are not allowed
abbrev pub HasTree : Grammar → Bool → Symbol → Type 0
HasTree G terminals X = (d : Tree) × IsTree G X d × (terminals ≡ false → yield_of d ≡ [])

-- the symbols have such trees
abbrev pub HaveTrees : Grammar → Bool → List Symbol → Type 0
HaveTrees G terminals w = (ts : Trees) × AreTrees G w ts × (terminals ≡ false → yields_of ts ≡ [])

-- whether a symbol passes: a terminal where they are allowed, a nonterminal that was found
abbrev pub passes : List Bool → Bool → Symbol → Bool
passes found terminals (terminal t) = terminals
passes found terminals (nonterminal A) = slice_index_or found A false

-- all symbols pass
abbrev pub SymbolsPass : List Bool → Bool → List Symbol → Type 0
SymbolsPass found terminals w = (X : Symbol) → Contains w X → passes found terminals X ≡ true

-- a nonterminal is among the first n
abbrev pub HasNumberBelow : ℕ → Symbol → Type 0
HasNumberBelow n (terminal t) = Unit {0}
HasNumberBelow n (nonterminal A) = A < n

-- the symbols of a rule are
pub record RuleNumbered (n : ℕ) (r : GrammarRule) : Type 0 where
  pub left : r.left < n
  pub body : All (HasNumberBelow n) r.body

-- How far a search is: whether terminals are allowed, which nonterminals were found, how many symbols of each rule's
-- body pass, which rules wait for a nonterminal, and those that were found and whose rules still wait.
pub record Progress : Type 0 where
  pub terminals : Bool
  pub found : List Bool
  pub passed : List ℕ
  pub waiting : List (List ℕ)
  pub queue : List ℕ

-- whether a nonterminal was found
abbrev pub was_found : Progress → ℕ → Bool
was_found s A = slice_index_or s.found A false

-- the rules that wait for a nonterminal
abbrev pub waits_for : Progress → ℕ → List ℕ
waits_for s A = slice_index_or s.waiting A []

-- a nonterminal is found, if it wasn't before
abbrev pub with_found : Progress → ℕ → Progress
with_found s A = if was_found s A then s else record s { found = slice_set s.found A true; queue = s.queue ++ A ∷ [] }

-- so many symbols of a rule's body pass
abbrev pub with_passed : Progress → ℕ → ℕ → Progress
with_passed s p at = record s { passed = slice_set s.passed p at }

-- a rule waits for a nonterminal
abbrev pub with_waiting : Progress → ℕ → ℕ → Progress
with_waiting s A p = record s { waiting = slice_set s.waiting A (waits_for s A ++ p ∷ []) }

-- What is known of a rule: its left side was found; or a terminal stands in its way; or it waits for a nonterminal that
-- wasn't found, or whose rules are still to be looked at; or it is itself to be looked at.
pub data Settled (s : Progress) (pending : List ℕ) (p : ℕ) (r : GrammarRule) : Type 0 where
  found : was_found s r.left ≡ true → Settled s pending p r
  stopped : (t : ℕ) → Contains r.body (terminal t) → s.terminals ≡ false → Settled s pending p r
  waiting : (A : ℕ) → Contains r.body (nonterminal A) → Contains (waits_for s A) p
      → (was_found s A ≡ false) ⊎ Contains s.queue A → Settled s pending p r
  to_come : Contains pending p → Settled s pending p r

-- the symbols and the rule have their places
pub record HasPlaces (s : Progress) (p : ℕ) (r : GrammarRule) : Type 0 where
  pub rule : p < length s.passed
  pub waiting : length s.waiting ≡ length s.found
  pub numbered : RuleNumbered (length s.found) r
  pub within : slice_index_or s.passed p 0 ≤ length r.body

-- A search over the rules of a grammar: what was found has trees, and what was passed is found.
pub record IsSearch (G : Grammar) (s : Progress) : Type 0 where
  pub found_long : length s.found ≡ G.accept + 1
  pub passed_long : length s.passed ≡ length G.rules
  pub waiting_long : length s.waiting ≡ G.accept + 1
  pub sound : (A : ℕ) → was_found s A ≡ true → HasTree G s.terminals (nonterminal A)
  pub within : (p : ℕ) (r : GrammarRule) → IsRule G p r → slice_index_or s.passed p 0 ≤ length r.body
  pub passed : (p : ℕ) (r : GrammarRule) → IsRule G p r
      → SymbolsPass s.found s.terminals (take (slice_index_or s.passed p 0) r.body)
  pub rules_wait : (A p : ℕ) → Contains (waits_for s A) p → (r : GrammarRule) × IsRule G p r
  pub queue_within : (A : ℕ) → Contains s.queue A → A < G.accept + 1

-- how many weren't found
abbrev pub unfound : List Bool → ℕ
unfound [] = 0
unfound (true ∷ bs) = unfound bs
unfound (false ∷ bs) = unfound bs + 1

-- what is left to be done, at most
abbrev pub left_to_do : Progress → ℕ
left_to_do s = 2 * unfound s.found + length s.queue

-- The search goes on: nothing that is known is lost, and there is no more to be done than before.
pub record SearchGoesOn (G : Grammar) (s next : Progress) : Type 0 where
  pub search : IsSearch G next
  pub terminals : next.terminals ≡ s.terminals
  pub others : (pending : List ℕ) (p : ℕ) (r : GrammarRule) → Settled s pending p r → Settled next pending p r
  pub work : left_to_do next ≤ left_to_do s

-- it goes on, and rule p is settled
pub record Advances (G : Grammar) (s next : Progress) (p : ℕ) (r : GrammarRule) : Type 0 where
  pub on : SearchGoesOn G s next
  pub settled : (pending : List ℕ) → Settled next pending p r

-- all symbols of the rule's body pass, or this one stands in the way
abbrev pub StopsAt : Progress → GrammarRule → Option code.Symbol → Type 0
StopsAt s r None = SymbolsPass s.found s.terminals r.body
StopsAt s r (Some X) = Contains r.body (symbol_of X) × (passes s.found s.terminals (symbol_of X) ≡ false)

-- More of the body of rule p passes than before, up to this symbol.
pub record HasPassed (s next : Progress) (p : ℕ) (r : GrammarRule) (stop : Option code.Symbol) : Type 0 where
  pub rest : next ≡ record s { passed = next.passed }
  pub inside : IfSome stop (λ X. Contains r.body (symbol_of X))
  pub on : (G : Grammar) → IsSearch G s → IsRule G p r → SearchGoesOn G s next
  pub stops : (G : Grammar) → IsSearch G s → IsRule G p r → StopsAt next r stop

-- nothing is queued, or the last that was is taken, and its rules no longer wait: these
abbrev pub IsTakenNext : Progress → Progress → Option (List ℕ) → Type 0
IsTakenNext s next None = (s.queue ≡ []) × (next ≡ s)
IsTakenNext s next (Some rules) = (A : ℕ) × (s.queue ≡ next.queue ++ A ∷ []) × (rules ≡ waits_for s A)
    × (next ≡ record s { waiting = slice_set s.waiting A []; queue = next.queue })
