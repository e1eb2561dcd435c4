-- What leads to states and what waits for nonterminals, as it is found.
use Rattle.std.specs.Prelude.{◌≡◌, ◌↔◌, ◌⊎◌, ◌<◌, ◌≤◌, ◌+◌, ℕ}
use Rattle.std.specs.Prelude.{List, [], Some, length, slice_get, slice_index_or, Contains}
use Rattle.ly_base.specs.declared.numbers.StateNo.{StateNo}
use Rattle.ly_join.specs.Grammar.{Grammar, Symbol, nonterminal}
use Rattle.ly_lr0.specs.Automaton.{Lr0Automaton, IsLr0Automaton, goto_of}
use Rattle.ly_lr0.specs.declared.transition.Transition.{Transition}
use Rattle.ly_counterexamples.specs.Demands.{IsAhead}
use Rattle.ly_counterexamples.specs.Private.Steps.{IsRelated}
use Rattle.ly_lr0.specs.declared.item.Item.{Item}
use Rattle.ly_counterexamples.specs.declared.ground.Ground.{Ground}
use Rattle.ly_counterexamples.specs.Private.Grounds.{ArePredecessors, AreWaiting}

-- for each state those of the first n from which transitions lead to it
pub record ArePredecessorsOf (M : Lr0Automaton) (lists : List (List StateNo)) (n : ℕ) : Type 0 where
  pub count : length lists ≡ length M.states
  pub exact : (s : ℕ) (q : StateNo) → s < length M.states → Contains (slice_index_or lists s []) q
      ↔ ((q.0 < n) × (X : Symbol) × (goto_of M q.0 X ≡ Some s))

-- the items of a rule with fewer than n symbols before the dot were added
pub record AreWaitingAdded (old new : List (List Item)) (body : List Symbol) (rule n : ℕ) : Type 0 where
  pub count : length new ≡ length old
  pub exact : (A : ℕ) (i : Item) → Contains (slice_index_or new A []) i
      ↔ (Contains (slice_index_or old A []) i
      ⊎ ((i.rule ≡ rule) × (i.dot < n) × (slice_get body i.dot ≡ Some (nonterminal A))))

-- an automaton, what leads to its states, what waits for its nonterminals, and a length for each state
pub record IsGround (g : Ground) : Type 0 where
  pub lawful : IsLr0Automaton g.lr0.now
  pub predecessors : ArePredecessors g.lr0.now g.predecessors
  pub waiting : AreWaiting g.lr0.now.grammar g.waiting
  pub lengths : length g.lengths.items ≡ length g.lr0.now.states

-- the transition leads to the state, from the other one
abbrev pub IsPredecessorBy : StateNo → ℕ → Transition → StateNo → Type 0
IsPredecessorBy from s t q = (t.target.0 ≡ s) × (from ≡ q)

-- a state was added to the predecessors of those to which transitions lead
pub record ArePredecessorsAdded (old new : List (List StateNo)) (from : StateNo) (ts : List Transition) : Type 0 where
  pub count : length new ≡ length old
  pub exact : (s : ℕ) (q : StateNo) → Contains (slice_index_or new s []) q
      ↔ (Contains (slice_index_or old s []) q ⊎ IsRelated (IsPredecessorBy from s) ts q)

-- the items of the first n rules that wait for a nonterminal
pub record AreWaitingOf (G : Grammar) (lists : List (List Item)) (n : ℕ) : Type 0 where
  pub count : length lists ≡ G.accept + 1
  pub exact : (A : ℕ) (i : Item) → A ≤ G.accept → Contains (slice_index_or lists A []) i
      ↔ ((i.rule < n) × (rest : List Symbol) × IsAhead G i (nonterminal A) rest)
