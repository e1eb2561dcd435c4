-- The LR(0) automaton of a grammar: states for the cores of viable prefixes (Knuth 1965; DeRemer 1971). Strings of
-- symbols have their last symbol first.
use Rattle.std.specs.Prelude.{◌≡◌, ◌↔◌, ◌⊎◌, ℕ, ◌<◌, List, [], ◌∷◌, Bool, false, true, Option, Some, None}
use Rattle.std.specs.Prelude.{option_and_then}
use Rattle.std.specs.Prelude.{length, map, nat_eq, not, slice_get, slice_index_or, AllPairs, Contains, if◌then◌else◌}
use Rattle.ly_join.specs.Grammar.{Grammar, IsAugmented, Symbol, nonterminal, terminal}
use Rattle.ly_grammar.specs.Derivations.{IsReduced}
use Rattle.ly_grammar.specs.Items.{InCore, IsComplete, IsViable, SameCore}

-- A transition of a state: by a symbol to a state.
pub record Transition : Type 0 where
  pub symbol : Symbol
  pub target : ℕ

-- A state: the least string that leads to it, its transitions, and the rules that are complete in it.
pub record State : Type 0 where
  pub prefix : List Symbol
  pub transitions : List Transition
  pub complete : List ℕ

-- The states of a grammar, by their numbers. The first is that of the empty string.
pub record Lr0Automaton : Type 0 where
  pub grammar : Grammar
  pub states : List State

-- the transition function: from a state's number and a symbol to a state's number
abbrev pub Gotos : Type 0
Gotos = ℕ → Symbol → Option ℕ

-- whether a symbol is a terminal
abbrev pub is_terminal : Symbol → Bool
is_terminal (terminal t) = true
is_terminal (nonterminal A) = false

-- whether two symbols are the same
abbrev pub symbol_eq : Symbol → Symbol → Bool
symbol_eq (terminal t) (terminal u) = nat_eq t u
symbol_eq (nonterminal A) (nonterminal B) = nat_eq A B
symbol_eq _ _ = false

-- whether a transition is over a terminal
abbrev pub is_shift : Transition → Bool
is_shift t = is_terminal t.symbol

-- whether it is over a nonterminal
abbrev pub is_goto : Transition → Bool
is_goto t = not (is_terminal t.symbol)

-- the target of the first of the transitions over a symbol
abbrev pub target_of : List Transition → Symbol → Option ℕ
target_of [] X = None
target_of (t ∷ ts) X = if symbol_eq t.symbol X then Some t.target else target_of ts X

-- the transition function of an automaton
abbrev pub goto_of : Lr0Automaton → Gotos
goto_of M q X = option_and_then (λ s. target_of s.transitions X) (slice_get M.states q)

-- the string leads from one state to another
abbrev pub Reaches : Gotos → ℕ → List Symbol → ℕ → Type 0
Reaches goto q [] s = s ≡ q
Reaches goto q (X ∷ w) s = (r : ℕ) × Reaches goto q w r × (goto r X ≡ Some s)

-- One state for each core of a viable prefix: from state 0 a string leads somewhere exactly if it is viable, and two
-- strings lead to the same state exactly if they have the same core.
pub record HasCores (G : Grammar) (goto : Gotos) : Type 0 where
  pub has : (g : List Symbol) → IsViable G g → (s : ℕ) × Reaches goto 0 g s
  pub only : (g : List Symbol) (s : ℕ) → Reaches goto 0 g s → IsViable G g
  pub is_reached : (q : ℕ) (X : Symbol) (s : ℕ) → goto q X ≡ Some s → (g : List Symbol) × Reaches goto 0 g q
  pub same : (g h : List Symbol) (s : ℕ) → Reaches goto 0 g s → Reaches goto 0 h s → SameCore G g h
  pub one : (g h : List Symbol) (s t : ℕ) → Reaches goto 0 g s → Reaches goto 0 h t → SameCore G g h → s ≡ t

-- symbols in the order of their numbers, terminals before nonterminals
abbrev pub IsLess : Symbol → Symbol → Type 0
IsLess (terminal t) (terminal u) = t < u
IsLess (terminal t) (nonterminal B) = Unit {0}
IsLess (nonterminal A) (terminal u) = ⊥
IsLess (nonterminal A) (nonterminal B) = A < B

-- A string comes before another: it is shorter, or as long and less where they differ first.
abbrev pub ComesBefore : List Symbol → List Symbol → Type 0
ComesBefore g [] = ⊥
ComesBefore [] (Y ∷ h) = Unit {0}
ComesBefore (X ∷ g) (Y ∷ h) = ComesBefore g h ⊎ ((g ≡ h) × IsLess X Y)

-- the state with this number
abbrev pub state_at : Lr0Automaton → ℕ → State
state_at M s = slice_index_or M.states s (record { prefix = []; transitions = []; complete = [] })

-- the least string that leads to a state
abbrev pub prefix_of : Lr0Automaton → ℕ → List Symbol
prefix_of M s = slice_index_or (map (λ q. q.prefix) M.states) s []

-- Each state has the least string that leads to it as its prefix, and states are numbered by their prefixes.
pub record AreNumbered (M : Lr0Automaton) : Type 0 where
  pub leads : (s : ℕ) → s < length M.states → Reaches (goto_of M) 0 (prefix_of M s) s
  pub least : (s : ℕ) (g : List Symbol) → Reaches (goto_of M) 0 g s
      → (g ≡ prefix_of M s) ⊎ ComesBefore (prefix_of M s) g
  pub rising : (s t : ℕ) → s < t → t < length M.states → ComesBefore (prefix_of M s) (prefix_of M t)

-- The transitions of the state are in the order of their symbols, and the rules complete in it in rising order.
pub record IsState (G : Grammar) (count : ℕ) (s : State) : Type 0 where
  pub ordered : AllPairs (λ t u. IsLess t.symbol u.symbol) s.transitions
  pub within : (t : Transition) → Contains s.transitions t → t.target < count
  pub complete : (p : ℕ) → Contains s.complete p ↔ IsComplete G s.prefix p
  pub rising : AllPairs (λ p q. p < q) s.complete

-- The states are the LR(0) automaton of the grammar, which is augmented and reduced.
pub record IsLr0Automaton (M : Lr0Automaton) : Type 0 where
  pub augmented : IsAugmented M.grammar
  pub reduced : IsReduced M.grammar
  pub some : 0 < length M.states
  pub cores : HasCores M.grammar (goto_of M)
  pub numbered : AreNumbered M
  pub each : (s : ℕ) (q : State) → slice_get M.states s ≡ Some q → IsState M.grammar (length M.states) q

-- The item of the rule with its dot after this many symbols is in the string's core.
abbrev pub HasInCore : Grammar → List Symbol → ℕ → ℕ → Type 0
HasInCore G g p d = (before after : List Symbol) × InCore G g p before after × (length before ≡ d)
