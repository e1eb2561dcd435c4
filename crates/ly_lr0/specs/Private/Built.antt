-- Automata as they are built: kernels, the links by which they were found, and the rows of the first states.
use Rattle.std.specs.Prelude.{◌≡◌, ◌≢◌, ◌↔◌, ◌⊎◌, ◌<◌, ◌≤◌, ◌++◌, ℕ, suc, List, [], ◌∷◌, length, map, slice_index_or}
use Rattle.std.specs.Prelude.{Contains, AllPairs, fold}
use Rattle.std.specs.Rc.{rc_slice_items}
use Rattle.ly_base.specs.Keys.{IsAbsent}
use Rattle.ly_join.specs.Grammar.{Grammar, Symbol, symbol_of, terminal}
use Rattle.ly_lr0.specs.Automaton.{Lr0Automaton, IsLr0Automaton, IsLess, State, Transition}
use Rattle.ly_lr0.specs.Transitions.{transition_of}
use Rattle.ly_lr0.specs.declared.item.Item.{Item}
use Rattle.ly_lr0.specs.declared.transition.Link as link
use Rattle.ly_lr0.specs.declared.transition.Row as row
use Rattle.ly_lr0.specs.Private.Closing.{AreByLeft, AreComplete, AreKept}
use Rattle.ly_lr0.specs.Private.Items.{AreRising, IsBehind, IsClosed, IsMoved}
use Rattle.ly_lr0.specs.Private.Kernels.{kernel_at}

-- A state, and a symbol that leads from it to the next state that was found.
pub record Link : Type 0 where
  pub from : ℕ
  pub symbol : Symbol

abbrev pub link_of : link.Link → Link
link_of l = record { from = l.from; symbol = symbol_of l.symbol }

abbrev pub transitions_of : row.Row → List Transition
transitions_of r = map transition_of (rc_slice_items r.shifts ++ r.gotos.items)

-- transitions in the order of their symbols
abbrev pub AreInOrder : List Transition → Type 0
AreInOrder row = AllPairs (λ t u. IsLess t.symbol u.symbol) row

-- the transition is one of the state's
abbrev pub HasTransition : List (List Transition) → ℕ → Transition → Type 0
HasTransition rows s t = (s < length rows) × Contains (slice_index_or rows s []) t

-- the link of a number; past the last it says nothing
abbrev pub link_at : List Link → ℕ → Link
link_at links k = slice_index_or links k (record { from = 0; symbol = terminal 0 })

-- links in the order in which they are found: by their states, and then by their symbols
abbrev pub LinkIsLess : Link → Link → Type 0
LinkIsLess l m = (l.from < m.from) ⊎ ((l.from ≡ m.from) × IsLess l.symbol m.symbol)

-- The transition leads to the kernel of what its symbol moves to.
pub record IsLed (G : Grammar) (kernels : List (List Item)) (s : ℕ) (t : Transition) : Type 0 where
  pub within : t.target < length kernels
  pub symbol : t.symbol ≢ terminal 0
  pub moved : (i : Item) → Contains (kernel_at kernels t.target) i ↔ IsMoved G (kernel_at kernels s) t.symbol i
  pub some : (i : Item) × Contains (kernel_at kernels t.target) i

-- Kernels that were found, none twice, each but the first by its link, which is the first that leads to it.
pub record AreFound (G : Grammar) (kernels : List (List Item)) (links : List Link)
    (rows : List (List Transition)) : Type 0
  where
    pub start : kernel_at kernels 0 ≡ record { rule = 0; dot = 0 } ∷ []
    pub count : length kernels ≡ suc (length links)
    pub rising : (s : ℕ) → s < length kernels → AreRising (kernel_at kernels s)
    pub kept : (s : ℕ) → s < length kernels → AreKept G (kernel_at kernels s)
    pub apart : (s t : ℕ) → s < length kernels → t < length kernels → kernel_at kernels s ≡ kernel_at kernels t → s ≡ t
    pub within : length rows ≤ length kernels
    pub sorted : (s : ℕ) → s < length rows → AreInOrder (slice_index_or rows s [])
    pub led : (s : ℕ) (t : Transition) → HasTransition rows s t → IsLed G kernels s t
    pub linked : (k : ℕ) → k < length links
        → HasTransition rows (link_at links k).from (record { symbol = (link_at links k).symbol; target = suc k })
    pub back : (k : ℕ) → k < length links → (link_at links k).from ≤ k
    pub ordered : (k l : ℕ) → k < l → l < length links → LinkIsLess (link_at links k) (link_at links l)
    pub first : (s : ℕ) (t : Transition) (k : ℕ) → HasTransition rows s t → t.target ≡ suc k
        → (link_at links k ≡ record { from = s; symbol = t.symbol })
        ⊎ LinkIsLess (link_at links k) (record { from = s; symbol = t.symbol })

-- all transitions of a kernel are there
abbrev pub IsWholeRow : Grammar → List Item → List Transition → Type 0
IsWholeRow G kernel row = (X : Symbol) → X ≢ terminal 0 → (p d : ℕ) → IsClosed G kernel p d → IsBehind G p d X
    → (t : Transition) × Contains row t × (t.symbol ≡ X)

-- the kernel is there, or is a new one behind the others, with its link
abbrev pub IsNumbered : List (List Item) → List Link → List Item → Link → List (List Item) → List Link → ℕ → Type 0
IsNumbered kernels links kernel link kernels' links' n
    = ((n < length kernels) × (kernel_at kernels n ≡ kernel) × (kernels' ≡ kernels) × (links' ≡ links))
    ⊎ (IsAbsent kernels kernel × (n ≡ length kernels) × (kernels' ≡ kernels ++ kernel ∷ [])
    × (links' ≡ links ++ link ∷ []))

-- the least strings that lead to the states, by the links
abbrev pub with_prefix : List (List Symbol) → Link → List (List Symbol)
with_prefix prefixes l = prefixes ++ (l.symbol ∷ slice_index_or prefixes l.from []) ∷ []

abbrev pub prefixes_of : List Link → List (List Symbol)
prefixes_of links = fold with_prefix ([] ∷ []) links

-- the states of prefixes and rows
abbrev pub states_of : List (List Symbol) → List row.Row → List State
states_of [] rows = []
states_of (g ∷ prefixes) [] = []
states_of (g ∷ prefixes) (r ∷ rows)
    = record { prefix = g; transitions = transitions_of r; complete = r.complete.items } ∷ states_of prefixes rows

-- the automaton of a grammar, its links and its rows
abbrev pub automaton_from : Grammar → List link.Link → List row.Row → Lr0Automaton
automaton_from G links rows = record { grammar = G; states = states_of (prefixes_of (map link_of links)) rows }

-- It is an automaton, with a row for each state, links lead from states before, and rules stand by their left sides.
pub record IsBuilt (G : Grammar) (links : List link.Link) (rows : List row.Row) (lists : List (List ℕ)) : Type 0 where
  pub automaton : IsLr0Automaton (automaton_from G links rows)
  pub count : length rows ≡ suc (length links)
  pub few : length rows ≤ 4294967295
  pub by_left : AreByLeft G lists
  pub back : (k : ℕ) → k < length links → (link_at (map link_of links) k).from ≤ k

-- what a state's row says is all that there is of its kernel
pub record IsRowOf (G : Grammar) (kernel : List Item) (r : row.Row) : Type 0 where
  pub whole : IsWholeRow G kernel (transitions_of r)
  pub complete : AreComplete G kernel r.complete.items
