-- How tables relate to the reference machine.
use Rattle.std.specs.Prelude.{◌≡◌, ℕ, List, [], ◌∷◌, Some}
use Rattle.ly_base.specs.Lexed.{Token}
use Rattle.ly_base.specs.Trees.{Tree}
use Rattle.ly_lr0.specs.Automaton.{Lr0Automaton, goto_of}
use Rattle.ly_parse.specs.Deriving.{TreeFed, TreeLevel, done, faulty, pushed, refused, top_state}
use Rattle.ly_resolve.specs.Actions.{Judge}
use Rattle.ly_resolve.specs.Machine.{Accepts, Configuration, Leads, Pushed, Refuses}

-- The levels mirror a stack of the reference machine: they have its trees, and each state is where the symbols up to it
-- lead.
pub data Mirrors (M : Lr0Automaton) : List Pushed → List TreeLevel → Type 0 where
  bottom : Mirrors M [] []
  above : {x : Pushed} {state : ℕ} {stack : List Pushed} {levels : List TreeLevel} → Mirrors M stack levels
      → goto_of M (top_state levels) x.symbol ≡ Some state
      → Mirrors M (x ∷ stack) (record { state = state; tree = x.tree } ∷ levels)

-- The outcome for the next token corresponds to that of the tables: the machine continues after it, accepts with the
-- same tree, or refuses it, and the tables are never faulty.
abbrev pub Simulates : Lr0Automaton → Judge → List Pushed → Token ℕ → List (Token ℕ) → TreeFed → Type 0
Simulates M judge stack token behind (pushed levels) = (next : List Pushed)
    × Leads M.grammar judge (record { stack = stack; rest = token ∷ behind })
    (record { stack = next; rest = behind }) × Mirrors M next levels
Simulates M judge stack token behind (done tree) = (c : Configuration) × (d : Tree)
    × Leads M.grammar judge (record { stack = stack; rest = token ∷ behind }) c × Accepts M.grammar judge c d
    × (tree ≡ d)
Simulates M judge stack token behind refused = (c : Configuration)
    × Leads M.grammar judge (record { stack = stack; rest = token ∷ behind }) c × Refuses M.grammar judge c
    × (c.rest ≡ token ∷ behind)
Simulates M judge stack token behind faulty = ⊥
