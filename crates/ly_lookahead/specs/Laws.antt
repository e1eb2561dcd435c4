-- What follows from the definitions of lookaheads.
use Rattle.std.specs.Prelude.{◌↔◌, ℕ, ◌≤◌, List}
use Rattle.ly_join.specs.Grammar.{Grammar, IsAugmented, Symbol}
use Rattle.ly_grammar.specs.Derivations.{IsReduced}
use Rattle.ly_grammar.specs.Items.{InLookahead}
use Rattle.ly_lr0.specs.Automaton.{Gotos, HasCores, Reaches}
use Rattle.ly_relate.specs.Relations.{LookaheadBy}

-- The relations give exactly the merged lookaheads.
abbrev pub RelationsGiveLookaheads : Type 0
RelationsGiveLookaheads = (G : Grammar) (goto : Gotos) → IsAugmented G → IsReduced G → HasCores G goto
    → (g : List Symbol) (s p t : ℕ) → Reaches goto 0 g s → 1 ≤ p → LookaheadBy G goto s p t ↔ InLookahead G g p t
