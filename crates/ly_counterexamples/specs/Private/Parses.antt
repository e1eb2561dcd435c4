-- Two parses, as they are compared and followed. Strings that are kept have their first symbol first.
use Rattle.std.specs.Prelude.{◌≡◌, ◌≢◌, ℕ, List, [], ◌∷◌, ◌++◌, Option, Some, None, map, reverse}
use Rattle.ly_join.specs.Grammar.{Grammar, Symbol, symbol_of}
use Rattle.ly_join.specs.declared.symbol.Symbol as code
use Rattle.ly_lr0.specs.Automaton.{Lr0Automaton, Reaches, goto_of}
use Rattle.ly_counterexamples.specs.Moves.{Lead, Move, reduces, shifted}

-- the string that is kept
abbrev pub string_of : List code.Symbol → List Symbol
string_of kept = reverse (map symbol_of kept)

-- the moves lead to no string
abbrev pub LeadNowhere : Grammar → List Symbol → List Move → Type 0
LeadNowhere G g moves = (h : List Symbol) → Lead G g moves h → ⊥

-- a rule of the number has its body on top of the string, and its left side takes the body's place
abbrev pub IsReducedTo : Grammar → ℕ → List Symbol → List Symbol → Type 0
IsReducedTo G p g h = Lead G g (reduces p ∷ []) h

-- the string leads to no state
abbrev pub ReachesNone : Lr0Automaton → List Symbol → Type 0
ReachesNone M g = (s : ℕ) → Reaches (goto_of M) 0 g s → ⊥

-- where two lists of moves go on in other ways, behind moves that both have
pub record ArePartedAt (one other before : List Move) (a b : Move) (behind beyond : List Move) : Type 0 where
  pub first : one ≡ before ++ a ∷ behind
  pub second : other ≡ before ++ b ∷ beyond
  pub apart : a ≢ b

-- what is shifted first
abbrev pub IsNext : List Move → Option ℕ → Type 0
IsNext moves None = shifted moves ≡ []
IsNext moves (Some t) = (left : List ℕ) × (shifted moves ≡ t ∷ left)
