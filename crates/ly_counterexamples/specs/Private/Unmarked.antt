-- Terminals without a mark.
use Rattle.std.specs.Prelude.{◌≡◌, ℕ, List, Bool, Some, slice_get, Contains}
use Rattle.ly_base.specs.declared.numbers.Sym.{Sym}
use Rattle.ly_base.specs.declared.scan_action.Emitted.TheVariants.{Terminal as Own}
use Rattle.ly_base.specs.declared.scan_action.ScanAction.{ScanAction}
use Rattle.ly_join.specs.Grammar.{IsRule, GrammarRule, Symbol, terminal}
use Rattle.ly_join.specs.Joined.{Spec}
use Rattle.ly_join.specs.Terminals.{TerminalName, byte, IsNumbered}
use Rattle.ly_counterexamples.specs.Doubts.{IsTokenOrLiteral}
use Rattle.ly_counterexamples.specs.Private.Marks.{IsMarked}

-- a token or a literal has no mark
abbrev pub IsUnmarked : Spec → List Bool → ℕ → Type 0
IsUnmarked s marks t = IsTokenOrLiteral s t × (IsMarked marks t → ⊥)

-- the rule is marked, and returns the terminal itself
abbrev pub ReturnsItself : List ScanAction → List Bool → ℕ → ℕ → Type 0
ReturnsItself actions marks i t = IsMarked marks i
    × (a : ScanAction) × (slice_get actions i ≡ Some a) × (own : Sym) × (a.emits ≡ Own own) × (own.0 ≡ t)

-- the number is that of the literal of a marked byte
abbrev pub IsLiteralOf : List TerminalName → List Bool → ℕ → Type 0
IsLiteralOf terminals marks t = (b : ℕ) × IsNumbered terminals (byte b) t × IsMarked marks b

-- it is, and so the number of this step
abbrev pub IsLiteralAt : List TerminalName → List Bool → ℕ → ℕ → Type 0
IsLiteralAt terminals marks k t = (t ≡ k) × IsLiteralOf terminals marks k

-- the terminal stands in the body of the rule
abbrev pub StandsIn : Spec → ℕ → ℕ → Type 0
StandsIn s p t = (r : GrammarRule) × IsRule s.grammar p r × Contains r.body (terminal t)

-- the terminal stands at the place of a body
abbrev pub StandsAt : List Symbol → ℕ → ℕ → Type 0
StandsAt body k t = slice_get body k ≡ Some (terminal t)
