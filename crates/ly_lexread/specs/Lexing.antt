-- The lexemes of a text under the rules of a lex file (POSIX, XCU lex).
use Rattle.std.specs.Prelude.{◌≡◌, ◌≢◌, ℕ, List, [], Option}
use Rattle.ly_base.specs.Lexed.{Lexed, Place}
use Rattle.ly_base.specs.declared.lexeme.End.{End}
use Rattle.ly_base.specs.declared.lexeme.End.TheVariants.{Clean, Stuck, BadCut}
use Rattle.ly_base.specs.declared.lexeme.Lexeme.{Lexeme}
use Rattle.ly_ere.specs.Expression.{Expression}
use Rattle.ly_ere.specs.Winner.{Winner, HasNoWinner}
use Rattle.ly_ere.specs.declared.pattern.Rule.{Rule}

-- the lexeme is the winner here
abbrev pub IsWinnerAt : List Expression → List Rule → Place → Lexeme → Type 0
IsWinnerAt names rules p t = Winner names rules p.condition p.line p.rest t.rule.0 t.matched t.taken

-- Scanning ends here: at the end of the text, or because no rule matches. A winner's cut always leaves a token.
abbrev pub EndsAt : List Expression → List Rule → Place → End → Type 0
EndsAt names rules p Clean = p.rest ≡ []
EndsAt names rules p (Stuck b) = (p.rest ≢ []) × (b ≡ p.at) × HasNoWinner names rules p.condition p.line p.rest
EndsAt names rules p (BadCut b) = ⊥

-- from here the text is these lexemes, then this end; next gives the condition that a rule's action sets
abbrev pub Lexing : List Expression → List Rule → (ℕ → Option ℕ) → Place → List Lexeme → End → Type 0
Lexing names rules next = Lexed (IsWinnerAt names rules) (EndsAt names rules) next
