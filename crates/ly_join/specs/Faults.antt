-- The meaning of each error of joining.
use Rattle.std.specs.Prelude.{◌≡◌, ◌<◌, ℕ, List, [], Contains, Some}
use Rattle.ly_base.specs.Limits.{Sizes}
use Rattle.ly_yaccread.specs.File.{Written}
use Rattle.ly_yaccread.specs.Rules.{Ruling}
use Rattle.ly_yaccread.specs.Words.{name}
use Rattle.ly_join.specs.Counts.{counted, limit_of}
use Rattle.ly_join.specs.Numbering.{IsNonterminal, IsToken}
use Rattle.ly_join.specs.Precedences.{given, IsGivenTwice}
use Rattle.ly_join.specs.Scanning.{Acting, Scanning, returns}
use Rattle.ly_join.specs.Terminals.{terminal_from, token}
use Rattle.ly_join.specs.declared.fault.JoinFault.{JoinFault}
use Rattle.ly_join.specs.declared.fault.JoinFault.TheVariants.{UndefinedSymbol, TokenOnLeft, PrecedenceTwice}
use Rattle.ly_join.specs.declared.fault.JoinFault.TheVariants.{UnknownStart, ReturnUndeclared, PrecUnknown, NoRules}
use Rattle.ly_join.specs.declared.fault.JoinFault.TheVariants.{LimitPassed, OutOfMemory}

-- a body contains it, and it is neither a token nor a nonterminal
abbrev pub IsUndefined : Written → List ℕ → Type 0
IsUndefined w n = (r : Ruling) × Contains w.rules r × Contains r.body (name n) × (IsToken w n → ⊥)
    × (IsNonterminal w n → ⊥)

-- it follows a `%prec`, and is no token
abbrev pub IsUnknownPrec : Written → List ℕ → Type 0
IsUnknownPrec w n = (r : Ruling) × Contains w.rules r × (r.precedence ≡ Some (name n)) × (IsToken w n → ⊥)

-- it follows `%start`, and is no left side
abbrev pub IsUnknownStart : Written → List ℕ → Type 0
IsUnknownStart w n = (w.preamble.start ≡ Some n) × (IsNonterminal w n → ⊥)

-- an action returns it, and it is no token
abbrev pub IsUndeclared : Scanning → Written → List ℕ → Type 0
IsUndeclared x w n = (a : Acting) × Contains x.actions a × (a.returning ≡ returns (token n)) × (IsToken w n → ⊥)

-- what an error means for the files; out of memory means nothing
abbrev pub IsAtFault : Sizes → Scanning → Written → JoinFault → Type 0
IsAtFault sizes x w (UndefinedSymbol n) = IsUndefined w n.items
IsAtFault sizes x w (TokenOnLeft n) = IsToken w n.items × IsNonterminal w n.items
IsAtFault sizes x w (PrecedenceTwice t) = IsGivenTwice (given w.preamble.declarations) (terminal_from t)
IsAtFault sizes x w (UnknownStart n) = IsUnknownStart w n.items
IsAtFault sizes x w (ReturnUndeclared n) = IsUndeclared x w n.items
IsAtFault sizes x w (PrecUnknown n) = IsUnknownPrec w n.items
IsAtFault sizes x w NoRules = w.rules ≡ []
IsAtFault sizes x w (LimitPassed which) = limit_of which sizes < counted which x w
IsAtFault sizes x w OutOfMemory = Unit {0}

-- an error other than a limit or out of memory: the files make no specification at all
abbrev pub IsOfFiles : JoinFault → Type 0
IsOfFiles (LimitPassed which) = ⊥
IsOfFiles OutOfMemory = ⊥
IsOfFiles _ = Unit {0}
