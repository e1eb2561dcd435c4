-- The numbers and the names of the errors of joining.
use Rattle.std.specs.Prelude.{ℕ, List, Option, Some, None, codes}
use Rattle.ly_join.specs.declared.fault.JoinFault.{JoinFault}
use Rattle.ly_join.specs.declared.fault.JoinFault.TheVariants.{UndefinedSymbol, TokenOnLeft, PrecedenceTwice}
use Rattle.ly_join.specs.declared.fault.JoinFault.TheVariants.{UnknownStart, ReturnUndeclared, PrecUnknown, NoRules}
use Rattle.ly_join.specs.declared.fault.JoinFault.TheVariants.{LimitPassed, OutOfMemory}
use Rattle.ly_join.specs.declared.limit.Limit.{Limit}
use Rattle.ly_join.specs.declared.limit.Limit.TheVariants.{Symbols, Rules, LexRules, Body, Conditions, Name}

-- the number that an error is printed with; out of memory has none
abbrev pub join_number : JoinFault → Option ℕ
join_number (UndefinedSymbol n) = Some 40
join_number (TokenOnLeft n) = Some 41
join_number (PrecedenceTwice t) = Some 42
join_number (UnknownStart n) = Some 43
join_number (ReturnUndeclared n) = Some 44
join_number (PrecUnknown n) = Some 45
join_number NoRules = Some 46
join_number (LimitPassed which) = Some 47
join_number OutOfMemory = None

-- the name that an error is printed with
abbrev pub join_name : JoinFault → List ℕ
join_name (UndefinedSymbol n) = codes "UndefinedSymbol"
join_name (TokenOnLeft n) = codes "TokenOnLeft"
join_name (PrecedenceTwice t) = codes "PrecedenceTwice"
join_name (UnknownStart n) = codes "UnknownStart"
join_name (ReturnUndeclared n) = codes "ReturnUndeclared"
join_name (PrecUnknown n) = codes "PrecUnknown"
join_name NoRules = codes "NoRules"
join_name (LimitPassed which) = codes "LimitPassed"
join_name OutOfMemory = codes "OutOfMemory"

-- the name that a limit is printed with
abbrev pub limit_name : Limit → List ℕ
limit_name Symbols = codes "symbols"
limit_name Rules = codes "rules"
limit_name LexRules = codes "lexrules"
limit_name Body = codes "body"
limit_name Conditions = codes "conditions"
limit_name Name = codes "name"
