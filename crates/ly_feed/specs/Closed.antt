-- The requirements on tables to run on a text, and the result of a text that has ended.
use Rattle.std.specs.Prelude.{◌≡◌, ◌<◌, ◌≤◌, ℕ, Some, Result, Ok, Err}
use Rattle.ly_base.specs.Lexed.{Place}
use Rattle.ly_feed.specs.SyntaxError.{verdict_of}
use Rattle.ly_feed.specs.ScanPart.{ScanPart, terminal_in}
use Rattle.ly_feed.specs.TableAnswer.{IsRest, Progress}
use Rattle.ly_feed.specs.Verdict.{Verdict, accepted, faulty}
use Rattle.ly_feed.specs.declared.running.Ended.{Ended}
use Rattle.ly_feed.specs.declared.running.Ended.TheVariants.{Accepted, Refused}
use Rattle.ly_feed.specs.declared.text_fault.TextFault.{TextFault}
use Rattle.ly_feed.specs.declared.text_fault.TextFault.TheVariants.{FaultyTables, OutOfMemory}
use Rattle.ly_pack.specs.Machine.{IsMachine, Machine}
use Rattle.ly_pack.specs.Steady.{IsSteady}
use Rattle.ly_parse.specs.Parse.{Parse}
use Rattle.ly_tree.specs.Costs.{IsBoundedBySize}
use Rattle.ly_tree.specs.Forest.{Grown, StandsFor}
use Rattle.ly_tree.specs.Term.{Term}

-- All states, rules and symbols in the parser's tables exist, their runs end, and a terminal that the scanner returns
-- is one of theirs and not the end.
pub record CanRun (p : ScanPart) (m : Machine) : Type 0 where
  pub machine : IsMachine m
  pub steady : IsSteady m
  pub terminals : 0 < m.terminals
  pub returned : (i : ℕ) (bytes : _) (t : ℕ) → terminal_in p i bytes ≡ Some t → (1 ≤ t) × (t < m.terminals)

-- the progress of a scanner at a place and of a parse
abbrev pub progress_of : Place → Parse → Progress
progress_of q s = record { place = q; stack = s.stack; count = s.count }

-- the verdict that a value represents, with the terms of a forest
abbrev pub IsVerdictOf : Grown → Ended → Verdict → Type 0
IsVerdictOf forest (Accepted root) v = (d : Term) × (v ≡ accepted d) × StandsFor forest root d
IsVerdictOf forest (Refused syntax_error) v = v ≡ verdict_of syntax_error

-- a term is in the forest, which has the budget for it
abbrev pub IsThere : Grown → Ended → Type 0
IsThere forest (Accepted root) = (d : Term) × StandsFor forest root d × IsBoundedBySize forest d
IsThere forest (Refused syntax_error) = Unit {0}

-- The result of a text that has ended: the value represents the verdict on it, or the tables are faulty. Out of memory
-- means nothing.
abbrev pub IsClosed : ScanPart → Machine → Progress → Grown → Result Ended TextFault → Type 0
IsClosed p m w forest (Ok ended) = (v : Verdict) × IsRest p m w v × IsVerdictOf forest ended v × IsThere forest ended
IsClosed p m w forest (Err FaultyTables) = IsRest p m w faulty
IsClosed p m w forest (Err OutOfMemory) = Unit {0}
IsClosed p m w forest (Err _) = ⊥
