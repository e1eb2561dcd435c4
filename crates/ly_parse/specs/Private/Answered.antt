-- What a parser's call comes to, and what is told of it.
use Rattle.std.specs.Prelude.{◌≡◌, ℕ, ◌+◌, List, Err, IfErr, IfOk, Ok, Result}
use Rattle.ly_pack.specs.Machine.{Machine, accept, action_of, error, shift}
use Rattle.ly_parse.specs.Feeding.{Level, accept_with, done, faulty, settles, top_of}
use Rattle.ly_parse.specs.Parse.{Parse}
use Rattle.ly_parse.specs.Private.Before.{before_on, IsNoteOf}
use Rattle.ly_parse.specs.Private.Stack.{FeedAlike, FeedAs, IsAccepted, IsRefusedWith}
use Rattle.ly_parse.specs.declared.token_outcome.TokenOutcome.{TokenOutcome}
use Rattle.ly_parse.specs.declared.token_outcome.TokenOutcome.TheVariants.{Accepts, OutOfMemory, Over, Reads, Refuses}
use Rattle.ly_parse.specs.declared.token_outcome.TokenOutcome.TheVariants.{FaultyTables}
use Rattle.ly_parse.specs.declared.before.Before.{Before}
use Rattle.ly_parse.specs.declared.fault.ParseFault.{ParseFault}
use Rattle.ly_parse.specs.declared.fault.ParseFault.TheVariants as fault
use Rattle.ly_parse.specs.declared.settled.Settled.{Settled}
use Rattle.ly_parse.specs.declared.settled.Settled.TheVariants as settled
use Rattle.ly_parse.specs.declared.step.Step.{Step}
use Rattle.ly_parse.specs.declared.step.Step.TheVariants as step
use Rattle.ly_tree.specs.Term.{Term}

-- a parse with the note of what its stack was
abbrev pub with_note : Parse → Before → Parse
with_note p b = record p { asked = before_on p.stack b }

-- what a call comes to where the tables accept
abbrev pub IsAcceptance : List Level → TokenOutcome → Type 0
IsAcceptance stack Accepts = (d : Term) × (accept_with stack ≡ settles (done d))
IsAcceptance stack FaultyTables = accept_with stack ≡ settles faulty
IsAcceptance stack _ = ⊥

-- what is told of a token at a byte that is refused, by the parse behind the call
abbrev pub IsRefusal : Parse → ℕ → Result Step ParseFault → Type 0
IsRefusal q at r = IfOk r (IsRefusedWith q.machine q.asked (q.count + 1) at) × IfErr r (λ e. e ≡ fault.OutOfMemory)

-- what is told of what a call comes to
abbrev pub IsTold : Parse → ℕ → TokenOutcome → Result Step ParseFault → Type 0
IsTold q at Reads r = r ≡ Ok step.More
IsTold q at Accepts r = IsAccepted q.forest q.stack r
IsTold q at Refuses r = IsRefusal q at r
IsTold q at FaultyTables r = r ≡ Err fault.FaultyTables
IsTold q at Over r = r ≡ Err fault.Over
IsTold q at OutOfMemory r = r ≡ Err fault.OutOfMemory

-- What the reductions before a terminal come to, on a stack that had these states before: to a stack on which each
-- token of the terminal becomes what it would have become at first, and the tables do there what is answered; where
-- they refuse, the note says which states there were. Or the tables are at fault on the way. Want of memory says
-- nothing.
abbrev pub IsSettled : Machine → ℕ → List Level → List ℕ → List Level → Before → Settled → Type 0
IsSettled m t stack states last b (settled.Reads state) = FeedAlike m t last stack
    × (action_of m (top_of last) t ≡ shift state.0)
IsSettled m t stack states last b settled.Accepts = FeedAlike m t last stack
    × (action_of m (top_of last) t ≡ accept)
IsSettled m t stack states last b settled.Refuses = FeedAlike m t last stack
    × (action_of m (top_of last) t ≡ error) × IsNoteOf states last b
IsSettled m t stack states last b settled.FaultyTables = FeedAs m t stack faulty
IsSettled m t stack states last b settled.OutOfMemory = Unit {0}
