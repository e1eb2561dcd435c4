-- The state of a parser, and the effect of its calls.
use Rattle.std.specs.Prelude.{◌≡◌, ℕ, ◌+◌, ◌<◌, List, All, Bool, true, false, Result, Ok, Err, map}
use Rattle.ly_base.specs.Lexed.{Token}
use Rattle.ly_pack.specs.Machine.{Machine, states_of}
use Rattle.ly_pack.specs.SteadyLaws.{IsStack}
use Rattle.ly_parse.specs.Expected.{AreExpected}
use Rattle.ly_parse.specs.Feeding.{Feeds, Level, accept_with, done, faulty, pushed, refused, settles, states_on}
use Rattle.ly_parse.specs.declared.token_outcome.TokenOutcome.{TokenOutcome}
use Rattle.ly_parse.specs.declared.token_outcome.TokenOutcome.TheVariants as answers
use Rattle.ly_parse.specs.declared.fault.ParseFault.{ParseFault}
use Rattle.ly_parse.specs.declared.fault.ParseFault.TheVariants.{OutOfMemory, Over, FaultyTables}
use Rattle.ly_parse.specs.declared.step.Step as code
use Rattle.ly_parse.specs.declared.step.Step.TheVariants.{Done, More, Refused}
use Rattle.ly_tree.specs.Forest.{Grown, StandsFor}
use Rattle.ly_tree.specs.Term.{Term}

-- A parse: the tables, the forest, the stack, its top first, the number of tokens read, and whether it has ended. Also
-- the states that the stack had before the last token, the top first and the bottom last. They are meaningful only
-- after a refusal: they are those before the rejected token.
pub record Parse : Type 0 where
  pub machine : Machine
  pub forest : Grown
  pub stack : List Level
  pub count : ℕ
  pub over : Bool
  pub asked : List ℕ

-- The effect of a token on a parse that hasn't ended, by the result: it continues after the token, it ends with a term,
-- it rejects the token, which it counts, and lists the terminals that are expected in its place with the stack as it
-- was before the call; or the tables are faulty. Out of memory means nothing.
abbrev pub Takes : Parse → Token ℕ → Parse → Result code.Step ParseFault → Type 0
Takes p t q (Ok More) = Feeds p.machine t p.stack (pushed q.stack) × (q.count ≡ p.count + 1)
Takes p t q (Ok (Done root)) = (d : Term) × Feeds p.machine t p.stack (done d) × StandsFor q.forest root d
Takes p t q (Ok (Refused token byte expected)) = Feeds p.machine t p.stack refused × (token ≡ p.count + 1)
    × (byte ≡ t.at) × AreExpected p.machine (states_on p.stack) (map (λ s. s.0) expected.items)
Takes p t q (Err FaultyTables) = Feeds p.machine t p.stack faulty
Takes p t q (Err Over) = ⊥
Takes p t q (Err OutOfMemory) = Unit {0}

-- whether a parse has ended after a result
abbrev pub is_last : Result code.Step ParseFault → Bool
is_last (Ok More) = false
is_last _ = true

-- The effect of a call with a token: a parse that has ended is unchanged and reports that; any other processes the
-- token.
pub record IsCall (p : Parse) (t : Token ℕ) (q : Parse) (answer : Result code.Step ParseFault) : Type 0 where
  pub after_end : p.over ≡ true → (answer ≡ Err Over) × (q ≡ p)
  pub before_end : p.over ≡ false → Takes p t q answer
  pub machine : q.machine ≡ p.machine
  pub over : q.over ≡ is_last answer

-- A refusal can be reconstructed from the states that the stack had: they are states of the tables, and neighbours are
-- edges.
pub record IsTellable (q : Parse) : Type 0 where
  pub states : All (λ s. s < states_of q.machine) q.asked
  pub edges : IsStack q.machine q.asked

-- The effect of a token on a parse that hasn't ended, by the small result: it continues after the token; it accepts
-- with the term on top of its stack; it rejects the token, whose refusal can be reconstructed with the stack as it was
-- before the call; or the tables are faulty. Out of memory means nothing.
abbrev pub Comes : Parse → Token ℕ → Parse → TokenOutcome → Type 0
Comes p t q answers.Reads = Feeds p.machine t p.stack (pushed q.stack) × (q.count ≡ p.count + 1)
Comes p t q answers.Accepts = (d : Term) × Feeds p.machine t p.stack (done d) × (accept_with q.stack ≡ settles (done d))
Comes p t q answers.Refuses = Feeds p.machine t p.stack refused × (q.asked ≡ states_on p.stack)
    × (q.count ≡ p.count) × IsTellable q
Comes p t q answers.FaultyTables = Feeds p.machine t p.stack faulty
Comes p t q answers.Over = ⊥
Comes p t q answers.OutOfMemory = Unit {0}

-- whether a parse has ended after a small result
abbrev pub ends_by : TokenOutcome → Bool
ends_by answers.Reads = false
ends_by _ = true

-- The effect of a call with a token: a parse that has ended is unchanged and reports that; any other processes the
-- token.
pub record IsTake (p : Parse) (t : Token ℕ) (q : Parse) (answer : TokenOutcome) : Type 0 where
  pub after_end : p.over ≡ true → (answer ≡ answers.Over) × (q ≡ p)
  pub before_end : p.over ≡ false → Comes p t q answer
  pub machine : q.machine ≡ p.machine
  pub over : q.over ≡ ends_by answer
