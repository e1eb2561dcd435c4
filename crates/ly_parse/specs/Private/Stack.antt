-- A parser's stack as it is kept, with its top last, and as contracts see it.
use Rattle.std.specs.Prelude.{◌≡◌, ℕ, ◌<◌, List, [], ◌∷◌, All, Bool, IsSome, Result, Ok, Err, map, reverse}
use Rattle.std.specs.Prelude.{unwrap_or}
use Rattle.ly_base.specs.Lexed.{Token}
use Rattle.ly_pack.specs.Machine.{Machine, states_of, IsMachine}
use Rattle.ly_pack.specs.Steady.{rule_at, IsSteady, ReducesTo}
use Rattle.ly_pack.specs.SteadyLaws.{IsStack}
use Rattle.ly_parse.specs.Expected.{AreExpected}
use Rattle.ly_parse.specs.Feeding.{Fed, Feeds, Level, accept_with, done, faulty, goes_on, reduce_by, settles}
use Rattle.ly_parse.specs.Feeding.{states_on}
use Rattle.ly_parse.specs.Parse.{Parse}
use Rattle.ly_parse.specs.Private.Paying.{IsStackPaid}
use Rattle.ly_parse.specs.declared.fault.ParseFault.{ParseFault}
use Rattle.ly_parse.specs.declared.fault.ParseFault.TheVariants.{FaultyTables}
use Rattle.ly_parse.specs.declared.level.Level as code
use Rattle.ly_parse.specs.declared.step.Step as step
use Rattle.ly_parse.specs.declared.step.Step.TheVariants.{Done, Refused}
use Rattle.ly_tree.specs.Forest.{Grown, StandsFor, term_of}
use Rattle.ly_tree.specs.Term.{Term, Terms, more, nothing}

-- a level with the term that its reference stands for
abbrev pub level_from : Grown → code.Level → Level
level_from f l = record { state = l.state.0; term = unwrap_or (term_of f l.term) nothing }

abbrev pub stack_from : Grown → List code.Level → List Level
stack_from f levels = map (level_from f) (reverse levels)

-- the parse that stands on these, but for what its stack was
abbrev pub parse_from : Machine → Grown → List code.Level → ℕ → Bool → Parse
parse_from m f levels count over
    = record { machine = m; forest = f; stack = stack_from f levels; count = count; over = over; asked = [] }

-- All that the tables name is there, they are steady, each level's state is one of theirs and its term is in the
-- forest, neighbours on the stack are edges, and the forest pays for the terms.
pub record IsParse (m : Machine) (f : Grown) (levels : List code.Level) : Type 0 where
  pub machine : IsMachine m
  pub steady : IsSteady m
  pub states : All (λ l. l.state.0 < states_of m) levels
  pub terms : All (λ l. IsSome (term_of f l.term)) levels
  pub edges : IsStack m (states_on (stack_from f levels))
  pub paid : IsStackPaid f (stack_from f levels)

-- the terms of a stack, its top first, as they stand in the text
abbrev pub terms_onto : List Level → Terms → Terms
terms_onto [] ts = ts
terms_onto (l ∷ stack) ts = terms_onto stack (more l.term ts)

-- what becomes of each token of the terminal on the one stack becomes of it on the other
abbrev pub FeedAlike : Machine → ℕ → List Level → List Level → Type 0
FeedAlike m t stack other = (token : Token ℕ) (out : Fed) → token.terminal ≡ t → Feeds m token stack out
    → Feeds m token other out

-- each token of the terminal becomes this
abbrev pub FeedAs : Machine → ℕ → List Level → Fed → Type 0
FeedAs m t stack out = (token : Token ℕ) → token.terminal ≡ t → Feeds m token stack out

-- Reductions before the terminal lead from the one stack to the other, so a token becomes the same on both.
pub record LeadsByReductions (m : Machine) (t : ℕ) (stack last : List Level) : Type 0 where
  pub alike : FeedAlike m t last stack
  pub count : ℕ
  pub moves : ReducesTo m t (states_on stack) count (states_on last)

-- A reduction before the terminal and further ones lead from the one stack to the other.
pub record LeadsByRule (m : Machine) (number t : ℕ) (stack last : List Level) : Type 0 where
  pub next : List Level
  pub makes : reduce_by m number stack (rule_at m number) ≡ goes_on next
  pub leads : LeadsByReductions m t next last

-- a reduction before the terminal fails, or leads to a stack from which each token of the terminal does
pub data FailsByRule (m : Machine) (number t : ℕ) (stack : List Level) : Type 0 where
  at_once : reduce_by m number stack (rule_at m number) ≡ settles faulty → FailsByRule m number t stack
  behind : (next : List Level) → reduce_by m number stack (rule_at m number) ≡ goes_on next
      → FeedAs m t next faulty → FailsByRule m number t stack

-- what a parser says where its tables accept
abbrev pub IsAccepted : Grown → List Level → Result step.Step ParseFault → Type 0
IsAccepted f stack (Ok (Done root)) = (d : Term) × (accept_with stack ≡ settles (done d)) × StandsFor f root d
IsAccepted f stack (Err FaultyTables) = accept_with stack ≡ settles faulty
IsAccepted f stack _ = ⊥

-- what a parser says of a token of this number and place that it refuses, where its stack had these states before
abbrev pub IsRefusedWith : Machine → List ℕ → ℕ → ℕ → step.Step → Type 0
IsRefusedWith m states token byte (Refused t b expected) = (t ≡ token) × (b ≡ byte)
    × AreExpected m states (map (λ s. s.0) expected.items)
IsRefusedWith m states token byte _ = ⊥
