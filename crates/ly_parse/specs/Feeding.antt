-- The effect of a parser's tables on a token, with trees (Knuth 1965; Aho, Sethi and Ullman 1986, 4.7).
use Rattle.std.specs.Prelude.{◌≡◌, ℕ, zero, suc, List, [], ◌∷◌, Option, Some, None}
use Rattle.ly_base.specs.Lexed.{Token}
use Rattle.ly_pack.specs.Machine.{Machine, TableAction, TableRule, accept, action_of, error, goto_at, reduce, shift}
use Rattle.ly_pack.specs.Steady.{rule_at}
use Rattle.ly_tree.specs.Term.{Term, Terms, leaf, made, more, none}

-- A state on a parser's stack, with the term of the symbol that led to it.
pub record Level : Type 0 where
  pub state : ℕ
  pub term : Term

-- the state on top of a stack, its top first; the bottom's is 0
abbrev pub top_of : List Level → ℕ
top_of [] = 0
top_of (l ∷ stack) = l.state

-- the states of a stack, that of the bottom last
abbrev pub states_on : List Level → List ℕ
states_on [] = 0 ∷ []
states_on (l ∷ stack) = l.state ∷ states_on stack

-- The outcome for a token: it is read, with this stack; the tables accept with a term; they reject the token; or they
-- are faulty, because a goto is missing, a body extends past the bottom, or they accept without a term.
pub data Fed : Type 0 where
  pushed : List Level → Fed
  done : Term → Fed
  refused : Fed
  faulty : Fed

-- one turn: the outcome for the token, or the stack after a reduction
pub data Turn : Type 0 where
  settles : Fed → Turn
  goes_on : List Level → Turn

-- this many terms popped from a stack, in the order of the text before others, and the rest of the stack
abbrev pub pop : ℕ → List Level → Terms → Option (Terms × List Level)
pop zero stack ts = Some (ts, stack)
pop (suc n) [] ts = None
pop (suc n) (l ∷ stack) ts = pop n stack (more l.term ts)

-- a stack with the term of a rule's left side pushed
abbrev pub go_to : ℕ → TableRule → Terms → List Level → Option ℕ → Turn
go_to p r ts stack None = settles faulty
go_to p r ts stack (Some state) = goes_on (record { state = state; term = made p r.shape ts } ∷ stack)

abbrev pub uncover : Machine → ℕ → TableRule → Option (Terms × List Level) → Turn
uncover m p r None = settles faulty
uncover m p r (Some x) = go_to p r x.0 x.1 (goto_at m (top_of x.1) r.left)

abbrev pub reduce_by : Machine → ℕ → List Level → Option TableRule → Turn
reduce_by m p stack None = settles faulty
reduce_by m p stack (Some r) = uncover m p r (pop r.body_length stack none)

abbrev pub accept_with : List Level → Turn
accept_with [] = settles faulty
accept_with (l ∷ stack) = settles (done l.term)

abbrev pub perform : Machine → Token ℕ → List Level → TableAction → Turn
perform m token stack (shift state)
    = settles (pushed (record { state = state; term = leaf token.terminal token.bytes } ∷ stack))
perform m token stack (reduce p) = reduce_by m p stack (rule_at m p)
perform m token stack accept = accept_with stack
perform m token stack error = settles refused

-- one turn on a token
abbrev pub turn : Machine → Token ℕ → List Level → Turn
turn m token stack = perform m token stack (action_of m (top_of stack) token.terminal)

-- Turns lead to the outcome for a token.
pub data Feeds (m : Machine) (token : Token ℕ) : List Level → Fed → Type 0 where
  settled : {stack : List Level} {out : Fed} → turn m token stack ≡ settles out → Feeds m token stack out
  onward : {stack next : List Level} {out : Fed} → turn m token stack ≡ goes_on next → Feeds m token next out
      → Feeds m token stack out
