-- What a call with a token does.
use Rattle.std.proofs.Common.{◌≡◌, ℕ, ◌+◌, ◌<◌, List, [], ◌∷◌, length, refl, sym, ap, ◌∙◌, arith, subst, Err, Ok}
use Rattle.std.specs.Prelude.{Bool, false, true, All, Result, map}
use Rattle.ly_base.specs.Lexed.{Token}
use Rattle.ly_pack.specs.Machine.{Machine, accept, action_of, error, shift, states_of}
use Rattle.ly_pack.specs.SteadyLaws.{IsStack}
use Rattle.ly_parse.specs.Expected.{AreExpected}
use Rattle.ly_parse.specs.Feeding.{Level, done, faulty, pushed, refused, settles, states_on, top_of}
use Rattle.ly_parse.specs.Parse.{ends_by, is_last, Comes, IsCall, IsTake, IsTellable, Parse, Takes}
use Rattle.ly_parse.specs.Private.Answered.{with_note, IsAcceptance, IsTold}
use Rattle.ly_parse.specs.Private.Before.{before_on, IsNoteOf}
use Rattle.ly_parse.specs.Private.Stack.{parse_from, stack_from, FeedAlike, IsParse}
use Rattle.ly_parse.specs.declared.token_outcome.TokenOutcome.{TokenOutcome}
use Rattle.ly_parse.specs.declared.token_outcome.TokenOutcome.TheVariants as answers
use Rattle.ly_parse.specs.declared.before.Before.{Before}
use Rattle.ly_parse.specs.declared.fault.ParseFault.{ParseFault}
use Rattle.ly_parse.specs.declared.fault.ParseFault.TheVariants.{OutOfMemory, Over, FaultyTables}
use Rattle.ly_parse.specs.declared.level.Level as code
use Rattle.ly_parse.specs.declared.step.Step as step
use Rattle.ly_parse.specs.declared.step.Step.TheVariants.{Done, More, Refused}
use Rattle.ly_parse.proofs.BeforeLemmas.{states_known}
use Rattle.ly_parse.proofs.FeedingLemmas.{feeds_by}
use Rattle.ly_parse.proofs.StackLemmas.{length-stack_from}
use Rattle.ly_tree.specs.Forest.{Grown, StandsFor}
use Rattle.ly_tree.specs.Term.{leaf}

not_over : {A : Type 0} (b : Bool) → b ≡ false → b ≡ true → A
not_over b e f = absurd (let no : true ≡ false = sym f ∙ e in cc)

-- tables that accept where something stands on the bottom accept with a term
some_accepts : (stack : List Level) → 0 < length stack → IsAcceptance stack answers.Accepts
some_accepts [] some = absurd (omega (arith, some))
some_accepts (l ∷ stack) some = (l.term, refl)

pub accepts_some : (m : Machine) (f : Grown) (levels : List code.Level) (p : Parse) (count : ℕ) (over : Bool)
    → parse_from m f levels count over ≡ p → 0 < length levels → IsAcceptance p.stack answers.Accepts
accepts_some m f levels p count over view some =
    subst (λ q. IsAcceptance q.stack answers.Accepts) view
    (some_accepts (stack_from f levels) (omega (arith, some, length-stack_from f levels)))

-- The states on a parse's stack are states of its tables, and neighbours are edges.
pub record HasStates (p : Parse) : Type 0 where
  pub known : All (λ k. k < states_of p.machine) (states_on p.stack)
  pub edges : IsStack p.machine (states_on p.stack)

pub has_states : (m : Machine) (f : Grown) (levels : List code.Level) (p : Parse) (count : ℕ) (over : Bool)
    → parse_from m f levels count over ≡ p → IsParse m f levels → HasStates p
has_states m f levels p count over view h =
    subst HasStates view (record { known = states_known m f levels h; edges = h.edges })

-- A parse with the note it has, and the parse before the token is settled: a token becomes the same on both.
module _ (p : Parse) (token : Token ℕ) (a : Before) (s : Parse)
    (alike : FeedAlike p.machine token.terminal s.stack p.stack) (machine : s.machine ≡ p.machine)
    (counted : s.count ≡ p.count) where
  -- the token is read
  pub reads : (state : ℕ) (q : Parse) (b : Before) → action_of p.machine (top_of s.stack) token.terminal ≡ shift state
      → q.stack ≡ record { state = state; term = leaf token.terminal token.bytes } ∷ s.stack
      → q.count ≡ s.count + 1 → Comes (with_note p a) token (with_note q b) answers.Reads
  reads state q b action stack more =
      let fed = alike token (pushed q.stack) refl (feeds_by p.machine token s.stack (shift state) (pushed q.stack)
      action (ap (λ w. settles (pushed w)) (sym stack))) in
      (fed, more ∙ ap (λ n. n + 1) counted)

  -- the tables accept
  pub accepts_token : (answer : TokenOutcome) (b : Before)
      → action_of p.machine (top_of s.stack) token.terminal ≡ accept
      → IsAcceptance s.stack answer → Comes (with_note p a) token (with_note s b) answer
  accepts_token answers.Accepts b action x =
      (x.0, alike token (done x.0) refl (feeds_by p.machine token s.stack accept (done x.0) action x.1), x.1)
  accepts_token answers.FaultyTables b action x =
      alike token faulty refl (feeds_by p.machine token s.stack accept faulty action x)
  accepts_token answers.Reads b action x = absurd x
  accepts_token answers.Refuses b action x = absurd x
  accepts_token answers.Over b action x = absurd x
  accepts_token answers.OutOfMemory b action x = absurd x

  -- they refuse the token, and what the stack was is noted
  pub refuses_token : (b : Before) → HasStates p → action_of p.machine (top_of s.stack) token.terminal ≡ error
      → IsNoteOf (states_on p.stack) s.stack b → Comes (with_note p a) token (with_note s b) answers.Refuses
  refuses_token b h action note = (
    alike token refused refl (feeds_by p.machine token s.stack error refused action refl),
    note.same,
    counted,
    record {
      states = subst (λ m. All (λ k. k < states_of m) (before_on s.stack b)) (sym machine)
          (subst (All (λ k. k < states_of p.machine)) (sym note.same) h.known);
      edges = subst (λ m. IsStack m (before_on s.stack b)) (sym machine)
          (subst (IsStack p.machine) (sym note.same) h.edges);
    },
  )

-- a call of a parse that isn't over takes the token
pub taken : (p : Parse) (token : Token ℕ) (q : Parse) (answer : TokenOutcome) → p.over ≡ false → Comes p token q answer
    → q.machine ≡ p.machine → q.over ≡ ends_by answer → IsTake p token q answer
taken p token q answer goes took same ended = record {
  after_end = not_over p.over goes;
  before_end = λ _. took;
  machine = same;
  over = ended;
}

-- where the tables accept, a parse is over
pub acceptance_ends : (stack : List Level) (answer : TokenOutcome) → IsAcceptance stack answer → true ≡ ends_by answer
acceptance_ends stack answers.Accepts x = refl
acceptance_ends stack answers.FaultyTables x = refl
acceptance_ends stack answers.Reads x = absurd x
acceptance_ends stack answers.Refuses x = absurd x
acceptance_ends stack answers.Over x = absurd x
acceptance_ends stack answers.OutOfMemory x = absurd x

-- A call that came to an answer, and what is told of it.
module _ (p : Parse) (t : Token ℕ) (q : Parse) where
  -- a refusal can be told where a token was refused
  pub refusal_told : (answer : TokenOutcome) → IsTake p t q answer → answer ≡ answers.Refuses → IsTellable q
  refusal_told answer took is = by p.over refl (subst (IsTake p t q) is took)
    where
      by : (over : Bool) → p.over ≡ over → IsTake p t q answers.Refuses → IsTellable q
      by true e h = absurd (let no : answers.Refuses ≡ answers.Over = (h.after_end e).0 in cc)
      by false e h = (h.before_end e).3

  told_of : (answer : TokenOutcome) (r : Result step.Step ParseFault) → (answer ≡ answers.Over → ⊥)
      → IsTake p t q answer
      → (Comes p t q answer → Takes p t q r) → ends_by answer ≡ is_last r → IsCall p t q r
  told_of answer r not_over h tells ended = record {
    after_end = λ e. absurd (not_over (h.after_end e).0);
    before_end = λ e. tells (h.before_end e);
    machine = h.machine;
    over = h.over ∙ ended;
  }

  -- the tables accept with the term that is told
  accepted : (r : Result step.Step ParseFault) → IsTake p t q answers.Accepts → IsTold q t.at answers.Accepts r
      → IsCall p t q r
  accepted (Ok (Done root)) h told = told_of answers.Accepts (Ok (Done root)) (λ e. cc) h (λ x. (
    x.0,
    x.1,
    (let one : settles (done told.0) ≡ settles (done x.0) = sym told.1 ∙ x.2 in
        let same : told.0 ≡ x.0 = cc in
        subst (StandsFor q.forest root) same told.2),
  )) refl
  accepted (Err FaultyTables) h told = told_of answers.Accepts (Err FaultyTables) (λ e. cc) h
      (λ x. absurd (let no : settles faulty ≡ settles (done x.0) = sym told ∙ x.2 in cc)) refl
  accepted (Ok More) h told = absurd told
  accepted (Ok (Refused k at ts)) h told = absurd told
  accepted (Err Over) h told = absurd told
  accepted (Err OutOfMemory) h told = absurd told

  -- they refuse the token, and what is expected is listed from the stack as it was
  refused_call : (r : Result step.Step ParseFault) → IsTake p t q answers.Refuses → IsTold q t.at answers.Refuses r
      → IsCall p t q r
  refused_call (Ok (Refused k at ts)) h told = told_of answers.Refuses (Ok (Refused k at ts)) (λ e. cc) h (λ x. (
    x.0,
    told.0.0 ∙ ap (λ n. n + 1) x.2,
    told.0.1,
    subst (λ m. AreExpected m (states_on p.stack) (map (λ s. s.0) ts.items)) h.machine
        (subst (λ w. AreExpected q.machine w (map (λ s. s.0) ts.items)) x.1 told.0.2),
  )) refl
  refused_call (Ok (Done root)) h told = absurd told.0
  refused_call (Ok More) h told = absurd told.0
  refused_call (Err e) h told =
      subst (λ d. IsCall p t q (Err d)) (sym told.1)
      (told_of answers.Refuses (Err OutOfMemory) (λ e. cc) h (λ x. tt) refl)

  -- what is told of a call is an answer of the call
  pub told_call : (answer : TokenOutcome) (r : Result step.Step ParseFault) → IsTake p t q answer
      → IsTold q t.at answer r
      → IsCall p t q r
  told_call answers.Reads r h told =
      subst (IsCall p t q) (sym told) (told_of answers.Reads (Ok More) (λ e. cc) h (λ x. x) refl)
  told_call answers.Accepts r h told = accepted r h told
  told_call answers.Refuses r h told = refused_call r h told
  told_call answers.FaultyTables r h told =
      subst (IsCall p t q) (sym told) (told_of answers.FaultyTables (Err FaultyTables) (λ e. cc) h (λ x. x) refl)
  told_call answers.Over r h told =
      subst (IsCall p t q) (sym told) (record {
        after_end = λ e. (refl, (h.after_end e).1);
        before_end = λ e. h.before_end e;
        machine = h.machine;
        over = h.over;
      })
  told_call answers.OutOfMemory r h told =
      subst (IsCall p t q) (sym told) (told_of answers.OutOfMemory (Err OutOfMemory) (λ e. cc) h (λ x. tt) refl)
