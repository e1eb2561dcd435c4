-- The reductions before a token is settled.
use Rattle.std.proofs.Common.{◌≡◌, ℕ, ◌+◌, ◌*◌, ◌<◌, ◌≤◌, List, length, refl, sym, ap, ◌∙◌, arith, subst, Err, Ok}
use Rattle.std.specs.Prelude.{Bool, IsErrAnd, Result}
use Rattle.ly_pack.proofs.Runs.{reductions_fall, runs_end}
use Rattle.ly_pack.specs.Machine.{Machine, action_of, reduce}
use Rattle.ly_pack.specs.Steady.{rule_at, run_bound, EndsWithin}
use Rattle.ly_pack.specs.SteadyLaws.{reductions}
use Rattle.ly_parse.specs.Feeding.{Fed, Level, Turn, faulty, goes_on, reduce_by, settles, states_on, top_of}
use Rattle.ly_parse.specs.Parse.{Parse}
use Rattle.ly_parse.specs.Private.Stack.{at_once, behind, parse_from, stack_from, FailsByRule, FeedAlike, FeedAs}
use Rattle.ly_parse.specs.Private.Stack.{IsParse, LeadsByReductions}
use Rattle.ly_parse.specs.declared.fault.ParseFault.{ParseFault}
use Rattle.ly_parse.specs.declared.level.Level as code
use Rattle.ly_parse.proofs.FeedingLemmas.{feeds_alike, feeds_as, moves}
use Rattle.ly_parse.proofs.ShortcutLemmas.{still_ends}
use Rattle.ly_tree.specs.Forest.{Grown}

-- a run on a token ends
pub run_ends : (m : Machine) (f : Grown) (levels : List code.Level) (p : Parse) (count : ℕ) (over : Bool) (t : ℕ)
    → parse_from m f levels count over ≡ p → IsParse m f levels → t < p.machine.terminals
    → EndsWithin p.machine t (states_on p.stack) ((run_bound + 1) * length (states_on p.stack))
run_ends m f levels p count over t view h lt =
    subst (λ q. EndsWithin q.machine t (states_on q.stack) ((run_bound + 1) * length (states_on q.stack))) view
    (runs_end m run_bound t (states_on (stack_from f levels)) h.steady
    (subst (λ q. t < q.machine.terminals) (sym view) lt) h.edges)

-- A reduction that was made: the tables are those that were asked for the action, in the state on top, and those that
-- it was made by.
pub record IsMade (m : Machine) (t number : ℕ) (stack : List Level) (turn : Turn) : Type 0 where
  pub action : action_of m (top_of stack) t ≡ reduce number
  pub makes : reduce_by m number stack (rule_at m number) ≡ turn

-- A stack within the run on a token: a token becomes what it would have become at first, and the run ends.
pub record IsWithinRun (m : Machine) (t limit : ℕ) (first stack : List Level) : Type 0 where
  pub alike : FeedAlike m t stack first
  pub ends : EndsWithin m t (states_on stack) limit

-- so is the stack behind passes, and no more is left of the run
behind_passes : (m k : Machine) (t limit : ℕ) (first stack next : List Level) → k ≡ m → LeadsByReductions k t stack next
    → IsWithinRun m t limit first stack
    → IsWithinRun m t limit first next
    × (reductions m t limit (states_on next) ≤ reductions m t limit (states_on stack))
behind_passes m k t limit first stack next same led h =
    let here = subst (λ q. LeadsByReductions q t stack next) same led in
    let less = still_ends m t limit here.count (states_on stack) (states_on next) here.moves h.ends in (
      record {
        alike = λ token out is fed. h.alike token out is (here.alike token out is fed);
        ends = less.0;
      },
      less.1,
    )

-- and that behind a reduction, and less is left
behind_reduction : (m : Machine) (t number limit : ℕ) (first stack next : List Level)
    → IsMade m t number stack (goes_on next) → IsWithinRun m t limit first stack
    → IsWithinRun m t limit first next
    × (reductions m t limit (states_on next) < reductions m t limit (states_on stack))
behind_reduction m t number limit first stack next h run =
    let less = reductions_fall m t limit (states_on stack) (states_on next) run.ends
    (moves m t number stack next h.action h.makes) in (
      record {
        alike = λ token out same fed. run.alike token out same
            (feeds_alike m t number stack next h.action h.makes token out same fed);
        ends = less.0;
      },
      less.1,
    )

-- A reduction that is made on a stack, by tables that are those of the run, and what comes behind it.
module _ (m by : Machine) (t number limit : ℕ) (first stack : List Level) (same : by ≡ m)
    (action : action_of m (top_of stack) t ≡ reduce number) (run : IsWithinRun m t limit first stack) where
  made_by : (turn : Turn) → reduce_by by number stack (rule_at by number) ≡ turn → IsMade m t number stack turn
  made_by turn makes = record {
    action = action;
    makes = ap (λ k. reduce_by k number stack (rule_at k number)) (sym same) ∙ makes;
  }

  -- the token is settled by it
  settled_by : (out : Fed) → reduce_by by number stack (rule_at by number) ≡ settles out → FeedAs m t first out
  settled_by out makes token is_its =
      let made = made_by (settles out) makes in
      run.alike token out is_its (feeds_as m t number stack out made.action made.makes token is_its)

  module _ (next : List Level) (makes : reduce_by by number stack (rule_at by number) ≡ goes_on next) where
    reduced : IsWithinRun m t limit first next
        × (reductions m t limit (states_on next) < reductions m t limit (states_on stack))
    reduced = behind_reduction m t number limit first stack next (made_by (goes_on next) makes) run

    -- or what becomes of it on the stack that is left becomes of it on the first
    settled_behind : (k : Machine) (out : Fed) → k ≡ by → FeedAs k t next out → FeedAs m t first out
    settled_behind k out still fed token is_its =
        reduced.0.alike token out is_its
        (subst (λ q. FeedAs q t next out) (still ∙ same) fed token is_its)

    -- or passes follow: their last stack is within the run, and less is left
    pub behind_turn : (k : Machine) (last : List Level) → k ≡ by → LeadsByReductions k t next last
        → IsWithinRun m t limit first last
        × (reductions m t limit (states_on last) < reductions m t limit (states_on stack))
    behind_turn k last still led =
        let passed = behind_passes m k t limit first next last (still ∙ same) led reduced.0 in
        let less = passed.1 in
        let falls = reduced.1 in
        (passed.0, omega arith)

-- A reduction that fails, or passes behind it that do.
pub fails_by_rule : (m by : Machine) (t number limit : ℕ) (first stack : List Level) → by ≡ m
    → action_of m (top_of stack) t ≡ reduce number → IsWithinRun m t limit first stack → FailsByRule by number t stack
    → FeedAs m t first faulty
fails_by_rule m by t number limit first stack same action run (at_once makes) =
    settled_by m by t number limit first stack same action run faulty makes
fails_by_rule m by t number limit first stack same action run (behind next makes fed) =
    settled_behind m by t number limit first stack same action run next makes by faulty refl fed

-- the fault of a call is handed on
pub same_fault : {T : Type 0} (r : Result T ParseFault) (e d : ParseFault) → IsErrAnd r (λ x. x ≡ e) → r ≡ Err d
    → e ≡ d
same_fault (Ok x) e d h is = absurd h
same_fault (Err x) e d h is = let same : x ≡ d = cc in sym h ∙ same
