use Rattle.std.proofs.Common.{◌≡◌, ◌∙◌, ℕ, ◌<◌, ◌+◌, ◌*◌, All, ap, false, length, sym, subst, true}
use Rattle.ly_pack.proofs.Runs.{reductions_fall, runs_end}
use Rattle.ly_pack.specs.Machine.{reduce, states_of}
use Rattle.ly_pack.specs.Steady.{EndsWithin, goes_on, move, run_bound}
use Rattle.ly_pack.proofs.LegalLemmas.{legal_reduction}
use Rattle.ly_parse.specs.Private.Copied.{IsMade}
use Rattle.ly_parse.specs.Private.LastRun.{AreAlike, IsShared}
use Rattle.ly_parse.specs.Expected.{IsExpected}
use Rattle.ly_parse.proofs.ExpectedRunLemmas.{move_by}
use Rattle.ly_parse.proofs.LastRunLemmas.{back_over, forth_over, shared_accept, shared_error, shared_fault}
use Rattle.ly_parse.proofs.LastRunLemmas.{shared_shift}
use Rattle.ly_parse.proofs.last_run.run.Goals as goal

pub loop-copied-init : goal.loop-copied-init
loop-copied-init g c =
    let m = c.args.machine.now in
    let t = c.args.terminal.0 in
    let whole = c.args.copied.now.whole in
    let new = c.restart.new.self in
    let now : new.now ≡ whole = ap (λ x. x.now) c.restart.ensures in
    record {
      whole = ap (λ x. x.whole) c.restart.ensures;
      room = ap (λ x. x.below) c.clear.ensures;
      states = subst (All (λ s. s < states_of m)) (sym now) c.requires.states;
      ends = subst (λ w. EndsWithin m t w ((run_bound + 1) * length whole)) (sym now)
          (runs_end m run_bound t whole c.requires.steady c.requires.terminal c.requires.stack);
      back = λ u alike. subst (IsExpected m u) now;
      forth = λ u alike. subst (IsExpected m u) (sym now);
    }

pub returns-in-Shift-clause-shared : goal.returns-in-Shift-clause-shared
returns-in-Shift-clause-shared g c =
    let m = c.args.machine.now in
    let t = c.args.terminal.0 in
    let whole = c.args.copied.now.whole in
    let was = c.loop-copied.invariant in
    subst (λ met. IsShared m t whole met true) (sym (ap (λ x. x.members) c.insert.ensures.added))
    (shared_shift m t whole c.loop-copied.copied.now c.loop-copied.met.members c.top-top.result.0 c.top-top.ensures.some
    c.top-top.ensures.top was.back was.forth c.in-Shift.field-0.0 c.in-Shift.ensures)

pub returns-in-Accept-clause-shared : goal.returns-in-Accept-clause-shared
returns-in-Accept-clause-shared g c =
    let m = c.args.machine.now in
    let t = c.args.terminal.0 in
    let whole = c.args.copied.now.whole in
    let was = c.loop-copied.invariant in
    subst (λ met. IsShared m t whole met c.has_term.result) (sym (ap (λ x. x.members) c.insert.ensures.added))
    (shared_accept m t whole c.loop-copied.copied.now c.loop-copied.met.members c.top-top.result.0
    c.top-top.ensures.some c.top-top.ensures.top was.back was.forth c.in-Accept.ensures c.has_term.result
    c.has_term.ensures)

pub returns-in-Error-clause-shared : goal.returns-in-Error-clause-shared
returns-in-Error-clause-shared g c =
    let m = c.args.machine.now in
    let t = c.args.terminal.0 in
    let whole = c.args.copied.now.whole in
    let was = c.loop-copied.invariant in
    subst (λ met. IsShared m t whole met false) (sym (ap (λ x. x.members) c.insert.ensures.added))
    (shared_error m t whole c.loop-copied.copied.now c.loop-copied.met.members c.top-top.result.0 c.top-top.ensures.some
    c.top-top.ensures.top was.back was.forth c.in-Error.ensures)

pub reduce-requires-clause-rule : goal.reduce-requires-clause-rule
reduce-requires-clause-rule g c = legal_reduction c.args.machine.now c.top-top.result.0 c.args.terminal.0
    c.in-Reduce.rule.0 c.requires.machine (sym c.in-Reduce.ensures)

pub returns-then-not-branch-clause-shared : goal.returns-then-not-branch-clause-shared
returns-then-not-branch-clause-shared g c =
    let m = c.args.machine.now in
    let t = c.args.terminal.0 in
    let whole = c.args.copied.now.whole in
    let now = c.loop-copied.copied.now in
    let was = c.loop-copied.invariant in
    let stop = subst (λ b. IsMade m c.in-Reduce.rule.0 now b c.reduce.new.self.now) c.if-not-branch.true
    c.in_ok-reduce-in-Reduce.ensures.made in
    subst (λ met. IsShared m t whole met false) (sym (ap (λ x. x.members) c.insert.ensures.added))
    (shared_fault m t whole now c.loop-copied.met.members c.top-top.result.0 c.top-top.ensures.some
    c.top-top.ensures.top was.back was.forth c.in-Reduce.rule.0 c.in-Reduce.ensures stop.0 stop.1 stop.2)

pub loop-copied-smaller : goal.loop-copied-smaller
loop-copied-smaller g c =
    let m = c.args.machine.now in
    let now = c.loop-copied.copied.now in
    let next = c.reduce.new.self.now in
    let on = subst (λ b. IsMade m c.in-Reduce.rule.0 now b next) c.if-not-branch.false
    c.in_ok-reduce-in-Reduce.ensures.made in
    (reductions_fall m c.args.terminal.0 ((run_bound + 1) * length c.args.copied.now.whole) now next
    c.loop-copied.invariant.ends
    (move_by m c.args.terminal.0 c.top-top.result.0 now (reduce c.in-Reduce.rule.0) c.top-top.ensures.some
    c.top-top.ensures.top c.in-Reduce.ensures ∙ on)).1

pub loop-copied-preserved : goal.loop-copied-preserved
loop-copied-preserved g c =
    let m = c.args.machine.now in
    let t = c.args.terminal.0 in
    let whole = c.args.copied.now.whole in
    let now = c.loop-copied.copied.now in
    let next = c.reduce.new.self.now in
    let rule = c.in-Reduce.rule.0 in
    let was = c.loop-copied.invariant in
    let on = subst (λ b. IsMade m rule now b next) c.if-not-branch.false c.in_ok-reduce-in-Reduce.ensures.made in
    let step : move m t now ≡ goes_on next = move_by m t c.top-top.result.0 now (reduce rule) c.top-top.ensures.some
    c.top-top.ensures.top c.in-Reduce.ensures ∙ on in
    let members = sym (ap (λ x. x.members) c.insert.ensures.added) in
    record {
      whole = c.in_ok-reduce-in-Reduce.ensures.whole ∙ was.whole;
      room = ap (λ x. x.below) c.insert.ensures.added ∙ was.room;
      states = c.in_ok-reduce-in-Reduce.ensures.states;
      ends = (reductions_fall m t ((run_bound + 1) * length whole) now next was.ends step).0;
      back = subst (λ met. (u : ℕ) → AreAlike m t u met → IsExpected m u next → IsExpected m u whole) members
          (back_over m t whole now c.loop-copied.met.members c.top-top.result.0 c.top-top.ensures.some
          c.top-top.ensures.top was.back was.forth rule next c.in-Reduce.ensures on);
      forth = subst (λ met. (u : ℕ) → AreAlike m t u met → IsExpected m u whole → IsExpected m u next) members
          (forth_over m t whole now c.loop-copied.met.members c.top-top.result.0 c.top-top.ensures.some
          c.top-top.ensures.top was.back was.forth rule next c.in-Reduce.ensures on);
    }
