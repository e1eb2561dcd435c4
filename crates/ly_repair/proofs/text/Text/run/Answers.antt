use Rattle.std.proofs.Common.{◌≡◌, ◌∙◌, ◌<◌, ◌+◌, ◌*◌, ◌++◌, ap, false, length, refl, subst, sym, true}
use Rattle.ly_pack.proofs.Runs.{reductions_fall, runs_end}
use Rattle.ly_pack.specs.Machine.{accept, error, reduce}
use Rattle.ly_pack.specs.Steady.{EndsWithin, accepts, ends, goes_on, move, refuses, run_bound}
use Rattle.ly_pack.proofs.LegalLemmas.{legal_reduction}
use Rattle.ly_repair.specs.Private.Stacks.{IsMade, now_of, stack_of}
use Rattle.ly_repair.specs.Values.{upward}
use Rattle.ly_repair.specs.Private.Text.{IsOutcome, IsStackAt}
use Rattle.ly_repair.specs.Runs.{Accepts, IsStackOf, Reads}
use Rattle.ly_repair.specs.declared.text.RunEnd.TheVariants as run
use Rattle.ly_repair.proofs.RunLemmas.{accepted_here, accepts_bare, back_accepts, back_read, ends_unaccepted}
use Rattle.ly_repair.proofs.RunLemmas.{fault_not_accepted, fault_not_read, forth_accepts, forth_read, move_by, moved}
use Rattle.ly_repair.proofs.RunLemmas.{read_here, stops_here}
use Rattle.ly_repair.proofs.text.Text.run.Goals as goal

pub loop-state-init : goal.loop-state-init
loop-state-init g c =
    let m = c.self.inside.machine.now in
    let t = c.args.terminal.0 in
    let stacks = c.args.runs.now.stacks in
    let whole = stack_of stacks c.args.at.0 in
    let u = c.new-stack.result in
    let same : c.args.self.now.machine ≡ m = sym (ap (λ x. x.machine) c.self.view_is) in
    let at = subst (λ w. IsStackAt w stacks c.args.at.0) same c.requires.at in
    let is : now_of stacks u ≡ whole = ap (λ a. upward a ++ stack_of stacks u.lower.0) c.new-stack.ensures.above
    ∙ ap (λ n. stack_of stacks n.0) c.new-stack.ensures.lower in
    record {
      lower = subst (λ n. n.0 < length stacks) (sym c.new-stack.ensures.lower) at.within;
      stacks = refl;
      is = subst (IsStackOf m) (sym is) at.is;
      ends = subst (λ w. EndsWithin m t w ((run_bound + 1) * length whole)) (sym is)
          (runs_end m run_bound t whole c.self.invariant.steady (subst (λ w. t < w.terminals) same c.requires.terminal)
          at.is.edges);
      back = λ next. subst (λ w. Reads m t w next) is;
      forth = λ next. subst (λ w. Reads m t w next) (sym is);
      back_accepts = λ zero. subst (Accepts m) is;
      forth_accepts = λ zero. subst (Accepts m) (sym is);
    }

pub returns-in-Shift-clause-outcome : goal.returns-in-Shift-clause-outcome
returns-in-Shift-clause-outcome g c =
    let m = c.self.inside.machine.now in
    let t = c.args.terminal.0 in
    let whole = stack_of c.args.runs.now.stacks c.args.at.0 in
    let was = c.loop-state.invariant in
    let now = now_of c.loop-state.runs.stacks c.loop-state.stack in
    subst (λ w. IsOutcome w t whole c.finish.new.stacks (run.Reads c.in_ok-next-in-Shift.next))
    (ap (λ x. x.machine) c.self.view_is)
    (read_here m t whole now c.in-Shift.state.0 c.top-top.result.0 c.finish.new.stacks c.in_ok-next-in-Shift.next.0
    c.self.invariant.machine was.is c.top-top.ensures.some c.top-top.ensures.top c.in-Shift.ensures was.back
    c.in_ok-next-in-Shift.ensures.within c.in_ok-next-in-Shift.ensures.finished)

pub returns-then-has_term-clause-outcome : goal.returns-then-has_term-clause-outcome
returns-then-has_term-clause-outcome g c =
    let m = c.self.inside.machine.now in
    let t = c.args.terminal.0 in
    let whole = stack_of c.args.runs.now.stacks c.args.at.0 in
    let was = c.loop-state.invariant in
    let now = now_of c.loop-state.runs.stacks c.loop-state.stack in
    subst (λ w. IsOutcome w t whole c.loop-state.runs.stacks run.Accepts)
    (ap (λ x. x.machine) c.self.view_is)
    (accepted_here m t whole now c.top-top.result.0 c.self.invariant.machine c.top-top.ensures.some
    c.top-top.ensures.top c.in-Accept.ensures was.back_accepts (c.has_term.ensures.0 c.if-has_term.true))

pub returns-in-Accept-clause-outcome : goal.returns-in-Accept-clause-outcome
returns-in-Accept-clause-outcome g c =
    let m = c.self.inside.machine.now in
    let t = c.args.terminal.0 in
    let whole = stack_of c.args.runs.now.stacks c.args.at.0 in
    let was = c.loop-state.invariant in
    let now = now_of c.loop-state.runs.stacks c.loop-state.stack in
    let e = move_by m t c.top-top.result.0 now accept c.top-top.ensures.some c.top-top.ensures.top
    c.in-Accept.ensures in
    subst (λ w. IsOutcome w t whole c.loop-state.runs.stacks run.Stops)
    (ap (λ x. x.machine) c.self.view_is)
    (stops_here m t whole now accepts e (λ s is. absurd (cc))
    (λ zero. accepts_bare m t now zero e (λ more. let off : false ≡ true = sym c.if-has_term.false
    ∙ c.has_term.ensures.1 more in absurd (cc))) was.forth was.forth_accepts)

pub returns-in-Error-clause-outcome : goal.returns-in-Error-clause-outcome
returns-in-Error-clause-outcome g c =
    let m = c.self.inside.machine.now in
    let t = c.args.terminal.0 in
    let whole = stack_of c.args.runs.now.stacks c.args.at.0 in
    let was = c.loop-state.invariant in
    let now = now_of c.loop-state.runs.stacks c.loop-state.stack in
    let e = move_by m t c.top-top.result.0 now error c.top-top.ensures.some c.top-top.ensures.top
    c.in-Error.ensures in
    subst (λ w. IsOutcome w t whole c.loop-state.runs.stacks run.Stops)
    (ap (λ x. x.machine) c.self.view_is)
    (stops_here m t whole now refuses e (λ s is. absurd (cc))
    (λ zero. ends_unaccepted m t now refuses zero e (λ is. absurd (cc))) was.forth was.forth_accepts)

pub reduce-requires-clause-rule : goal.reduce-requires-clause-rule
reduce-requires-clause-rule g c = legal_reduction c.self.inside.machine.now c.top-top.result.0 c.args.terminal.0
    c.in-Reduce.rule.0 c.self.invariant.machine (sym c.in-Reduce.ensures)

pub returns-then-not-branch-clause-outcome : goal.returns-then-not-branch-clause-outcome
returns-then-not-branch-clause-outcome g c =
    let m = c.self.inside.machine.now in
    let t = c.args.terminal.0 in
    let whole = stack_of c.args.runs.now.stacks c.args.at.0 in
    let was = c.loop-state.invariant in
    let now = now_of c.loop-state.runs.stacks c.loop-state.stack in
    let stop = subst (λ b. IsMade m c.in-Reduce.rule.0 now b (now_of c.loop-state.runs.stacks c.reduce.new.self))
    c.if-not-branch.true c.in_ok-reduce-in-Reduce.ensures.made in
    let e : move m t now ≡ ends stop.0 = move_by m t c.top-top.result.0 now (reduce c.in-Reduce.rule.0)
    c.top-top.ensures.some c.top-top.ensures.top c.in-Reduce.ensures ∙ stop.1 in
    subst (λ w. IsOutcome w t whole c.loop-state.runs.stacks run.Stops)
    (ap (λ x. x.machine) c.self.view_is)
    (stops_here m t whole now stop.0 e (fault_not_read m stop.0 stop.2)
    (λ zero. ends_unaccepted m t now stop.0 zero e (fault_not_accepted m stop.0 stop.2)) was.forth was.forth_accepts)

pub loop-state-smaller : goal.loop-state-smaller
loop-state-smaller g c =
    let m = c.self.inside.machine.now in
    let t = c.args.terminal.0 in
    let whole = stack_of c.args.runs.now.stacks c.args.at.0 in
    let now = now_of c.loop-state.runs.stacks c.loop-state.stack in
    let next = now_of c.loop-state.runs.stacks c.reduce.new.self in
    let on = subst (λ b. IsMade m c.in-Reduce.rule.0 now b next) c.if-not-branch.false
    c.in_ok-reduce-in-Reduce.ensures.made in
    (reductions_fall m t ((run_bound + 1) * length whole) now next c.loop-state.invariant.ends
    (move_by m t c.top-top.result.0 now (reduce c.in-Reduce.rule.0) c.top-top.ensures.some c.top-top.ensures.top
    c.in-Reduce.ensures ∙ on)).1

pub loop-state-preserved : goal.loop-state-preserved
loop-state-preserved g c =
    let m = c.self.inside.machine.now in
    let t = c.args.terminal.0 in
    let whole = stack_of c.args.runs.now.stacks c.args.at.0 in
    let was = c.loop-state.invariant in
    let now = now_of c.loop-state.runs.stacks c.loop-state.stack in
    let next = now_of c.loop-state.runs.stacks c.reduce.new.self in
    let on = subst (λ b. IsMade m c.in-Reduce.rule.0 now b next) c.if-not-branch.false
    c.in_ok-reduce-in-Reduce.ensures.made in
    let step : move m t now ≡ goes_on next = move_by m t c.top-top.result.0 now (reduce c.in-Reduce.rule.0)
    c.top-top.ensures.some c.top-top.ensures.top c.in-Reduce.ensures ∙ on in
    record {
      lower = c.in_ok-reduce-in-Reduce.ensures.lower;
      stacks = was.stacks;
      is = moved m t now next c.self.invariant.machine was.is step;
      ends = (reductions_fall m t ((run_bound + 1) * length whole) now next was.ends step).0;
      back = λ last r. was.back last (back_read m t now next last step r);
      forth = λ last r. forth_read m t now next last step (was.forth last r);
      back_accepts = λ zero a. was.back_accepts zero (back_accepts m t now next zero step a);
      forth_accepts = λ zero a. forth_accepts m t now next zero step (was.forth_accepts zero a);
    }
