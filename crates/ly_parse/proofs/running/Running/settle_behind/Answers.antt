use Rattle.std.proofs.Common.{◌≡◌, ◌∙◌, ◌+◌, ◌*◌, Err, ap, length, refl, subst, sym}
use Rattle.ly_pack.specs.Machine.{action_of, IsLegal, IsRuleNumber}
use Rattle.ly_pack.specs.Steady.{run_bound}
use Rattle.ly_pack.specs.Values.{action_from}
use Rattle.ly_parse.specs.Feeding.{states_on, top_of}
use Rattle.ly_parse.specs.Private.Before.{before_on, IsOpen}
use Rattle.ly_parse.proofs.SettleLemmas.{behind_turn, fails_by_rule, run_ends}
use Rattle.ly_parse.proofs.running.Running.settle_behind.Goals as goal

pub loop-next-init : goal.loop-next-init
loop-next-init g c = record {
  run = record {
    alike = λ token out same fed. fed;
    ends = run_ends c.self.inside.machine c.self.inside.forest c.self.inside.stack.items c.args.self.now
        c.self.inside.count c.self.inside.over c.args.terminal.0 c.self.view_is c.self.invariant.0
        c.requires.terminal;
  };
  machine = refl;
  action = c.requires.action;
  legal = c.requires.legal;
  count = refl;
  over = refl;
  noted = λ opens. record { kept = c.requires.kept; same = refl };
}

pub loop-next-smaller : goal.loop-next-smaller
loop-next-smaller g c =
    (behind_turn c.args.self.now.machine c.loop-next.self.machine c.args.terminal.0 c.in-Reduce.number.0
    ((run_bound + 1) * length (states_on c.args.self.now.stack)) c.args.self.now.stack c.loop-next.self.stack
    c.loop-next.invariant.machine (sym c.loop-next.invariant.action ∙ ap action_from c.in-Reduce.is)
    c.loop-next.invariant.run c.in-Ok.ensures.leads.next c.in-Ok.ensures.leads.makes c.loop-next.self.machine
    c.reduce.new.self.stack refl c.in-Ok.ensures.leads.leads).1

pub loop-next-preserved : goal.loop-next-preserved
loop-next-preserved g c = record {
  run = (behind_turn c.args.self.now.machine c.loop-next.self.machine c.args.terminal.0 c.in-Reduce.number.0
      ((run_bound + 1) * length (states_on c.args.self.now.stack)) c.args.self.now.stack c.loop-next.self.stack
      c.loop-next.invariant.machine (sym c.loop-next.invariant.action ∙ ap action_from c.in-Reduce.is)
      c.loop-next.invariant.run c.in-Ok.ensures.leads.next c.in-Ok.ensures.leads.makes c.loop-next.self.machine
      c.reduce.new.self.stack refl c.in-Ok.ensures.leads.leads).0;
  machine = c.in-Ok.ensures.machine ∙ c.loop-next.invariant.machine;
  action = subst (λ k. action_from c.in-Ok.action ≡ action_of k (top_of c.reduce.new.self.stack) c.args.terminal.0)
      c.loop-next.invariant.machine c.in-Ok.ensures.action;
  legal = subst (λ k. IsLegal k c.args.terminal.0 (action_from c.in-Ok.action)) c.loop-next.invariant.machine
      c.in-Ok.ensures.legal;
  count = c.in-Ok.ensures.count ∙ c.loop-next.invariant.count;
  over = c.in-Ok.ensures.over ∙ c.loop-next.invariant.over;
  noted = λ opens. c.in-Ok.ensures.noted opens (before_on c.args.self.now.stack c.args.before.now)
      (c.loop-next.invariant.noted (subst (λ a. IsOpen (action_from a)) (sym c.in-Reduce.is) tt));
}

pub reduce-requires-clause-rule : goal.reduce-requires-clause-rule
reduce-requires-clause-rule g c =
    subst (λ k. IsRuleNumber k c.in-Reduce.number.0) (sym c.loop-next.invariant.machine)
    (subst (λ a. IsLegal c.args.self.now.machine c.args.terminal.0 (action_from a)) c.in-Reduce.is
    c.loop-next.invariant.legal)

pub reduce-requires-clause-kept : goal.reduce-requires-clause-kept
reduce-requires-clause-kept g c =
    (c.loop-next.invariant.noted (subst (λ a. IsOpen (action_from a)) (sym c.in-Reduce.is) tt)).kept

pub returns-in-Shift-clause-settled : goal.returns-in-Shift-clause-settled
returns-in-Shift-clause-settled g c = (
  c.loop-next.invariant.run.alike,
  sym c.loop-next.invariant.action ∙ ap action_from c.in-Shift.is,
)

pub returns-in-Accept-clause-settled : goal.returns-in-Accept-clause-settled
returns-in-Accept-clause-settled g c = (
  c.loop-next.invariant.run.alike,
  sym c.loop-next.invariant.action ∙ ap action_from c.in-Accept.is,
)

pub returns-in-Error-clause-settled : goal.returns-in-Error-clause-settled
returns-in-Error-clause-settled g c = (
  c.loop-next.invariant.run.alike,
  sym c.loop-next.invariant.action ∙ ap action_from c.in-Error.is,
  c.loop-next.invariant.noted (subst (λ a. IsOpen (action_from a)) (sym c.in-Error.is) tt),
)

pub returns-in-Err-FaultyTables-clause-settled : goal.returns-in-Err-FaultyTables-clause-settled
returns-in-Err-FaultyTables-clause-settled g c =
    fails_by_rule c.args.self.now.machine c.loop-next.self.machine c.args.terminal.0 c.in-Reduce.number.0
    ((run_bound + 1) * length (states_on c.args.self.now.stack)) c.args.self.now.stack c.loop-next.self.stack
    c.loop-next.invariant.machine (sym c.loop-next.invariant.action ∙ ap action_from c.in-Reduce.is)
    c.loop-next.invariant.run
    (c.in-Err-FaultyTables.ensures.faulty (ap Err c.in-Err-FaultyTables.field-0-is))
