use Rattle.std.proofs.Common.{◌∙◌, refl, sym}
use Rattle.ly_pack.specs.Machine.{reduce}
use Rattle.ly_pack.specs.Values.{action_from}
use Rattle.ly_parse.proofs.FeedingLemmas.{legal}
use Rattle.ly_parse.proofs.ShortcutLemmas.{goes_further, is_pass_there, sets_out}
use Rattle.ly_parse.proofs.shortcut.Shortcut+Situation.find.Goals as goal

pub loop-left-init : goal.loop-left-init
loop-left-init g c = sets_out c.args.machine.now c.args.from c.requires.steady c.requires.from

pub action-action-requires-clause-state : goal.action-action-requires-clause-state
action-action-requires-clause-state g c = c.loop-left.invariant.known

pub passed_to-requires-clause-legal : goal.passed_to-requires-clause-legal
passed_to-requires-clause-legal g c p e =
    legal c.args.machine.now c.loop-left.state.0 c.args.from.terminal.0 (reduce p) c.requires.machine
    (sym c.action-action.ensures ∙ e)

pub returns-in_default : goal.returns-in_default
returns-in_default g c = (refl, record { passes = c.loop-left.invariant.passes; acts = c.action-action.ensures })

pub returns-in_default-goto : goal.returns-in_default-goto
returns-in_default-goto g c = record {
  state = c.loop-left.state.0;
  left = c.in-Some.left.0;
  passes = c.loop-left.invariant.passes;
  action = is_pass_there c.args.machine.now c.args.from c.loop-left.state.0 c.in-Some.left.0
      (action_from c.action-action.result) c.action-action.ensures c.in-Some.ensures.pass;
  missing = sym c.in_default-goto.ensures;
}

pub loop-left-smaller : goal.loop-left-smaller
loop-left-smaller g c =
    (goes_further c.args.machine.now c.args.from c.loop-left.state.0 c.in-Some.left.0 c.in-Some-goto.next.0
    c.requires.machine c.loop-left.invariant
    (is_pass_there c.args.machine.now c.args.from c.loop-left.state.0 c.in-Some.left.0
    (action_from c.action-action.result) c.action-action.ensures c.in-Some.ensures.pass)
    (sym c.in-Some-goto.ensures)).1

pub loop-left-preserved : goal.loop-left-preserved
loop-left-preserved g c =
    (goes_further c.args.machine.now c.args.from c.loop-left.state.0 c.in-Some.left.0 c.in-Some-goto.next.0
    c.requires.machine c.loop-left.invariant
    (is_pass_there c.args.machine.now c.args.from c.loop-left.state.0 c.in-Some.left.0
    (action_from c.action-action.result) c.action-action.ensures c.in-Some.ensures.pass)
    (sym c.in-Some-goto.ensures)).0
