use Rattle.ly_parse.proofs.TakeLemmas.{accepts_token, has_states, reads, refuses_token}
use Rattle.ly_parse.proofs.running.Running.come.Goals as goal

pub returns-in-Ok-clause-comes : goal.returns-in-Ok-clause-comes
returns-in-Ok-clause-comes g c =
    reads c.args.self.now (record {
      terminal = c.args.token.now.terminal.0;
      at = c.args.token.now.at;
      bytes = c.args.token.now.text;
    }) c.args.before.now c.settle.new.self c.in-Reads.ensures.settled.0
    c.in-Reads.ensures.machine c.in-Reads.ensures.count c.in-Reads.state.0 c.read.new.self c.settle.new.before
    c.in-Reads.ensures.settled.1 c.in-Ok.ensures.stack c.in-Ok.ensures.count

pub returns-in-Accepts-clause-comes : goal.returns-in-Accepts-clause-comes
returns-in-Accepts-clause-comes g c =
    accepts_token c.args.self.now (record {
      terminal = c.args.token.now.terminal.0;
      at = c.args.token.now.at;
      bytes = c.args.token.now.text;
    }) c.args.before.now c.settle.new.self
    c.in-Accepts.ensures.settled.0 c.in-Accepts.ensures.machine c.in-Accepts.ensures.count c.acceptance.result
    c.settle.new.before c.in-Accepts.ensures.settled.1 c.acceptance.ensures

pub returns-in-Refuses-clause-comes : goal.returns-in-Refuses-clause-comes
returns-in-Refuses-clause-comes g c =
    refuses_token c.args.self.now (record {
      terminal = c.args.token.now.terminal.0;
      at = c.args.token.now.at;
      bytes = c.args.token.now.text;
    }) c.args.before.now c.settle.new.self c.in-Refuses.ensures.settled.0
    c.in-Refuses.ensures.machine c.in-Refuses.ensures.count c.settle.new.before
    (has_states c.self.inside.machine c.self.inside.forest c.self.inside.stack.items c.args.self.now
    c.self.inside.count c.self.inside.over c.self.view_is c.self.invariant.0) c.in-Refuses.ensures.settled.1
    c.in-Refuses.ensures.settled.2
