use Rattle.std.proofs.Common.{List, ℕ, refl, subst}
use Rattle.ly_parse.proofs.BeforeLemmas.{begins}
use Rattle.ly_parse.specs.Private.Answered.{IsSettled}
use Rattle.ly_parse.specs.Private.Before.{with_top}
use Rattle.ly_parse.proofs.running.Running.settle_above.Goals as goal

pub settle_behind-requires-clause-kept : goal.settle_behind-requires-clause-kept
settle_behind-requires-clause-kept g c =
    (begins c.self.inside.machine c.self.inside.forest c.self.inside.stack.items c.deref.result.now c.args.self.now
    c.self.inside.count c.self.inside.over c.begin_above.new.self c.args.first.0
    (with_top c.args.first.0 c.args.self.now.stack) c.self.view_is c.deref.ensures.value c.begin_above.ensures.kept
    c.begin_above.ensures.before refl).kept

pub returns-clause-settled : goal.returns-clause-settled
returns-clause-settled g c =
    subst (λ (states : List ℕ). IsSettled c.args.self.now.machine c.args.terminal.0 c.args.self.now.stack states
    c.settle_behind.new.self.stack c.settle_behind.new.before c.settle_behind.result)
    (begins c.self.inside.machine c.self.inside.forest c.self.inside.stack.items c.deref.result.now c.args.self.now
    c.self.inside.count c.self.inside.over c.begin_above.new.self c.args.first.0
    (with_top c.args.first.0 c.args.self.now.stack) c.self.view_is c.deref.ensures.value c.begin_above.ensures.kept
    c.begin_above.ensures.before refl).same c.settle_behind.ensures.settled
