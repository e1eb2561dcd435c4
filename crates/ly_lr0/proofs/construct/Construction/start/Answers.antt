use Rattle.std.proofs.Common.{rules, ◌<◌, ap, arith, length, subst, sym}
use Rattle.ly_lr0.specs.Private.Closing.{AreByLeft}
use Rattle.ly_lr0.specs.Private.Nonkernel.{AreNonkernel}
use Rattle.ly_lr0.proofs.construct.Construction.start.Goals as goal

pub returns-clause-made : goal.returns-clause-made
returns-clause-made c =
    let R = c.args.reduced.now in
    let started = c.in_ok-start.ensures in
    let G = c.in_ok-start.field-0.reduced.now.grammar in
    let none = c.new-2.ensures G in
    let room : R.grammar.accept < c.in_ok-entered.entered.below = search rules in
    record {
      found = started.found;
      by_left = subst (λ r. AreByLeft r.grammar c.in_ok-by_left.by_left) (sym started.reduced) c.in_ok-by_left.ensures;
      room = subst (λ r. r.grammar.accept < c.in_ok-entered.entered.below) (sym started.reduced) room;
      nonkernel = subst (λ es. AreNonkernel G es c.new-2.result) (sym none.of_these) none;
      before = record {
        none = λ _. c.new-4.ensures.items;
        last = λ s e. absurd (omega (arith, e, ap length started.rows));
      };
    }
