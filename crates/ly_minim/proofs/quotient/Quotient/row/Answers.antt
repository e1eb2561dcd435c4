use Rattle.std.proofs.Common.{◌<◌, ◌∙◌, ap, arith, sym}
use Rattle.ly_subset.specs.Automaton.{next_by_class}
use Rattle.ly_minim.proofs.QuotientLemmas.{entered_count, entered_longer, entered_row, kept_pick}
use Rattle.ly_minim.proofs.quotient.Quotient.row.Goals as goal

pub loop-class-preserved : goal.loop-class-preserved
loop-class-preserved c =
    let A = c.args.dfa.now in
    let of = c.args.blocks.now.of.items in
    let was = c.loop-class.invariant in
    let old = c.loop-class.self in
    let new = c.enter.new.self in
    let entered = c.in_ok-enter.ensures.entered in
    let class : c.loop-class.class < A.classes = (let all = c.classes-class-end.ensures in let less =
    c.loop-class-test.true
    in omega arith) in
    let count = entered_count A of old new c.next.result was.quotient entered in
    let long = entered_longer A of old new c.next.result was.quotient entered in
    record {
      quotient = entered_row A of old new c.next.result was.quotient entered c.args.state c.loop-class.class
          was.state class
          was.at (c.next.ensures.state ∙ ap (λ s. next_by_class A s c.loop-class.class) was.from);
      numbered = c.in_ok-enter.ensures.numbered;
      state = let state = was.state in omega (arith, long);
      from = was.from ∙ sym (kept_pick A of old new c.next.result was.quotient entered c.args.state was.state);
      at = let at = was.at in omega (arith, count);
      longer = let longer = was.longer in omega (arith, long);
    }
