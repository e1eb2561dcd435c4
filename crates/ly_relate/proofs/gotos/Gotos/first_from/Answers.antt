use Rattle.std.proofs.Common.{◌<◌, ◌+◌, ◌-◌, ◌/◌, arith, ap}
use Rattle.ly_relate.specs.Values.{goto_from}
use Rattle.ly_relate.proofs.GotoLemmas.{at_number, less_to, not_less_from}
use Rattle.ly_relate.proofs.gotos.Gotos.first_from.Goals as goal

pub loop-low-preserved-then-index-symbol : goal.loop-low-preserved-then-index-symbol
loop-low-preserved-then-index-symbol c =
    let gotos = c.args.self.now.gotos in
    let k = c.loop-low.low + (c.loop-low.high - c.loop-low.low) / 2 in
    let g = c.index.result.now in
    let test = c.loop-low-test.true in
    let start = c.loop-low.invariant.start in
    let end = c.loop-low.invariant.end in
    let lt : k < c.args.range.end = omega (arith, test, end) in
    let at = at_number c.args.self.now c.self.inside.gotos.items k c.args.range.end g (ap (λ n. n.gotos) c.self.view_is)
    c.requires.within lt c.index.ensures in
    record {
      start = omega (arith, start);
      between = omega (arith, test);
      end = end;
      less = less_to gotos c.args.range.start c.args.range.end k c.args.symbol.0
          (goto_from g) c.requires.one_state lt at
          c.if-index-symbol.true;
      not_less = c.loop-low.invariant.not_less;
    }

pub loop-low-preserved : goal.loop-low-preserved
loop-low-preserved c =
    let gotos = c.args.self.now.gotos in
    let k = c.loop-low.low + (c.loop-low.high - c.loop-low.low) / 2 in
    let g = c.index.result.now in
    let test = c.loop-low-test.true in
    let start = c.loop-low.invariant.start in
    let end = c.loop-low.invariant.end in
    let lt : k < c.args.range.end = omega (arith, test, end) in
    let at = at_number c.args.self.now c.self.inside.gotos.items k c.args.range.end g (ap (λ n. n.gotos) c.self.view_is)
    c.requires.within lt c.index.ensures in
    record {
      start = start;
      between = omega arith;
      end = omega (arith, test, end);
      less = c.loop-low.invariant.less;
      not_less = not_less_from gotos c.args.range.start c.args.range.end k c.args.symbol.0 (goto_from g)
          c.requires.one_state (omega (arith, start)) at c.if-index-symbol.false;
    }
