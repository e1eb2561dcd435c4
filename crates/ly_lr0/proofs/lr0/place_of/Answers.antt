use Rattle.std.proofs.Common.{◌<◌, ◌+◌, ◌-◌, ◌/◌, arith, length, refl}
use Rattle.ly_join.specs.Grammar.{symbol_of}
use Rattle.ly_lr0.proofs.GotoLemmas.{before_to, behind_from}
use Rattle.ly_lr0.proofs.lr0.place_of.Goals as goal

pub loop-low-preserved-then-comes_before : goal.loop-low-preserved-then-comes_before
loop-low-preserved-then-comes_before c =
    let ts = c.args.transitions.now in
    let X = symbol_of c.args.symbol in
    let m = c.loop-low.low + (c.loop-low.high - c.loop-low.low) / 2 in
    let test = c.loop-low-test.true in
    let inv = c.loop-low.invariant in
    let within = inv.within in
    let inside : m < length ts = omega arith in
    record {
      ends = omega arith;
      within = within;
      before = before_to ts c.requires X m _ inside (c.if-comes_before.ensures.0 refl);
      behind = inv.behind;
    }

pub loop-low-preserved : goal.loop-low-preserved
loop-low-preserved c =
    let ts = c.args.transitions.now in
    let X = symbol_of c.args.symbol in
    let m = c.loop-low.low + (c.loop-low.high - c.loop-low.low) / 2 in
    let test = c.loop-low-test.true in
    let inv = c.loop-low.invariant in
    let ends = inv.ends in
    let within = inv.within in
    let inside : m < length ts = omega arith in
    record {
      ends = omega arith;
      within = omega arith;
      before = inv.before;
      behind = behind_from ts c.requires X m _ inside
          (λ less. let true_is = c.if-comes_before.ensures.1 less in cc);
    }

pub returns : goal.returns
returns c =
    let inv = c.loop-low.invariant in
    let test = c.loop-low-test.false in
    let ends = inv.ends in
    let within = inv.within in
    record {
      within = omega arith;
      before = inv.before;
      behind = λ k d l. inv.behind k d (omega (arith, l));
    }
