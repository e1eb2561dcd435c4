use Rattle.std.proofs.Common.{arith, drop, length-drop, sym, take, take-append-drop}
use Rattle.ly_base.proofs.EscapeLemmas.{whole_slice}
use Rattle.ly_ere.specs.Patterns.{IsBehind}
use Rattle.ly_ere.proofs.ExtentLemmas.{none_taken, one_taken, stops_there}
use Rattle.ly_ere.proofs.definitions.expression_length.Goals as goal

pub loop-length-init : goal.loop-length-init
loop-length-init c = record {
  within = omega arith;
  ahead = λ n ws l are b. record {
    text = take n c.args.line.now;
    elements = ws;
    is = sym (take-append-drop n c.args.line.now);
    are = are;
  };
}

pub loop-length-preserved : goal.loop-length-preserved
loop-length-preserved c =
    let line = c.args.line.now in
    let at = c.loop-length.at in
    let goes_on : IsBehind (drop at line) → ⊥ = rw whole_slice at c.loop-length-test.ensures in
    let next = rw whole_slice at c.in-Ok.ensures.element in
    record {
      within = omega (arith, c.loop-length.invariant.within, next.front.1, length-drop at line);
      ahead = λ n ws l are b. one_taken line at _ next goes_on b (c.loop-length.invariant.ahead n ws l are b);
    }

pub returns-in-Err-clause-only : goal.returns-in-Err-clause-only
returns-in-Err-clause-only c n ws l are b =
    let line = c.args.line.now in
    let at = c.loop-length.at in
    let goes_on : IsBehind (drop at line) → ⊥ = rw whole_slice at c.loop-length-test.ensures in
    let nothing = rw whole_slice at c.in-Err.ensures.element in
    absurd (none_taken nothing goes_on b (c.loop-length.invariant.ahead n ws l are b))

pub returns-clause-only : goal.returns-clause-only
returns-clause-only c n ws l are b =
    let line = c.args.line.now in
    let at = c.loop-length.at in
    let stops : IsBehind (drop at line) = rw whole_slice at c.loop-length-test.ensures in
    stops_there line at n c.loop-length.invariant.within l stops b (c.loop-length.invariant.ahead n ws l are b)
