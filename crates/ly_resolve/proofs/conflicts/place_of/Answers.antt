use Rattle.std.proofs.Common.{◌<◌, ◌+◌, ◌-◌, ◌/◌, ◌≤◌, ◌∙◌, arith, length, subst, sym}
use Rattle.std.proofs.lemmas.Option.{none-some, slice_get-get_or, slice_get_past}
use Rattle.ly_resolve.proofs.KeptRunLemmas.{ends_behind, start_next, start_none}
use Rattle.ly_resolve.proofs.conflicts.place_of.Goals as goal

pub loop-low-init : goal.loop-low-init
loop-low-init c =
    let rs = c.args.runs.now in
    record {
      ends = omega arith;
      within = omega arith;
      before = omega (arith, start_none 0 rs);
      behind = λ r is. absurd (none-some r (sym (slice_get_past rs (length rs) (omega arith)) ∙ is));
    }

pub loop-low-preserved-then-runs-middle : goal.loop-low-preserved-then-runs-middle
loop-low-preserved-then-runs-middle c =
    let rs = c.args.runs.now in
    let m = c.loop-low.low + (c.loop-low.high - c.loop-low.low) / 2 in
    let test = c.loop-low-test.true in
    let inv = c.loop-low.invariant in
    let within = inv.within in
    let inside : m < length rs = omega arith in
    let ends = c.if-runs-middle.true in
    record {
      ends = omega arith;
      within = within;
      before = subst (λ n. n ≤ c.args.index) (sym (start_next 0 rs m _ (slice_get-get_or rs m _ inside))) ends;
      behind = inv.behind;
    }

pub loop-low-preserved : goal.loop-low-preserved
loop-low-preserved c =
    let rs = c.args.runs.now in
    let m = c.loop-low.low + (c.loop-low.high - c.loop-low.low) / 2 in
    let test = c.loop-low-test.true in
    let inv = c.loop-low.invariant in
    let ends = inv.ends in
    let within = inv.within in
    let inside : m < length rs = omega arith in
    record {
      ends = omega arith;
      within = omega arith;
      before = inv.before;
      behind = ends_behind rs m c.args.index _ c.if-runs-middle.false;
    }
