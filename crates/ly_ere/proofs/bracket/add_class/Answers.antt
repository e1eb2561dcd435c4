use Rattle.std.proofs.Common.{add-one, take, take_all}
use Rattle.std.proofs.lemmas.Result.{err_from_is_err_and}
use Rattle.std.proofs.Math.Seq.{take-suc}
use Rattle.ly_ere.proofs.ClassLemmas.{class_nowhere, class_there, class_unnamed}
use Rattle.ly_ere.proofs.RangeLemmas.{added_push}
use Rattle.ly_ere.proofs.bracket.add_class.Goals as goal

pub returns-in_err-end-clause-refused : goal.returns-in_err-end-clause-refused
returns-in_err-end-clause-refused c =
    let p = err_from_is_err_and c.from_residual.result c.from_residual.ensures.1 in
    rw p.1 (class_unnamed c.args.text.now (rw c.in_err-end.ensures.ok_part at c.named_end.ensures.none))

pub returns-in_err-ranges-clause-refused : goal.returns-in_err-ranges-clause-refused
returns-in_err-ranges-clause-refused c =
    let within = rw c.in_ok-end.ensures.ok_part at c.named_end.ensures.within in
    let p = err_from_is_err_and c.from_residual-in_err-ranges.result c.from_residual-in_err-ranges.ensures.1 in
    rw p.1 (class_nowhere c.args.text.now c.in_ok-end.end within.0
    (rw c.in_ok-end.ensures.ok_part at c.named_end.ensures.first)
    (rw c.in_err-ranges.ensures.ok_part at c.class.ensures.none))

pub loop-low-preserved : goal.loop-low-preserved
loop-low-preserved c = rw (add-one, take-suc c.in_ok-ranges.ranges.now c.loop-low.low-index (0, 0) c.loop-low-test.true)
    (added_push c.args.set.now c.loop-low.set c.insert_range.new.self
    (take c.loop-low.low-index c.in_ok-ranges.ranges.now) _ c.loop-low.invariant c.insert_range.ensures)

pub returns-clause-item : goal.returns-clause-item
returns-clause-item c =
    let within = rw c.in_ok-end.ensures.ok_part at c.named_end.ensures.within in
    let ends = rw c.in_ok-end.ensures.ok_part at c.named_end.ensures.ends in (
      c.in_ok-ranges.ranges.now,
      class_there c.args.text.now c.in_ok-end.end within.0 c.requires ends
          c.in_ok-ranges.ranges.now (rw c.in_ok-ranges.ensures.ok_part at c.class.ensures.some),
      rw (take_all c.loop-low.low-index c.in_ok-ranges.ranges.now c.loop-low-test.false) at c.loop-low.invariant,
    )
