use Rattle.std.proofs.Common.{◌≡◌, ◌<◌, length, le_antisymm, subst}
use Rattle.std.proofs.lemmas.List.Elements.{All-push}
use Rattle.ly_position.proofs.StartLemmas.{EachIn, all_below, each_left, each_right}
use Rattle.ly_position.proofs.starts.common_first.Goals as goal
use Rattle.ly_position.proofs.starts.common_first.Goals.{then-is_some_and+in_ok-push, else-is_some_and+in_ok-push-2}

pub loop-number-preserved : goal.loop-number-preserved
loop-number-preserved c =
    let n = c.loop-number.number in
    let xs = c.loop-number.numbers.items in
    let ys = c.loop-number.others.items in
    let before = c.loop-number.invariant in
    elim c.if-is_some_and.branch [
      | then-is_some_and+in_ok-push w ↦
          rw (w.numbers-is, w.others-is, w.in_ok-push.ensures.items) (record {
            within = All-push (λ i. i < length c.args.rules.now) xs n before.within c.loop-number-test.true;
            others = before.others;
            all = each_left n xs ys before.all;
          })
      | else-is_some_and+in_ok-push-2 w ↦
          rw (w.numbers-is, w.others-is, w.in_ok-push-2.ensures.items) (record {
            within = before.within;
            others = All-push (λ i. i < length c.args.rules.now) ys n before.others c.loop-number-test.true;
            all = each_right n xs ys before.all;
          })
    ]

pub returns : goal.returns
returns c =
    let before = c.loop-number.invariant in
    let end : c.loop-number.number ≡ length c.args.rules.now
    = le_antisymm c.loop-number.auto.number-end c.loop-number-test.false in
    let each = subst (λ k. EachIn k c.loop-number.numbers.items c.loop-number.others.items) end before.all in
    rw (c.in_ok-extend_from_slice.ensures.items, c.deref.ensures.value)
    (all_below (length c.args.rules.now) c.loop-number.numbers.items c.loop-number.others.items before.within
    before.others each)
