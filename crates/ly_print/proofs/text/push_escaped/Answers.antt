use Rattle.std.proofs.Common.{◌∙◌, arith, sym}
use Rattle.ly_print.proofs.TextLemmas.{escape_step, plain_step}
use Rattle.ly_print.proofs.text.push_escaped.Goals as goal
use Rattle.ly_print.proofs.text.push_escaped.Goals.{then-not-is_plain+in_ok-extend_from_slice+in_ok-push_escape}
use Rattle.ly_print.proofs.text.push_escaped.Goals.{else-not-is_plain}

pub loop-at-preserved : goal.loop-at-preserved
loop-at-preserved c = let now = c.loop-at in elim c.if-not-is_plain.branch [
  | then-not-is_plain+in_ok-extend_from_slice+in_ok-push_escape w ↦ record {
    behind = omega arith;
    so_far = rw (w.out-is, w.start-is, w.in_ok-push_escape.ensures, w.in_ok-extend_from_slice.ensures.items)
        (escape_step c.args.quote c.args.bytes.now c.args.out.now.items now.out.items now.start now.at
        now.invariant.behind c.loop-at-test.true now.invariant.so_far (sym c.is_plain.ensures
        ∙ w.if-not-is_plain.true));
  }
  | else-not-is_plain w ↦ record {
    behind = omega arith;
    so_far = rw (w.out-is, w.start-is)
        (plain_step c.args.quote c.args.bytes.now c.args.out.now.items now.out.items now.start now.at
        now.invariant.behind c.loop-at-test.true now.invariant.so_far (sym c.is_plain.ensures
        ∙ w.if-not-is_plain.false));
  }
]
