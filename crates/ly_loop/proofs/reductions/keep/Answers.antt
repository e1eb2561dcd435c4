use Rattle.std.proofs.Common.{inr, refl, subst, sym}
use Rattle.ly_pack.specs.Values.{rule_from}
use Rattle.ly_loop.specs.Private.Reductions.{AreFirsts}
use Rattle.ly_loop.proofs.ReductionLemmas.{first_said, firsts_put}
use Rattle.ly_loop.proofs.reductions.keep.Goals as goal

pub returns-in_ok-push-clause-alike : goal.returns-in_ok-push-clause-alike
returns-in_ok-push-clause-alike g c =
    let m = c.args.machine.now in
    subst (AreFirsts m c.insert.new.self) (sym c.in_ok-push.ensures.items)
    (firsts_put m c.args.alike.now c.insert.new.self c.args.kept.now.items c.args.rule
    (rule_from c.rule-made.result.now) c.rule-made.ensures c.in_ok-insert.ensures.updates.0 c.requires.alike)

pub returns-else-is_none-2-clause-kept : goal.returns-else-is_none-2-clause-kept
returns-else-is_none-2-clause-kept g c =
    inr (
      refl,
      inr (first_said c.args.machine.now c.args.alike.now c.args.kept.now.items c.args.rule
          (rule_from c.rule-made.result.now) c.get.result c.rule-made.ensures c.requires.alike c.get.ensures.value
          c.if-is_none-2.ensures),
    )
