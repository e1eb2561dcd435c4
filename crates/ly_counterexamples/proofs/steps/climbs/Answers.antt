use Rattle.std.proofs.Common.{◌↔◌, inl, inr, subst, sym}
use Rattle.std.proofs.Common.{slice_index_or, Contains}
use Rattle.ly_counterexamples.specs.Demands.{ClimbsTo}
use Rattle.ly_counterexamples.specs.declared.claim.Claim.{Claim}
use Rattle.ly_counterexamples.specs.declared.claim.Claim.TheVariants.{Settled}
use Rattle.ly_counterexamples.specs.Private.Steps.{IsClimbOfFirst, IsWithFirst, IsWithSecond}
use Rattle.ly_counterexamples.proofs.BackLemmas.{all_related, none_related, pushed_as, related_beside, related_on}
use Rattle.ly_counterexamples.proofs.ClaimLemmas.{climbs_are, firsts_are, with_first, with_second}
use Rattle.ly_counterexamples.proofs.steps.climbs.Goals as goal

pub loop-first-preserved : goal.loop-first-preserved
loop-first-preserved c =
    let d = c.args.demand in
    let xs = c.deref-first-items.result.now in
    let k = c.loop-first.first-index in
    let x = slice_index_or xs k Settled in
    related_on (IsWithFirst d) xs k Settled c.loop-first-test.true (record d { first = x }) (with_first d x)
    c.loop-first.demands.items c.push.new.self.items c.in_ok-push.ensures.items c.loop-first.invariant

pub loop-second-init : goal.loop-second-init
loop-second-init c e =
    let M = c.args.ground.now.lr0.now in
    let t = c.args.terminal.0 in
    let d = c.args.demand in
    let xs = c.deref-first-items.result.now in
    let inv = c.loop-first.invariant e in
    let all = all_related (IsWithFirst d) xs c.loop-first.first-index c.loop-first-test.false e in
    let are = firsts_are M t d xs (subst (λ w. (a : Claim) → Contains w a ↔ ClimbsTo M t d.state.0 d.first a)
    (sym c.deref-first-items.ensures.value) c.in_ok-claims_above.ensures) e in (
      λ has. inl (are.0 (all.0 (inv.0 has))),
      λ either. elim either [
        | inl first ↦ inv.1 (all.1 (are.1 first))
        | inr none ↦ absurd (none_related (IsWithSecond d) c.deref-second-items.result.now e none)
      ],
    )

pub loop-second-preserved : goal.loop-second-preserved
loop-second-preserved c =
    let d = c.args.demand in
    let xs = c.deref-second-items.result.now in
    let k = c.loop-second.second-index in
    let x = slice_index_or xs k Settled in
    related_beside (IsWithSecond d) xs (IsClimbOfFirst c.args.ground.now.lr0.now c.args.terminal.0 d) k Settled
    c.loop-second-test.true c.loop-second.demands.items c.push-in-loop-second.new.self.items
    (pushed_as (IsWithSecond d x) c.loop-second.demands.items c.push-in-loop-second.new.self.items
    (record d { second = x }) c.in_ok-push-2.ensures.items (with_second d x)) c.loop-second.invariant

pub returns : goal.returns
returns c e =
    let M = c.args.ground.now.lr0.now in
    let t = c.args.terminal.0 in
    let d = c.args.demand in
    let xs = c.deref-second-items.result.now in
    let inv = c.loop-second.invariant e in
    let all = all_related (IsWithSecond d) xs c.loop-second.second-index c.loop-second-test.false e in
    let are = climbs_are M t d xs (subst (λ w. (a : Claim) → Contains w a ↔ ClimbsTo M t d.state.0 d.second a)
    (sym c.deref-second-items.ensures.value) c.in_ok-claims_above-2.ensures) e in (
      λ has. are.0 (elim (inv.0 has) [ inl first ↦ inl first | inr some ↦ inr (all.0 some) ]),
      λ climb. inv.1 (elim (are.1 climb) [ inl first ↦ inl first | inr some ↦ inr (all.1 some) ]),
    )
