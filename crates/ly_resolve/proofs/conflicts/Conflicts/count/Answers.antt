use Rattle.std.proofs.Common.{◌∙◌, ap, arith, false, refl, subst, sym, true}
use Rattle.std.specs.Prelude.{count_by}
use Rattle.std.proofs.lemmas.List.{take_all}
use Rattle.ly_resolve.specs.Private.Conflicts.{AreRuns, items_from}
use Rattle.ly_resolve.specs.Values.{same_kind}
use Rattle.ly_resolve.proofs.KeptRunLemmas.{count_grown, start_below, start_none, start_read, within_grown}
use Rattle.ly_resolve.proofs.conflicts.Conflicts.count.Goals as goal
use Rattle.ly_resolve.proofs.conflicts.Conflicts.count.Goals.{else-eq, then-eq}

pub loop-run-init : goal.loop-run-init
loop-run-init c = record {
  count = refl;
  start = sym (start_none 0 c.deref-run-items.result.now);
  within = omega arith;
}

pub overflow_sub-count : goal.overflow_sub-count
overflow_sub-count c =
    start_below c.deref-run-items.result.now c.loop-run.run-index _ c.loop-run.start
    (subst (AreRuns 0) (sym c.deref-run-items.ensures.value) c.self.invariant) c.loop-run-test.true
    c.loop-run.invariant.start

pub loop-run-preserved : goal.loop-run-preserved
loop-run-preserved c =
    let rs = c.deref-run-items.result.now in
    let i = c.loop-run.run-index in
    let inv = c.loop-run.invariant in
    let are = subst (AreRuns 0) (sym c.deref-run-items.ensures.value) c.self.invariant in
    record {
      count = elim c.if-eq.branch [
        | then-eq w ↦ count_grown c.args.kind rs i _ true c.loop-run.count c.if-eq.count c.loop-run.start
            c.loop-run-test.true w.if-eq.ensures inv.count inv.start w.count-is
        | else-eq w ↦ count_grown c.args.kind rs i _ false c.loop-run.count c.if-eq.count c.loop-run.start
            c.loop-run-test.true w.if-eq.ensures inv.count inv.start (w.count-is ∙ omega arith)
      ];
      start = start_read rs i _ c.loop-run-test.true;
      within = elim c.if-eq.branch [
        | then-eq w ↦ within_grown rs i _ true c.loop-run.count c.if-eq.count c.loop-run.start are
            c.loop-run-test.true inv.start inv.within w.count-is
        | else-eq w ↦ within_grown rs i _ false c.loop-run.count c.if-eq.count c.loop-run.start are
            c.loop-run-test.true inv.start inv.within (w.count-is ∙ omega arith)
      ];
    }

pub returns : goal.returns
returns c =
    let rs = c.deref-run-items.result.now in
    c.loop-run.invariant.count
    ∙ ap (λ l. count_by (λ x. same_kind c.args.kind x.kind) (items_from 0 l))
    (take_all c.loop-run.run-index rs c.loop-run-test.false)
    ∙ ap (λ l. count_by (λ x. same_kind c.args.kind x.kind) (items_from 0 l)) c.deref-run-items.ensures.value
    ∙ ap (λ l. count_by (λ x. same_kind c.args.kind x.kind) l) c.self.view_is
