use Rattle.std.proofs.Common.{◌∙◌, ap, arith, sym, Some}
use Rattle.std.proofs.lemmas.Option.{slice_get-get_or}
use Rattle.ly_conflicts.proofs.ToldLemmas.{told_all, told_group, told_more}
use Rattle.ly_conflicts.proofs.conflicts.Reporter.reports.Goals as goal

pub report-requires-clause-group : goal.report-requires-clause-group
report-requires-clause-group c =
    let items = c.first_of-group-items.result.now in
    let n = c.loop-group.group-index in
    told_group c.args.self.now.examples.now c.args.groups.now items c.first_of-group-items.ensures c.requires n
    c.group-item.result
    (slice_get-get_or items n c.group-item.result c.loop-group-test.true ∙ ap Some (sym c.group-item.is))

pub loop-group-preserved : goal.loop-group-preserved
loop-group-preserved c =
    let items = c.first_of-group-items.result.now in
    let n = c.loop-group.group-index in
    let more = told_more c.args.self.now.examples.now c.args.groups.now items c.first_of-group-items.ensures n
    c.loop-group.all.items c.push.new.self.items c.group-item.result c.in_ok-report.field-0
    (slice_get-get_or items n c.group-item.result c.loop-group-test.true ∙ ap Some (sym c.group-item.is))
    c.in_ok-report.ensures.report c.in_ok-push.ensures.items c.loop-group.invariant.count c.loop-group.invariant.each in
    record {
      same = ap (λ g. g.now) c.in_ok-report.ensures.stays ∙ c.loop-group.invariant.same;
      count = more.0;
      each = more.1;
    }

pub returns : goal.returns
returns c =
    let items = c.first_of-group-items.result.now in
    let n = c.loop-group.group-index in
    told_all c.args.self.now.examples.now c.args.groups.now items c.first_of-group-items.ensures n
    c.loop-group.all.items c.loop-group.invariant.count
    (omega (arith, c.loop-group-test.false, c.loop-group.auto.group-index-end)) c.loop-group.invariant.each
