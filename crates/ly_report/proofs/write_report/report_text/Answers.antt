use Rattle.std.proofs.Common.{subst, sym}
use Rattle.ly_report.specs.Report.{AreRemoved}
use Rattle.ly_report.proofs.ReportLemmas.{IsOf, conflicts_tellable, report_told}
use Rattle.ly_report.proofs.write_report.report_text.Goals as goal

pub push_conflicts-requires : goal.push_conflicts-requires
push_conflicts-requires c =
    let of : IsOf c.args.resolved.now c.spec-spec.result.now c.lr0-lr0.result.now c.grammar.result.now = record {
      spec = c.spec-spec.ensures.these;
      automaton = c.lr0-lr0.ensures.these;
      grammar = c.grammar.ensures.grammar;
      sizes = c.grammar.ensures.sizes;
      useful = c.lr0-lr0.ensures.useful;
      resolved = c.spec-spec.ensures.resolved;
    } in
    conflicts_tellable c.args.resolved.now c.spec-spec.result.now c.lr0-lr0.result.now c.grammar.result.now
    c.conflicts.result.now of c.in_ok-removed.ensures.lawful c.conflicts.ensures.these c.conflicts.ensures.inside

pub returns : goal.returns
returns c =
    let of : IsOf c.args.resolved.now c.spec-spec.result.now c.lr0-lr0.result.now c.grammar.result.now = record {
      spec = c.spec-spec.ensures.these;
      automaton = c.lr0-lr0.ensures.these;
      grammar = c.grammar.ensures.grammar;
      sizes = c.grammar.ensures.sizes;
      useful = c.lr0-lr0.ensures.useful;
      resolved = c.spec-spec.ensures.resolved;
    } in
    report_told c.args.resolved.now c.spec-spec.result.now c.lr0-lr0.result.now c.grammar.result.now
    c.conflicts.result.now c.deref.result.now c.new-text.result.items c.push_removed_rules.new.out.items
    c.push_conflicts.new.out.items of (subst (AreRemoved c.grammar.result.now) (sym c.deref.ensures.value)
    c.in_ok-removed.ensures.these) c.conflicts.ensures.these c.new-text.ensures.items c.in_ok-push_removed_rules.ensures
    c.in_ok-push_conflicts.ensures
