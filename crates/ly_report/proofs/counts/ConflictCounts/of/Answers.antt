use Rattle.std.proofs.Common.{◌∙◌, ap, map}
use Rattle.ly_resolve.specs.Conflicts.{reduce_reduce, shift_reduce}
use Rattle.ly_report.specs.Report.{count_of}
use Rattle.ly_report.proofs.ConflictLemmas.{kinds_same}
use Rattle.ly_report.proofs.counts.ConflictCounts.of.Goals as goal

pub returns : goal.returns
returns c =
    let M = c.args.resolved.now.automaton in
    let kinds = kinds_same M c.conflicts.result.now ∙ ap (map (λ x. x.kind)) c.conflicts.ensures.these in
    record {
      useful = M.grammar;
      are_useful = c.lr0-lr0.ensures.useful;
      conflicts = c.args.resolved.now.conflicts;
      are_conflicts = c.spec-spec.ensures.resolved.conflicts;
      shifts = c.among.ensures.shifts ∙ ap (count_of shift_reduce) kinds;
      reductions = c.among.ensures.reductions ∙ ap (count_of reduce_reduce) kinds;
    }
