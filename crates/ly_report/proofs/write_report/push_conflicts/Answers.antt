use Rattle.std.proofs.Common.{◌∙◌, ◌++◌, ap, arith, map, sym}
use Rattle.std.specs.Prelude.{flat_map}
use Rattle.std.proofs.lemmas.List.{take_all}
use Rattle.ly_resolve.specs.Conflicts.{shift_reduce}
use Rattle.ly_resolve.specs.Values.{conflict_from, kind_from}
use Rattle.ly_report.specs.Report.{conflict_line, count_of, counts_line, counts_text}
use Rattle.ly_report.proofs.ConflictLemmas.{kinds_same}
use Rattle.ly_report.proofs.LineLemmas.{joined, made_more, none_past}
use Rattle.ly_report.proofs.write_report.push_conflicts.Goals as goal
use Rattle.ly_report.proofs.write_report.push_conflicts.Goals.{in-Some+in_ok-push_conflict, in_default}

pub loop-index-preserved : goal.loop-index-preserved
loop-index-preserved c =
    let xs = c.args.conflicts.now in
    let i = c.loop-index.index in
    elim c.match-get_near.branch [
      | in-Some+in_ok-push_conflict w ↦ made_more (conflict_line c.args.spec.now) (conflict_from c.args.lr0.now) xs i
          w.in-Some.conflict c.push_counts.new.out.items c.loop-index.out.items c.match-get_near.out.items
          (sym w.in-Some.ensures) c.loop-index.invariant
          (ap (λ o. o.items) w.out-is ∙ w.in_ok-push_conflict.ensures)
      | in_default w ↦
          let past = none_past xs i (sym w.in_default.ensures) in
          let test = c.loop-index-test.true in
          let long = c.len-index-end.ensures in
          absurd (omega (arith, past, test, long))
    ]

pub returns : goal.returns
returns c =
    let lines = conflict_line c.args.spec.now in
    let kinds = map (λ x. kind_from x.kind) c.args.conflicts.now in
    let told = map (conflict_from c.args.lr0.now) c.args.conflicts.now in
    let whole = take_all c.loop-index.index c.args.conflicts.now
    (let past = c.loop-index-test.false in let long = c.len-index-end.ensures in omega (arith, past, long)) in
    joined c.args.out.now.items (counts_text (map (λ x. x.kind) told)) (flat_map lines told)
    (c.loop-index.invariant
    ∙ ap (λ l. c.push_counts.new.out.items ++ flat_map lines (map (conflict_from c.args.lr0.now) l)) whole)
    (c.in_ok-push_counts.ensures
    ∙ ap (λ n. c.args.out.now.items ++ counts_line n c.among.result.reduce_reduce) c.among.ensures.shifts
    ∙ ap (λ n. c.args.out.now.items ++ counts_line (count_of shift_reduce kinds) n) c.among.ensures.reductions
    ∙ ap (λ l. c.args.out.now.items ++ counts_text l) (kinds_same c.args.lr0.now c.args.conflicts.now))
