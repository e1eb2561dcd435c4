use Rattle.std.proofs.Common.{◌∙◌, ◌++◌, Some, ap, length}
use Rattle.std.specs.Prelude.{flat_map}
use Rattle.std.proofs.lemmas.List.{take_all}
use Rattle.std.proofs.lemmas.List.Elements.{Contains-get_or}
use Rattle.std.proofs.lemmas.Option.{slice_get_within}
use Rattle.ly_report.specs.Report.{removed_count, removed_line}
use Rattle.ly_report.proofs.LineLemmas.{joined, lines_more}
use Rattle.ly_report.proofs.write_report.push_removed_rules.Goals as goal

pub push_removed-requires-clause-some : goal.push_removed-requires-clause-some
push_removed-requires-clause-some c =
    let i = c.loop-number.number-index in
    let has = Contains-get_or c.args.removed.now i 0 c.loop-number-test.true in
    ((c.requires.are _).0 has).2

pub push_removed-requires-clause-within : goal.push_removed-requires-clause-within
push_removed-requires-clause-within c =
    let i = c.loop-number.number-index in
    let has = Contains-get_or c.args.removed.now i 0 c.loop-number-test.true in
    let is = (c.requires.are _).0 has in
    slice_get_within c.args.spec.now.grammar.rules _ (Some is.0) is.1

pub loop-number-preserved : goal.loop-number-preserved
loop-number-preserved c =
    lines_more (removed_line c.args.spec.now) c.args.removed.now c.loop-number.number-index 0
    c.push_removed_count.new.out.items c.loop-number.out.items c.push_removed.new.out.items c.loop-number-test.true
    c.loop-number.invariant c.in_ok-push_removed.ensures

pub returns : goal.returns
returns c =
    let lines = removed_line c.args.spec.now in
    let removed = c.args.removed.now in
    let whole = take_all c.loop-number.number-index removed c.loop-number-test.false in
    joined c.args.out.now.items (removed_count (length removed)) (flat_map lines removed)
    (c.loop-number.invariant ∙ ap (λ l. c.push_removed_count.new.out.items ++ flat_map lines l) whole)
    c.in_ok-push_removed_count.ensures
