use Rattle.std.proofs.Common.{◌≡◌, ◌∙◌, sym}
use Rattle.std.proofs.lemmas.Bool.{both_ways}
use Rattle.ly_counterexamples.specs.Private.FirstBytes.{IsRowWithZero}
use Rattle.ly_counterexamples.proofs.FirstByteLemmas.{zeros_marked}
use Rattle.ly_counterexamples.proofs.MarkLemmas.{added_as, step_added, step_nothing}
use Rattle.ly_counterexamples.proofs.first_bytes.rows_with_zero.Goals as goal
use Rattle.ly_counterexamples.proofs.first_bytes.rows_with_zero.Goals.{else-contains, then-contains}

pub loop-row-preserved : goal.loop-row-preserved
loop-row-preserved c =
    let P = IsRowWithZero c.args.sets.now.sets in
    let k = c.loop-row.row in
    let first = c.in_ok-marks.marks in
    let old = c.loop-row.marks in
    elim c.if-contains.branch [
      | then-contains w ↦
          let has = sym c.contains.ensures ∙ w.if-contains.true in
          rw w.marks-is
          (step_added P k first old w.set.new.self c.loop-row.invariant
          (added_as (λ n. n ≡ k) (P k) old w.set.new.self (λ n. (λ same. (same, has), λ both. both.0)) w.set.ensures))
      | else-contains w ↦ rw w.marks-is
          (step_nothing P k first old (λ n both.
          both_ways c.contains.result w.if-contains.false (c.contains.ensures ∙ both.1)) c.loop-row.invariant)
    ]

pub returns : goal.returns
returns c = zeros_marked c.args.sets.now.sets c.loop-row.row c.args.rows c.loop-row-test.false c.in_ok-marks.marks
    c.loop-row.marks c.in_ok-marks.ensures c.loop-row.invariant
