use Rattle.std.proofs.Common.{arith}
use Rattle.ly_counterexamples.specs.Private.FirstBytes.{BeginsAt, BeginsMarked}
use Rattle.ly_counterexamples.proofs.FirstByteLemmas.{begins_at, begins_nowhere, starts_marked}
use Rattle.ly_counterexamples.proofs.MarkLemmas.{added_as, step_added, step_nothing}
use Rattle.ly_counterexamples.proofs.first_bytes.first_bytes.Goals as goal
use Rattle.ly_counterexamples.proofs.first_bytes.first_bytes.Goals.{in-Some, in_default}

pub loop-place-preserved : goal.loop-place-preserved
loop-place-preserved c =
    let acts = c.args.actions.now in
    let A = c.args.dfa.now in
    let whole = c.leading_states.ensures.whole in
    let leading = c.in_ok-leading.leading in
    let P = BeginsAt acts A in
    let k = c.loop-place.place in
    let first = c.in_ok-bytes.bytes in
    let old = c.loop-place.bytes in
    elim c.match-entry.branch [
      | in-Some w ↦ rw w.bytes-is
          (step_added P k first old w.mark_bytes.new.bytes c.loop-place.invariant
          (added_as (BeginsMarked leading A w.in-Some.state) (P k) old w.mark_bytes.new.bytes
          (begins_at A whole acts leading c.in_ok-leading.ensures.leading k w.in-Some.state
          (let e = c.entry.ensures.state in let is = w.in-Some.is in cc))
          w.mark_bytes.ensures))
      | in_default w ↦ rw w.bytes-is
          (step_nothing P k first old
          (begins_nowhere A acts k (let e = c.entry.ensures.state in let is = w.in_default.is in cc))
          c.loop-place.invariant)
    ]

pub returns : goal.returns
returns c = starts_marked c.args.dfa.now c.args.actions.now c.loop-place.place
    (let end = c.starts-place-end.ensures.count in let past = c.loop-place-test.false in omega (arith, end, past))
    c.in_ok-bytes.bytes c.loop-place.bytes c.in_ok-bytes.ensures c.loop-place.invariant
