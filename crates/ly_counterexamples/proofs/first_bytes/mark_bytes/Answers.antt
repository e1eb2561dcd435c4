use Rattle.std.proofs.Common.{◌≡◌}
use Rattle.std.proofs.lemmas.Bool.{iff_false}
use Rattle.ly_counterexamples.specs.Private.FirstBytes.{BeginsWith}
use Rattle.ly_counterexamples.proofs.FirstByteLemmas.{bytes_marked}
use Rattle.ly_counterexamples.proofs.MarkLemmas.{added_as, step_added, step_nothing}
use Rattle.ly_counterexamples.proofs.first_bytes.mark_bytes.Goals as goal
use Rattle.ly_counterexamples.proofs.first_bytes.mark_bytes.Goals.{else-leads, then-leads}

pub loop-byte-preserved : goal.loop-byte-preserved
loop-byte-preserved c =
    let P = BeginsWith c.args.leading.now c.args.dfa.now c.args.state in
    let k = c.loop-byte.byte in
    let first = c.args.bytes.now in
    let old = c.loop-byte.bytes in
    elim c.if-leads.branch [
      | then-leads w ↦
          let begins = c.leads.ensures.0 w.if-leads.true in
          rw w.bytes-is
          (step_added P k first old w.set.new.self c.loop-byte.invariant
          (added_as (λ n. n ≡ k) (P k) old w.set.new.self (λ n. (λ same. (same, begins), λ both. both.0))
          w.set.ensures))
      | else-leads w ↦ rw w.bytes-is
          (step_nothing P k first old (λ n both. iff_false c.leads.ensures w.if-leads.false both.1)
          c.loop-byte.invariant)
    ]

pub returns : goal.returns
returns c = bytes_marked c.args.dfa.now c.requires.whole c.args.leading.now c.args.state c.loop-byte.byte
    c.loop-byte-test.false c.args.bytes.now c.loop-byte.bytes c.loop-byte.invariant
