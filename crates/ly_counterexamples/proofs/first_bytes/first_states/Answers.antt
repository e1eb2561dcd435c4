use Rattle.std.proofs.Common.{arith, sym, subst}
use Rattle.std.proofs.lemmas.Bool.{iff_false}
use Rattle.ly_counterexamples.specs.Private.FirstBytes.{AreFirstBefore, HasFirst}
use Rattle.ly_counterexamples.proofs.FirstByteLemmas.{first_row_more, first_row_same, no_first_rows}
use Rattle.ly_counterexamples.proofs.first_bytes.first_states.Goals as goal
use Rattle.ly_counterexamples.proofs.first_bytes.first_states.Goals.{else-returns_first}
use Rattle.ly_counterexamples.proofs.first_bytes.first_states.Goals.{then-returns_first+in_ok-insert}

pub loop-state-init : goal.loop-state-init
loop-state-init c = no_first_rows c.args.actions.now c.args.dfa.now c.in_ok-sets.sets c.len.result c.len.ensures.count
    c.in_ok-sets.ensures

pub loop-state-preserved : goal.loop-state-preserved
loop-state-preserved c =
    let acts = c.args.actions.now in
    let A = c.args.dfa.now in
    let n = c.loop-state.state in
    elim c.if-returns_first.branch [
      | then-returns_first+in_ok-insert w ↦ rw w.sets-is
          (first_row_more acts A n c.loop-state.sets w.insert.new.self
          (let end = c.in_ok-state-end.ensures.count in let lt = c.loop-state-test.true in omega (arith, end, lt))
          c.loop-state.invariant
          (subst (HasFirst acts) c.rule.ensures (c.returns_first.ensures.0 w.if-returns_first.true))
          w.in_ok-insert.ensures.ok)
      | else-returns_first w ↦ rw w.sets-is
          (first_row_same acts A n c.loop-state.sets c.loop-state.invariant
          (λ has. iff_false c.returns_first.ensures w.if-returns_first.false
          (subst (HasFirst acts) (sym c.rule.ensures) has)))
    ]

pub returns : goal.returns
returns c = subst (λ n. AreFirstBefore c.args.actions.now c.args.dfa.now n c.loop-state.sets)
    (let end = c.in_ok-state-end.ensures.count in let past = c.loop-state-test.false in omega (arith, end, past))
    c.loop-state.invariant
