use Rattle.std.proofs.lemmas.Result.{IfOk-weaker}
use Rattle.std.proofs.Common.{length}
use Rattle.ly_counterexamples.specs.Private.FirstBytes.{HasZero, LeadsToFirst}
use Rattle.ly_counterexamples.specs.Private.Marks.{AreMarked}
use Rattle.ly_counterexamples.proofs.FirstByteLemmas.{leading_marked}
use Rattle.ly_counterexamples.proofs.first_bytes.leading_states.Goals as goal

pub returns-clause-leading : goal.returns-clause-leading
returns-clause-leading c =
    let acts = c.args.actions.now in
    let A = c.args.dfa.now in
    let sets = c.least.new.sets.sets in
    IfOk-weaker c.rows_with_zero.result (AreMarked c.len-states.result (HasZero sets))
    (AreMarked (length A.rules) (LeadsToFirst acts A))
    (λ marks. leading_marked A c.len-states.ensures.whole acts c.in_ok-moves.moves c.in_ok-moves.ensures
    c.in_ok-sets.sets c.in_ok-sets.ensures sets c.in_ok-least.ensures.least c.in_ok-least.ensures.reached
    c.len-states.result c.len-states.ensures.count marks) c.rows_with_zero.ensures
