use Rattle.std.proofs.Common.{◌≡◌, ◌∙◌, Some, ap, arith, length, subst, sym}
use Rattle.std.proofs.lemmas.List.{length-map}
use Rattle.ly_lr0.specs.Automaton.{IsLr0Automaton}
use Rattle.ly_counterexamples.specs.Private.Marks.{AreMarked}
use Rattle.ly_counterexamples.specs.Private.Reductions.{ReducesIn, StateReduces}
use Rattle.ly_counterexamples.proofs.MarkLemmas.{added_as, step_added}
use Rattle.ly_counterexamples.proofs.ReductionLemmas.{all_reduced, state_reduces}
use Rattle.ly_counterexamples.proofs.unreduced.reduced_rules.Goals as goal

pub loop-state-preserved : goal.loop-state-preserved
loop-state-preserved c =
    let r = c.args.resolved.now in
    let k = c.loop-state.state in
    let row = c.row.result.now in
    let old = c.loop-state.reduced in
    let new = c.mark_reductions.new.reduced in
    step_added (StateReduces r) k c.in_ok-reduced.reduced old new c.loop-state.invariant
    (added_as (ReducesIn row) (StateReduces r k) old new (state_reduces r k row c.row.ensures)
    c.mark_reductions.ensures)

pub returns : goal.returns
returns c =
    let r = c.args.resolved.now in
    let rules = c.rules-rules.result.now in
    let these = c.rules-rules.ensures.these ∙ ap (λ g. g.rules) (c.grammar.ensures.grammar
    ∙ ap (λ s. s.grammar) c.spec.ensures.these) in
    let long : length rules ≡ length r.spec.grammar.rules = sym (length-map rules (λ x. Some x)) ∙ ap length these in
    let count = c.states-state-end.ensures.count ∙ ap (λ m. length m.states) c.lr0.ensures.these in
    let past = c.loop-state-test.false in
    all_reduced r (subst IsLr0Automaton c.lr0.ensures.these c.states-state-end.ensures.lawful) c.spec.ensures.resolved
    c.loop-state.state (length r.spec.grammar.rules) (omega (arith, count, past)) c.in_ok-reduced.reduced
    c.loop-state.reduced
    (subst (λ n. AreMarked n (λ p. ⊥) c.in_ok-reduced.reduced) long c.in_ok-reduced.ensures)
    c.loop-state.invariant
