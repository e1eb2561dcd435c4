use Rattle.std.proofs.Common.{◌<◌, ◌+◌, ◌∙◌, ap, arith, length, subst, sym, All}
use Rattle.ly_subset.specs.Private.Rules.{AreEnds}
use Rattle.ly_subset.proofs.RuleLemmas.{ends_all, ends_more, ends_same, reads_no_end}
use Rattle.ly_subset.proofs.rules.ends.Goals as goal
use Rattle.ly_subset.proofs.rules.ends.Goals.{in-Ends+in_ok-push, in_default}

pub loop-number-init : goal.loop-number-init
loop-number-init c = record {
  within = subst (λ ps. All (λ p. p < length c.args.nfa.now.positions) ps) (sym c.new-ends.ensures.items)
      (λ k d l. absurd (omega (arith, l)));
  all = λ p i l is. absurd (omega (arith, l));
}

pub loop-number-preserved : goal.loop-number-preserved
loop-number-preserved c =
    let nfa = c.args.nfa.now in
    let n = c.loop-number.number in
    let less : n < length nfa.positions = (let all = c.len.ensures in let few = c.min-number-end.ensures in
    let l = c.loop-number-test.true in omega arith) in
    elim c.match-position.branch [
      | in-Ends+in_ok-push w ↦ subst (AreEnds nfa (n + 1))
          (sym (ap (λ v. v.items) w.ends-is ∙ w.in_ok-push.ensures.items))
          (ends_more nfa n c.loop-number.ends.items c.loop-number.invariant less)
      | in_default w ↦ subst (AreEnds nfa (n + 1)) (sym (ap (λ v. v.items) w.ends-is))
          (ends_same nfa n c.loop-number.ends.items c.loop-number.invariant
          (reads_no_end nfa n c.position.result w.in_default.not-Ends c.position.ensures))
    ]

pub returns : goal.returns
returns c = ends_all c.args.nfa.now c.loop-number.number _ c.loop-number.ends.items c.loop-number.invariant
    (λ p l m. let all = c.len.ensures in let few = c.min-number-end.ensures in let past = c.loop-number-test.false in
    omega (arith, l, m))
