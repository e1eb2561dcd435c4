use Rattle.std.proofs.Common.{arith}
use Rattle.std.proofs.lemmas.Bool.{iff_false}
use Rattle.ly_counterexamples.specs.Doubts.{NeverMatches}
use Rattle.ly_counterexamples.proofs.MatchedLemmas.{matched_other}
use Rattle.ly_counterexamples.proofs.RisingLemmas.{rising_all, rising_more, rising_same}
use Rattle.ly_counterexamples.proofs.unmatched.unmatched_rules.Goals as goal
use Rattle.ly_counterexamples.proofs.unmatched.unmatched_rules.Goals.{else-not-has, then-not-has+in_ok-push}

pub loop-rule-preserved : goal.loop-rule-preserved
loop-rule-preserved c =
    let P = NeverMatches c.args.dfa.now c.args.rules in
    let i = c.loop-rule.rule in
    let marked = c.in_ok-matched.ensures.matched.exact i in
    elim c.if-not-has.branch [
      | then-not-has+in_ok-push w ↦ rw w.found-is
          (rising_more P i c.loop-rule.found.items w.push.new.self.items c.loop-rule.invariant (
            c.loop-rule-test.true,
            λ is. iff_false c.has.ensures w.if-not-has.true (marked.1 (c.loop-rule-test.true, is)),
          )
          w.in_ok-push.ensures.items)
      | else-not-has w ↦ rw w.found-is
          (rising_same P i c.loop-rule.found.items c.loop-rule.invariant
          (λ never. never.1 (marked.0 (c.has.ensures.0 w.if-not-has.false)).1))
    ]

pub returns-clause-listed : goal.returns-clause-listed
returns-clause-listed c = rising_all (NeverMatches c.args.dfa.now c.args.rules) c.loop-rule.rule c.loop-rule.found.items
    c.loop-rule.invariant (λ i never. let lt = never.0 in omega (arith, lt))

pub returns-clause-others : goal.returns-clause-others
returns-clause-others c = λ i lt off.
    matched_other c.args.dfa.now c.args.rules c.in_ok-matched.matched c.in_ok-matched.ensures.matched i lt
    (λ never. off ((c.loop-rule.invariant.are i).1 (never, omega (arith, lt))))
