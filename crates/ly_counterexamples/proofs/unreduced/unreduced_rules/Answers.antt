use Rattle.std.proofs.Common.{◌≡◌, ◌∙◌, Some, ap, arith, length, subst, sym}
use Rattle.std.proofs.lemmas.Bool.{iff_false}
use Rattle.std.proofs.lemmas.List.{length-map}
use Rattle.std.proofs.lemmas.Option.{slice_get_within}
use Rattle.ly_join.specs.Grammar.{IsRule}
use Rattle.ly_counterexamples.specs.Doubts.{NeverReduces}
use Rattle.ly_counterexamples.proofs.ReductionLemmas.{never_below, useful_kept}
use Rattle.ly_counterexamples.proofs.RisingLemmas.{rising_all, rising_more, rising_none, rising_same}
use Rattle.ly_counterexamples.proofs.unreduced.unreduced_rules.Goals as goal
use Rattle.ly_counterexamples.proofs.unreduced.unreduced_rules.Goals.{else-is_kept, else-is_kept-via-else-is_kept}
use Rattle.ly_counterexamples.proofs.unreduced.unreduced_rules.Goals.{else-is_kept-via-then-is_kept+else-not-has}
use Rattle.ly_counterexamples.proofs.unreduced.unreduced_rules.Goals.{then-is_kept+then-not-has+in_ok-push}

pub loop-rule-init : goal.loop-rule-init
loop-rule-init c = rising_none (NeverReduces c.args.resolved.now) 1 c.new-found.result.items c.new-found.ensures.items
    (λ p lt never. let some = never.0 in omega (arith, lt, some))

pub loop-rule-preserved : goal.loop-rule-preserved
loop-rule-preserved c =
    let r = c.args.resolved.now in
    let P = NeverReduces r in
    let p = c.loop-rule.rule in
    let found = c.loop-rule.found.items in
    let marked = c.in_ok-reduced.ensures.exact p in
    let same = c.reduced-kept.ensures ∙ ap (λ m. m.grammar) c.lr0.ensures.these in
    let useful = useful_kept r c.lr0.ensures.useful p c.loop-rule.auto.rule in
    elim c.if-is_kept.branch [
      | then-is_kept+then-not-has+in_ok-push w ↦
          let k = c.is_kept.ensures.0 w.if-is_kept.true in
          let u = useful.0 (k.0, subst (λ G. IsRule G p k.0) same k.1) in
          rw w.found-is (rising_more P p found w.push.new.self.items c.loop-rule.invariant (
            c.loop-rule.auto.rule,
            u.0,
            u.1,
            u.2,
            λ by. iff_false w.has.ensures w.if-not-has.true
                (marked.1 (slice_get_within r.spec.grammar.rules p (Some u.0) u.1, by)),
          ) w.in_ok-push.ensures.items)
      | else-is_kept w ↦ rw w.found-is
          (rising_same P p found c.loop-rule.invariant
          (elim w.else-is_kept.branch [
            | else-is_kept-via-then-is_kept+else-not-has v ↦ λ never.
                never.4 (marked.0 (v.has.ensures.0 v.if-not-has.false)).1
            | else-is_kept-via-else-is_kept v ↦ λ never.
                let k = useful.1 (never.1, never.2, never.3) in
                iff_false c.is_kept.ensures v.if-is_kept.false (k.0, subst (λ G. IsRule G p k.0) (sym same) k.1)
          ]))
    ]

pub returns : goal.returns
returns c =
    let r = c.args.resolved.now in
    let rules = c.rules-rule-end.result.now in
    let these = c.rules-rule-end.ensures.these ∙ ap (λ g. g.rules) (c.grammar.ensures.grammar
    ∙ ap (λ s. s.grammar) c.spec.ensures.these) in
    let long : length rules ≡ length r.spec.grammar.rules = sym (length-map rules (λ x. Some x)) ∙ ap length these in
    let past = c.loop-rule-test.false in
    rising_all (NeverReduces r) c.loop-rule.rule c.loop-rule.found.items c.loop-rule.invariant
    (λ p never. let lt = never_below r p never in omega (arith, lt, long, past))
