use Rattle.std.proofs.Common.{◌≡◌, ◌∙◌, Some, ap, arith, length, sym}
use Rattle.std.proofs.lemmas.List.{length-map}
use Rattle.ly_report.proofs.RemovedLemmas.{kept_one, removed_all, removed_more, removed_one, removed_same}
use Rattle.ly_report.proofs.write_report.removed_rules.Goals as goal
use Rattle.ly_report.proofs.write_report.removed_rules.Goals.{else-not-is_kept, then-not-is_kept+in_ok-push}

pub loop-number-preserved : goal.loop-number-preserved
loop-number-preserved c =
    let G = c.args.grammar.now in
    let R = c.args.reduced.now.grammar in
    let n = c.loop-number.number in
    let these = c.rules-number-end.ensures.these in
    let long : length G.rules ≡ length c.rules-number-end.result.now
    = ap length (sym these) ∙ length-map c.rules-number-end.result.now Some in
    elim c.if-not-is_kept.branch [
      | then-not-is_kept+in_ok-push w ↦ rw w.removed-is
          (removed_more G n c.loop-number.removed.items w.push.new.self.items c.loop-number.invariant
          (removed_one G R c.rules-number-end.ensures.lawful c.requires n (omega (arith, long, c.loop-number-test.true))
          (λ rule. let is = c.is_kept.ensures.1 rule in let off = w.if-not-is_kept.true in cc))
          w.in_ok-push.ensures.items)
      | else-not-is_kept w ↦ rw w.removed-is
          (removed_same G n c.loop-number.removed.items c.loop-number.invariant
          (kept_one G R c.requires n (c.is_kept.ensures.0 w.if-not-is_kept.false)))
    ]

pub returns-clause-these : goal.returns-clause-these
returns-clause-these c =
    let G = c.args.grammar.now in
    let long : length G.rules ≡ length c.rules-number-end.result.now
    = ap length (sym c.rules-number-end.ensures.these) ∙ length-map c.rules-number-end.result.now Some in
    removed_all G c.loop-number.number c.loop-number.removed.items c.loop-number.invariant
    (omega (arith, long, c.loop-number-test.false))
