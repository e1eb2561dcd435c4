use Rattle.std.proofs.Common.{◌≡◌, ◌<◌, ◌+◌, ◌∙◌, ap, arith, length, take, subst, sym, slice_get, Some}
use Rattle.std.proofs.lemmas.List.{take_all}
use Rattle.std.specs.Prelude.{option_map, MatchBool}
use Rattle.ly_position.specs.Nfa.{follow_of, position_of}
use Rattle.ly_position.specs.Position.{position_from}
use Rattle.ly_subset.specs.Private.Members.{listed}
use Rattle.ly_subset.specs.Private.Rules.{HasEndIn, LiesIn}
use Rattle.ly_subset.specs.Subsets.{IsLeastRule}
use Rattle.ly_subset.proofs.RuleLemmas.{least_end_more, least_end_same, least_none, reads_no_end}
use Rattle.ly_subset.proofs.rules.least_end.Goals as goal
use Rattle.ly_subset.proofs.rules.least_end.Goals.{then-lies_in+in-Ends, then-lies_in+in_default, else-lies_in}

pub loop-place-init : goal.loop-place-init
loop-place-init c = least_none c.args.nfa.now c.args.within

pub loop-place-preserved : goal.loop-place-preserved
loop-place-preserved c =
    let nfa = c.args.nfa.now in
    let span = c.args.within in
    let ps = listed c.args.positions.now in
    let k = c.loop-place.place in
    let p = c.at-number.result in
    let less : k < length ps = (let all = c.len-place-end.ensures in let l = c.loop-place-test.true in omega arith) in
    let least = option_map (λ r. r.0) c.loop-place.least in
    elim c.if-lies_in.branch [
      | then-lies_in+in-Ends w ↦ subst (λ o. IsLeastRule (HasEndIn nfa span (take (k + 1) ps)) o)
          (sym (ap (option_map (λ r. r.0)) w.least-is ∙ ap (λ i. Some i) w.lesser.ensures))
          (least_end_more nfa span ps k p less c.at-number.ensures least w.in-Ends.rule
          (subst (λ b. MatchBool b (LiesIn span p) (LiesIn span p → ⊥)) w.if-lies_in.true c.lies_in.ensures)
          c.loop-place.invariant
          (subst (λ place. slice_get nfa.positions p ≡ Some (position_from place (follow_of (position_of nfa p))))
          w.in-Ends.is w.position.ensures))
      | then-lies_in+in_default w ↦ subst (λ o. IsLeastRule (HasEndIn nfa span (take (k + 1) ps)) o)
          (sym (ap (option_map (λ r. r.0)) w.least-is))
          (least_end_same nfa span ps k p less c.at-number.ensures least
          (λ j _ is. reads_no_end nfa p w.position.result w.in_default.not-Ends w.position.ensures j is)
          c.loop-place.invariant)
      | else-lies_in w ↦ subst (λ o. IsLeastRule (HasEndIn nfa span (take (k + 1) ps)) o)
          (sym (ap (option_map (λ r. r.0)) w.least-is))
          (least_end_same nfa span ps k p less c.at-number.ensures least
          (λ j inside _. subst (λ b. MatchBool b (LiesIn span p) (LiesIn span p → ⊥)) w.if-lies_in.false
          c.lies_in.ensures inside)
          c.loop-place.invariant)
    ]

pub returns : goal.returns
returns c = let all = c.len-place-end.ensures in let past = c.loop-place-test.false in
    subst (λ ps. IsLeastRule (HasEndIn c.args.nfa.now c.args.within ps) (option_map (λ r. r.0) c.loop-place.least))
    (take_all c.loop-place.place (listed c.args.positions.now) (omega arith)) c.loop-place.invariant
