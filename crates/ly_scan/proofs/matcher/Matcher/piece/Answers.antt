use Rattle.std.proofs.Common.{Some, ◌+◌, ◌≡◌, ◌∙◌, ◌++◌, ◌∷◌, [], ap, arith, get_or, length, subst, sym}
use Rattle.std.specs.Prelude.{◌==◌, MatchOption, false, true}
use Rattle.ly_scan.proofs.MatcherLemmas.{decided_at_once, decided_behind, goes_on_behind, goes_on_still, goes_on_whole}
use Rattle.ly_scan.proofs.WalkLemmas.{some_or_none}
use Rattle.ly_scan.specs.Matcher.{IsDecidedMatch, IsUnderway}
use Rattle.ly_scan.specs.Walk.{Walk, better_of}
use Rattle.ly_scan.proofs.matcher.Matcher.piece.Goals as goal
use Rattle.ly_scan.proofs.matcher.Matcher.piece.Goals.{else-is_empty, then-is_empty}

pub returns-in_default : goal.returns-in_default
returns-in_default g c condition line seen h =
    let walk : Walk = g.S.Steps.walk c.args.steps.now condition line in
    let ahead = g.S.Steps.ahead c.args.steps.now in
    let stands = g.S.Steps.stands c.args.steps.now in
    let cut = g.S.Steps.cut_of c.args.steps.now in
    let bytes = c.args.bytes.now in
    let still = IsUnderway walk ahead stands (seen ++ bytes) c.args.self.now in
    let decided = IsDecidedMatch walk cut (seen ++ bytes) in
    elim c.if-is_empty.branch [
      | then-is_empty w ↦ subst (λ o. MatchOption o still decided) (sym w.result-is)
          (goes_on_still walk ahead stands seen bytes c.args.self.now w.if-is_empty.ensures h)
      | else-is_empty w ↦ subst (λ o. MatchOption o still decided) (sym w.result-is)
          (decided_at_once walk ahead stands cut seen bytes c.args.self.now
          (g.met.S.Steps.stays_ended c.args.steps.now condition line)
          (sym (ap (λ u. u.at) c.self.view_is) ∙ c.in_default.is)
          (λ none. let no : false ≡ true = w.if-is_empty.ensures ∙ ap (λ t. length t == 0) none in cc) h)
    ]

pub returns-in_default-step : goal.returns-in_default-step
returns-in_default-step g c condition line seen h =
    let k = c.loop-count.count in
    let here = g.S.Steps.ahead c.args.steps.now c.loop-count.at in
    let u = c.loop-count.invariant.on condition line seen h in
    decided_behind (g.S.Steps.walk c.args.steps.now condition line) here (g.S.Steps.cut_of c.args.steps.now) seen
    c.args.bytes.now k c.loop-count.best c.match_of.result c.loop-count-test.true
    (g.met.S.Steps.stays_ended c.args.steps.now condition line) u.there.1
    (some_or_none (here (get_or c.args.bytes.now k 0 ∷ [])) c.in_default-step.ensures.alive) u.best
    (c.match_of.ensures (g.S.Steps.walk c.args.steps.now condition line))

pub loop-count-preserved : goal.loop-count-preserved
loop-count-preserved g c =
    let next = c.in-Some-step in record {
      stands = next.ensures.stands;
      on = λ condition line seen h. goes_on_behind (g.S.Steps.walk c.args.steps.now condition line)
          (g.S.Steps.ahead c.args.steps.now) (g.S.Steps.stands c.args.steps.now) seen c.args.bytes.now
          c.loop-count.count c.loop-count.at next.next c.args.self.now.passed c.loop-count.best c.better-best.result
          c.accept.result c.loop-count-test.true (c.loop-count.invariant.on condition line seen h) next.ensures.stands
          next.ensures.there (sym next.ensures.alive) c.accept.ensures
          (c.better-best.ensures
          ∙ ap (λ u. better_of c.loop-count.best (u.passed + c.loop-count.count + 1) c.accept.result) c.self.view_is);
    }

pub returns : goal.returns
returns g c condition line seen h =
    let walk : Walk = g.S.Steps.walk c.args.steps.now condition line in
    let ahead = g.S.Steps.ahead c.args.steps.now in
    let stands = g.S.Steps.stands c.args.steps.now in
    subst (λ u. IsUnderway walk ahead stands (seen ++ c.args.bytes.now) (record {
      at = Some c.loop-count.at;
      passed = u.passed + length c.args.bytes.now;
      best = c.loop-count.best;
    })) (sym c.self.view_is) (goes_on_whole walk ahead stands seen c.args.bytes.now c.loop-count.count c.loop-count.at
    c.args.self.now.passed c.loop-count.best
    (omega (arith, c.loop-count-test.false, c.loop-count.auto.count-end))
    (c.loop-count.invariant.on condition line seen h))
