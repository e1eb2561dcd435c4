use Rattle.std.proofs.Common.{◌≡◌, ◌∙◌, ◌++◌, length, subst, sym, true}
use Rattle.ly_scan.proofs.KnownWalkLemmas.{found_along}
use Rattle.ly_scan.proofs.WalkLemmas.{best_known, none_from_start, some_or_none}
use Rattle.ly_scan.specs.KnownWalks.{IsFound}
use Rattle.ly_scan.specs.Private.Matching.{decided, found}
use Rattle.ly_scan.specs.Walk.{IsBest, Walk}
use Rattle.ly_scan.proofs.matching.known_match.Goals as goal
use Rattle.ly_scan.proofs.matching.known_match.Goals.{else-reaches, then-reaches}

pub returns-in_default-clause-decided : goal.returns-in_default-clause-decided
returns-in_default-clause-decided g c more follows = none_from_start _ (c.args.bytes.now ++ more)
    (g.met.S.Steps.stays_ended c.args.steps.now c.args.condition c.args.at_line_start)
    (some_or_none _ c.in_default.ensures.alive)

pub returns-clause-decided : goal.returns-clause-decided
returns-clause-decided g c more follows =
    let walk : Walk = g.S.Steps.walk c.args.steps.now c.args.condition c.args.at_line_start in
    let start : Walk = g.S.Steps.ahead c.args.steps.now c.in-Some.start in
    let bytes = c.args.bytes.now in
    let best = c.if-reaches.best in
    let known = sym c.is_decided.ensures ∙ c.if-not-is_decided.false in
    let is : IsFound start c.args.ended bytes (found best) = elim c.if-reaches.branch [
      | then-reaches w ↦ subst (λ b. IsFound start c.args.ended bytes (found b)) (sym w.best-is)
          (w.best_by_known-best.ensures.found (subst (λ b. decided b ≡ true) w.best-is known))
      | else-reaches w ↦ subst (λ b. IsFound start c.args.ended bytes (found b)) (sym w.best-is)
          (w.best_by_walk-best.ensures.found (subst (λ b. decided b ≡ true) w.best-is known))
    ] in
    let so = found_along start walk c.args.ended bytes (found best) c.in-Some.ensures.there is in
    c.match_of.ensures walk (bytes ++ more)
    (subst (λ o. IsBest walk (bytes ++ more) (length (bytes ++ more)) o) (sym c.found.ensures)
    (best_known walk bytes more c.args.ended (found best)
    (g.met.S.Steps.stays_ended c.args.steps.now c.args.condition c.args.at_line_start) follows so.decided so.best))
