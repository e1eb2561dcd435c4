use Rattle.std.proofs.Common.{◌≡◌, ◌∙◌, ◌+◌, ◌-◌, ◌++◌, [], None, ap, arith}
use Rattle.std.proofs.Common.{is_some, length, refl, subst, sym, take, true}
use Rattle.std.proofs.lemmas.List.{take_more}
use Rattle.std.specs.Prelude.{All, option_copied}
use Rattle.ly_scan.proofs.KnownWalkLemmas.{found_joined, found_there, found_within}
use Rattle.ly_scan.proofs.WalkLemmas.{best_ended, best_stepped, ends_within, some_or_none, stands_next}
use Rattle.ly_scan.specs.KnownWalks.{IsFound}
use Rattle.ly_scan.specs.Private.KnownWalks.{HasStood}
use Rattle.ly_scan.specs.Walk.{IsBest, Walk}
use Rattle.ly_scan.proofs.known_walks.walk_on_known.Goals as goal
use Rattle.ly_scan.proofs.known_walks.walk_on_known.Goals.{else-left-eq0, then-left-eq0+in_default-known_at}

pub returns-in_default-clause-found : goal.returns-in_default-clause-found
returns-in_default-clause-found g c =
    let walk : Walk = g.S.Steps.ahead c.args.steps.now c.args.start in
    let bytes = c.args.bytes.now in
    let count = c.loop-count.count in
    let dead : walk (take (count + 1) bytes) ≡ None = ap walk (take_more bytes count 0 c.loop-count-test.true)
    ∙ sym (c.loop-count.invariant.ahead _) ∙ some_or_none _ c.in_default.ensures.alive in record {
      best = best_ended walk bytes count c.loop-count.longest c.loop-count.auto.count-end c.requires.start.ends dead
          c.loop-count.invariant.longest;
      decided = λ e. ends_within walk walk bytes (count + 1) c.requires.start.ends (λ more. refl) dead;
    }

pub joined-requires-clause-ahead : goal.joined-requires-clause-ahead
joined-requires-clause-ahead g c =
    let bytes = c.args.bytes.now in
    let left = length bytes - (c.loop-count.count + 1) in
    found_within (g.S.Steps.ahead_by c.args.steps.now c.number.result) c.args.ended bytes left
    c.in-Some-known_at.ahead.now
    (omega arith)
    (found_there (g.S.Steps.ahead_by c.args.steps.now) c.args.ended bytes c.args.found.now.entries c.number.result left
    c.in-Some-known_at.ahead.now (omega arith) c.requires.known
    (sym c.known_at.ensures ∙ ap option_copied c.in-Some-known_at.is))

pub returns-in-Some-known_at-clause-found : goal.returns-in-Some-known_at-clause-found
returns-in-Some-known_at-clause-found g c =
    let walk : Walk = g.S.Steps.ahead c.args.steps.now c.args.start in
    let here : Walk = g.S.Steps.ahead c.args.steps.now c.loop-count.at in
    let there : Walk = g.S.Steps.ahead c.args.steps.now c.in-Some.next in
    let ahead = g.S.Steps.ahead_by c.args.steps.now in
    let bytes = c.args.bytes.now in
    let count = c.loop-count.count in
    let left = length bytes - (count + 1) in
    let passed : length bytes - left ≡ count + 1 = omega (arith, c.loop-count-test.true) in
    let stands = c.loop-count.invariant.ahead in
    let on = c.in-Some.ensures.there in
    let so_far = best_stepped walk here there bytes count c.accept.result c.loop-count.longest c.loop-count-test.true
    stands on (ap is_some (on []) ∙ sym c.in-Some.ensures.alive) c.accept.ensures c.loop-count.invariant.longest in
    subst (IsFound walk c.args.ended bytes) (sym c.joined.ensures)
    (found_joined walk (ahead c.number.result) c.args.ended bytes left c.better-longest.result
    c.in-Some-known_at.ahead.now
    (λ more. ap (λ k. walk (take k bytes ++ more)) passed
    ∙ sym (stands_next walk here there bytes count c.loop-count-test.true stands on more) ∙ c.number.ensures more)
    (subst (λ k. IsBest walk bytes k c.better-longest.result) (sym passed)
    (subst (IsBest walk bytes (count + 1)) (sym c.better-longest.ensures) so_far))
    (found_there ahead c.args.ended bytes c.args.found.now.entries c.number.result left c.in-Some-known_at.ahead.now
    (omega arith) c.requires.known (sym c.known_at.ensures ∙ ap option_copied c.in-Some-known_at.is)))

pub loop-count-preserved : goal.loop-count-preserved
loop-count-preserved g c =
    let walk : Walk = g.S.Steps.ahead c.args.steps.now c.args.start in
    let here : Walk = g.S.Steps.ahead c.args.steps.now c.loop-count.at in
    let there : Walk = g.S.Steps.ahead c.args.steps.now c.in-Some.next in
    let bytes = c.args.bytes.now in
    let count = c.loop-count.count in
    let stands = c.loop-count.invariant.ahead in
    let on = c.in-Some.ensures.there in
    let alive : is_some (there []) ≡ true = ap is_some (on []) ∙ sym c.in-Some.ensures.alive in
    let further = stands_next walk here there bytes count c.loop-count-test.true stands on in record {
      stands = c.in-Some.ensures.stands;
      alive = alive;
      ahead = further;
      longest = subst (IsBest walk bytes (count + 1)) (sym c.better-longest.ensures)
          (best_stepped walk here there bytes count c.accept.result c.loop-count.longest c.loop-count-test.true stands
          on alive c.accept.ensures c.loop-count.invariant.longest);
      trail = elim c.if-left-eq0.branch [
        | then-left-eq0+in_default-known_at w ↦
            let left = length bytes - (count + 1) in
            let passed : length bytes - left ≡ count + 1 = omega (arith, c.loop-count-test.true) in
            subst (λ t. All (HasStood walk (g.S.Steps.ahead_by c.args.steps.now) bytes) t.items) (sym w.trail-is)
            (w.note-noted.ensures walk (g.S.Steps.ahead_by c.args.steps.now) bytes (
              omega arith,
              λ more. ap (λ k. walk (take k bytes ++ more)) passed ∙ sym (further more)
                  ∙ w.number.ensures more,
            ) c.loop-count.invariant.trail)
        | else-left-eq0 w ↦ subst (λ t. All (HasStood walk (g.S.Steps.ahead_by c.args.steps.now) bytes) t.items)
            (sym w.trail-is) c.loop-count.invariant.trail
      ];
    }

pub returns-then-ended-clause-found : goal.returns-then-ended-clause-found
returns-then-ended-clause-found g c = record {
  best = subst (λ k. IsBest (g.S.Steps.ahead c.args.steps.now c.args.start) c.args.bytes.now k c.loop-count.longest)
      (let e : c.loop-count.count ≡ length c.args.bytes.now
      = omega (arith, c.loop-count-test.false, c.loop-count.auto.count-end) in e) c.loop-count.invariant.longest;
  decided = λ e. absurd cc;
}
