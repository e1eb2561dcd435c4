use Rattle.std.proofs.Common.{◌+◌, arith, length, refl, subst, sym}
use Rattle.ly_scan.proofs.KnownWalkLemmas.{found_some}
use Rattle.ly_scan.proofs.WalkLemmas.{ends_best, ends_within}
use Rattle.ly_scan.specs.Walk.{IsBest, Walk}
use Rattle.ly_scan.proofs.matching.best_by_walk.Goals as goal
use Rattle.ly_scan.proofs.matching.best_by_walk.Goals.{else-passed-bytes-via-else-passed-bytes}
use Rattle.ly_scan.proofs.matching.best_by_walk.Goals.{else-passed-bytes-via-then-passed-bytes+else-not-ended}

pub returns-in-Some-clause-found : goal.returns-in-Some-clause-found
returns-in-Some-clause-found g c = λ known.
    let walk : Walk = g.S.Steps.ahead c.args.steps.now c.args.start in
    let bytes = c.args.bytes.now in
    let walked = c.walk_on-passed in record {
      best = subst (IsBest walk bytes (length bytes))
          (sym (found_some (record { length = walked.result.0; rule = c.in-Some.rule }) c.if-passed-gt0.true))
          (ends_best walk walk (g.S.Steps.ahead c.args.steps.now walked.result.1) bytes walked.result.0 c.in-Some.rule
          c.requires.start.ends c.if-passed-gt0.true walked.ensures.within (λ more. refl) walked.ensures.ahead
          walked.ensures.alive c.in-Some.ensures walked.ensures.ended);
      decided = λ on. elim c.else-passed-bytes.branch [
        | else-passed-bytes-via-then-passed-bytes+else-not-ended w ↦ absurd cc
        | else-passed-bytes-via-else-passed-bytes w ↦ ends_within walk walk bytes (walked.result.0 + 1)
            c.requires.start.ends (λ more. refl) (walked.ensures.ended (omega arith))
      ];
    }

pub returns-in_default-clause-found : goal.returns-in_default-clause-found
returns-in_default-clause-found g c = λ known.
    let walk : Walk = g.S.Steps.ahead c.args.steps.now c.args.start in
    let bytes = c.args.bytes.now in
    let walked = c.walk_on-passed in record {
      best = c.best_passed.ensures.found;
      decided = λ on. elim c.else-passed-bytes.branch [
        | else-passed-bytes-via-then-passed-bytes+else-not-ended w ↦ absurd cc
        | else-passed-bytes-via-else-passed-bytes w ↦ ends_within walk walk bytes (walked.result.0 + 1)
            c.requires.start.ends (λ more. refl) (walked.ensures.ended (omega arith))
      ];
    }
