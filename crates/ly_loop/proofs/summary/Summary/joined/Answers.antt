use Rattle.std.proofs.Common.{arith}
use Rattle.ly_loop.proofs.SummaryLemmas.{allowed_joined, comes_wider}
use Rattle.ly_loop.proofs.summary.Summary.joined.Goals as goal

pub returns : goal.returns
returns c m =
    let one = c.args.self in
    let other = c.args.other in
    record {
      allowed = λ first second. allowed_joined m one other _ (omega (arith, c.max.ensures, first.low, second.low))
          c.joined.ensures.one first second;
      first = λ t stack. comes_wider m t stack one _ (omega (arith, c.max.ensures)) c.joined.ensures.first;
      second = λ t stack. comes_wider m t stack other _ (omega (arith, c.max.ensures)) c.joined.ensures.second;
    }
