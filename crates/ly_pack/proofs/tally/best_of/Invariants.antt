use Rattle.std.proofs.Common.{◌≡◌, ◌<◌, length}
use Rattle.std.specs.Prelude.{MatchOption}
use Rattle.ly_pack.specs.Private.Tally.{IsBestOf}
use Rattle.ly_pack.proofs.tally.best_of.Given as goal

abbrev pub invariant-loop-rule : goal.invariant-loop-rule
invariant-loop-rule l = record {
  best : MatchOption l.best (l.rule-index ≡ 0) (λ p. IsBestOf l.rules l.counts l.rule-index p.0);
  within : MatchOption l.best (Unit {0}) (λ p. p.0 < length l.counts);
}
