use Rattle.std.proofs.Common.{◌≡◌, ◌<◌, ◌≤◌, ◌-◌, ℕ, slice_get, Some}
use Rattle.ly_relate.specs.Related as spec
use Rattle.ly_relate.proofs.gotos.Gotos.first_from.Given as goal

-- those before low are less, and those from high on aren't
abbrev pub invariant-loop-low : goal.invariant-loop-low
invariant-loop-low l = record {
  start : l.initial.low ≤ l.low;
  between : l.low ≤ l.high;
  end : l.high ≤ l.initial.high;
  less : (n : ℕ) (x : spec.Goto) → l.initial.low ≤ n → n < l.low → slice_get l.self.gotos n ≡ Some x
      → x.symbol < l.symbol.0;
  not_less : (n : ℕ) (x : spec.Goto) → l.high ≤ n → n < l.initial.high → slice_get l.self.gotos n ≡ Some x
      → l.symbol.0 ≤ x.symbol;
}

abbrev pub decreases-loop-low : goal.decreases-loop-low
decreases-loop-low l = l.high - l.low
