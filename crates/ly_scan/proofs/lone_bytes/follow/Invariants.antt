use Rattle.std.proofs.Common.{◌≡◌, ◌<◌, ℕ, [], ◌∷◌, None, get_or, length}
use Rattle.std.specs.Prelude.{false}
use Rattle.ly_scan.proofs.lone_bytes.follow.Given as goal

abbrev pub invariant-loop-next : goal.invariant-loop-next
invariant-loop-next g l = record {
  long : length l.goes_on.items ≡ 256;
  kept : (c : ℕ) → get_or l.goes_on.items c false ≡ false → get_or l.fn.goes_on.items c false ≡ false;
  ended : (c : ℕ) → c < l.next → get_or l.goes_on.items c false ≡ false
      → g.S.Steps.walk l.steps 0 l.line (l.byte ∷ c ∷ []) ≡ None;
}
