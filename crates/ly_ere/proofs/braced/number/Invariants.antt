use Rattle.std.proofs.Common.{◌≡◌, ◌≤◌, take}
use Rattle.ly_base.specs.Escapes.{number}
use Rattle.ly_ere.proofs.braced.number.Given as goal

abbrev pub invariant-loop-digit : goal.invariant-loop-digit
invariant-loop-digit l = record {
  so_far : l.number ≡ number 10 (take l.digit-index l.digits);
  small : l.number ≤ 255;
}
