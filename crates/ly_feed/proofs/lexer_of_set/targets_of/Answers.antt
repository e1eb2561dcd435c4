use Rattle.std.proofs.Common.{None, arith, refl}
use Rattle.std.proofs.lemmas.List.{get_or-replicate}
use Rattle.ly_feed.proofs.lexer_of_set.targets_of.Goals as goal

pub loop-class-init : goal.loop-class-init
loop-class-init c = record {
  count = refl;
  looked_up = λ class lt. absurd (omega (arith, lt));
  left = λ class from lt. get_or-replicate 256 class None None lt;
}
