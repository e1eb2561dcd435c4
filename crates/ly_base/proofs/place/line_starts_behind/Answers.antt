use Rattle.ly_base.proofs.PlaceLemmas.{after_last}
use Rattle.ly_base.proofs.place.line_starts_behind.Goals as goal

pub returns-in-Some : goal.returns-in-Some
returns-in-Some c = after_last c.args.before c.args.passed.now c.in-Some.byte.now c.in-Some.ensures.value
