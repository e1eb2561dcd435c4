use Rattle.std.proofs.Common.{subst}
use Rattle.ly_pack.specs.Steady.{IsSteady}
use Rattle.ly_tests.proofs.parses.is_steady_and_answers.Goals as goal

pub answers_all_so-requires : goal.answers_all_so-requires
answers_all_so-requires g c = subst IsSteady c.view.ensures c.in-Ok.ensures.ok
