use Rattle.std.proofs.Common.{sym, subst}
use Rattle.ly_pack.specs.Steady.{IsSteady}
use Rattle.ly_tests.proofs.parses.answers_so.Goals as goal

-- the view is the machine, which is steady
pub new-parser-requires : goal.new-parser-requires
new-parser-requires g c = subst IsSteady (sym c.view.ensures) c.requires
