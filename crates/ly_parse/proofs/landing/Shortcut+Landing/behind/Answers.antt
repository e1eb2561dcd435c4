use Rattle.std.proofs.Common.{refl, sym}
use Rattle.ly_parse.specs.Private.Shortcuts.{at_once, behind}
use Rattle.ly_parse.proofs.LandingLemmas.{situated}
use Rattle.ly_parse.proofs.landing.Shortcut+Landing.behind.Goals as goal

pub returns-in_default : goal.returns-in_default
returns-in_default g c = at_once (sym c.in_default.ensures)

pub find-requires-clause-from : goal.find-requires-clause-from
find-requires-clause-from g c =
    situated c.args.machine.now c.args.from
    (record { below = c.args.from.below; top = c.in-Some.top; terminal = c.args.from.terminal }) c.requires.machine
    (record { goto = sym c.in-Some.ensures; below = refl; terminal = refl }) c.requires.below c.requires.terminal

pub returns-in_default-find : goal.returns-in_default-find
returns-in_default-find g c =
    behind (record { below = c.args.from.below; top = c.in-Some.top; terminal = c.args.from.terminal })
    (record { goto = sym c.in-Some.ensures; below = refl; terminal = refl }) c.in_default-find.ensures
