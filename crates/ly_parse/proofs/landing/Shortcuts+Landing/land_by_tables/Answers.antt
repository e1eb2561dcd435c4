use Rattle.ly_parse.proofs.LandingLemmas.{lands_known, lands_there}
use Rattle.ly_parse.proofs.landing.Shortcuts+Landing.land_by_tables.Goals as goal

pub returns-clause-ok : goal.returns-clause-ok
returns-clause-ok g c =
    lands_there c.args.machine.now
    (record { below = c.args.below; left = c.args.left; terminal = c.args.terminal }) c.in-Some.shortcut
    c.in-Some.ensures

pub returns-clause-known : goal.returns-clause-known
returns-clause-known g c =
    lands_known c.args.machine.now
    (record { below = c.args.below; left = c.args.left; terminal = c.args.terminal }) c.in-Some.shortcut
    c.requires.machine c.in-Some.ensures
