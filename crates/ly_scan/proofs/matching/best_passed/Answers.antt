use Rattle.std.proofs.Common.{length}
use Rattle.ly_scan.proofs.WalkLemmas.{some_byte}
use Rattle.ly_scan.proofs.matching.best_passed.Goals as goal

pub of-requires : goal.of-requires
of-requires g c = some_byte (g.S.Steps.ahead c.args.steps.now c.args.start) c.args.rest.now
    (length c.args.rest.now) c.best_of_all.result c.best_of_all.ensures
