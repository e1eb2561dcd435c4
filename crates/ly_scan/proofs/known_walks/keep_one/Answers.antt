use Rattle.std.proofs.Common.{sym}
use Rattle.ly_scan.proofs.KnownWalkLemmas.{one_known, where_ok}
use Rattle.ly_scan.proofs.known_walks.keep_one.Goals as goal

pub returns-else-is_err : goal.returns-else-is_err
returns-else-is_err c = λ ahead ended text is known.
    one_known ahead ended text c.args.found.now.entries c.insert.new.self.entries c.args.stand c.args.longest
    (where_ok c.insert.result (sym c.if-is_err.ensures.value) c.insert.ensures.updates).0 is known
