use Rattle.ly_scan.proofs.KnownWalkLemmas.{known_again}
use Rattle.ly_scan.proofs.known_walks.make_room.Goals as goal

pub returns-else-is_err : goal.returns-else-is_err
returns-else-is_err c = λ ahead ended text known. known_again ahead ended text c.args.found.now.entries
    c.reserve.new.self.entries c.reserve.ensures.entries.2 known
