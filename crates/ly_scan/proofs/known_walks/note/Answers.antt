use Rattle.std.specs.Prelude.{is_ok}
use Rattle.ly_scan.proofs.KnownWalkLemmas.{all_noted}
use Rattle.ly_scan.specs.Private.KnownWalks.{HasStood}
use Rattle.ly_scan.proofs.known_walks.note.Goals as goal

pub returns : goal.returns
returns c = λ walk ahead text one all. all_noted (HasStood walk ahead text) c.args.trail.now.items
    c.push.new.self.items c.args.stand (is_ok c.push.result) c.push.ensures.items all one
