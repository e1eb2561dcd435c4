use Rattle.std.proofs.Common.{rules}
use Rattle.ly_ere.proofs.ArenaLemmas.{length-expressions}
use Rattle.ly_ere.proofs.arena.Arena.len.Goals as goal

pub returns : goal.returns
returns c = rw (← c.self.view_is, length-expressions c.self.inside.nodes.items) (search rules)
