use Rattle.std.proofs.Common.{◌∙◌, ap, sym, length}
use Rattle.ly_ere.proofs.ArenaLemmas.{length-expressions}
use Rattle.ly_ere.proofs.arena.Arena.nodes.Goals as goal

pub returns-clause-counted : goal.returns-clause-counted
returns-clause-counted c =
    ap length c.deref.ensures.value ∙ (sym (length-expressions c.self.inside.nodes.items) ∙ ap length c.self.view_is)
