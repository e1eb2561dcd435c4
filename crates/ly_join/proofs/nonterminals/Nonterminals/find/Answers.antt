use Rattle.std.proofs.Common.{sym, ◌∙◌}
use Rattle.ly_join.proofs.NonterminalLemmas.{absent_name, found_name}
use Rattle.ly_join.proofs.nonterminals.Nonterminals.find.Goals as goal

pub returns-in_err-number : goal.returns-in_err-number
returns-in_err-number c =
    rw (c.from_residual.ensures, ← c.self.view_is)
    (absent_name (λ k. k.now) c.self.inside.names.keys c.args.name.now
    (sym c.get_index_of.ensures.index ∙ c.in_err-number.was))

pub returns : goal.returns
returns c = rw (← c.self.view_is)
    (found_name (λ k. k.now) c.self.inside.names.keys c.args.name.now c.in_ok-number.number
    (sym c.in_ok-number.ensures.index))
