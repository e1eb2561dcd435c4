use Rattle.std.proofs.Common.{◌∙◌, sym}
use Rattle.ly_join.proofs.NonterminalLemmas.{last_known, on_true}
use Rattle.ly_join.proofs.TableLemmas.{same_bytes}
use Rattle.ly_join.proofs.nonterminals.Nonterminals.is_last.Goals as goal

pub returns-in-Some : goal.returns-in-Some
returns-in-Some c =
    let name = c.args.name.now in
    on_true c.eq.result (λ e. last_known (λ k. k.now) c.self.inside.names.keys c.as_slice.result.now c.in-Some.last.now
    name c.args.self.now c.as_slice.ensures.keys c.self.view_is (sym c.in-Some.ensures.value)
    (same_bytes c.in-Some.last.now.now name (sym c.eq.ensures ∙ e)))
