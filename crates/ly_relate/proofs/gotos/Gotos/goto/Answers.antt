use Rattle.std.proofs.Common.{◌∙◌, arith, length, sym, ap, subst}
use Rattle.std.proofs.lemmas.Option.{same_Some, slice_get_within}
use Rattle.ly_join.specs.Grammar.{nonterminal, symbol_of}
use Rattle.ly_lr0.specs.Automaton.{goto_of}
use Rattle.ly_relate.specs.Private.Gotos.{IsNumbering}
use Rattle.ly_relate.specs.Values.{goto_from}
use Rattle.ly_relate.proofs.GotoLemmas.{at_number, numbered_are}
use Rattle.ly_relate.proofs.gotos.Gotos.goto.Goals as goal

pub returns-in_ok-number-in-Nonterminal-clause-leads : goal.returns-in_ok-number-in-Nonterminal-clause-leads
returns-in_ok-number-in-Nonterminal-clause-leads c =
    let n = c.args.self.now in
    let M = n.automaton in
    let g = c.index.result.now in
    let k = c.in_ok-number-in-Nonterminal.number in
    let found = c.in_ok-number-in-Nonterminal.ensures in
    let at = at_number n c.self.inside.gotos.items k (length n.gotos) g (ap (λ n. n.gotos) c.self.view_is)
    (omega arith) (slice_get_within n.gotos k found.0 found.1) c.index.ensures in
    let same = same_Some found.0 (goto_from g) (sym found.1 ∙ at) in
    let leads = (numbered_are n (subst IsNumbering c.self.view_is c.self.invariant)).are k (goto_from g) at in
    sym leads ∙ ap (λ q. goto_of M q (nonterminal g.symbol.0)) (ap (λ x. x.from) (sym same) ∙ found.2)
    ∙ ap (λ A. goto_of M c.args.state.0 (nonterminal A)) (ap (λ x. x.symbol) (sym same) ∙ found.3)
    ∙ ap (λ X. goto_of M c.args.state.0 (symbol_of X)) (sym c.in-Nonterminal.is)
