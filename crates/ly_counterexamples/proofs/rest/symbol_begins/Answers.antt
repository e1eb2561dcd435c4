use Rattle.std.proofs.Common.{◌∙◌, sym, subst, [], ◌∷◌}
use Rattle.std.proofs.lemmas.Bool.{eq-eqb, eqb-true}
use Rattle.ly_join.specs.Grammar.{symbol_of}
use Rattle.ly_grammar.specs.Derivations.{BeginsYield}
use Rattle.ly_counterexamples.proofs.RestLemmas.{begins_terminal}
use Rattle.ly_counterexamples.proofs.rest.symbol_begins.Goals as goal

pub returns-in-Terminal : goal.returns-in-Terminal
returns-in-Terminal c =
    let G = c.args.reduced.now.grammar in
    let k = c.in-Terminal.number.0 in
    let t = c.args.terminal.0 in
    let it = begins_terminal G k t in (
      λ yes. subst (λ X. BeginsYield G (symbol_of X ∷ []) t) (sym c.in-Terminal.is)
          (it.0 (eqb-true k t (sym c.eq.ensures ∙ yes))),
      λ begins. c.eq.ensures ∙ eq-eqb k t
          (it.1 (subst (λ X. BeginsYield G (symbol_of X ∷ []) t) c.in-Terminal.is begins)),
    )
