use Rattle.std.proofs.Common.{refl, subst, sym}
use Rattle.std.proofs.lemmas.Result.{IfErr-weaker, IfOk-weaker}
use Rattle.ly_base.specs.Limits.{Sizes}
use Rattle.ly_grammar.specs.Reduction.{KeepsUseful}
use Rattle.ly_join.specs.Grammar.{Grammar}
use Rattle.ly_lr0.proofs.LawLemmas.{no_more}
use Rattle.ly_generate.specs.Accepted.{IsUnfitFor}
use Rattle.ly_explain.proofs.ExplainedLemmas.{both_ok}
use Rattle.ly_explain.proofs.explaining.of_read.Goals as goal

pub of_automaton-requires-clause-useful : goal.of_automaton-requires-clause-useful
of_automaton-requires-clause-useful c =
    subst (λ (G : Grammar). KeepsUseful G c.in_ok-lr0.lr0.grammar) c.grammar.ensures.grammar
    (subst (λ (R : Grammar). KeepsUseful c.grammar.result.now R) (sym c.in_ok-lr0.ensures.grammar)
    c.in_ok-reduced.ensures.ok.keeps)

pub returns-clause-fit : goal.returns-clause-fit
returns-clause-fit c =
    let M = c.in_ok-lr0.lr0 in
    let lawful = c.in_ok-lr0.ensures.automaton in
    IfOk-weaker c.of_automaton.result _ _
    (λ e both. (
      (
        M.grammar,
        record {
          useful_rules = subst (λ (G : Grammar). KeepsUseful G M.grammar) c.grammar.ensures.grammar
              (subst (λ (R : Grammar). KeepsUseful c.grammar.result.now R) (sym c.in_ok-lr0.ensures.grammar)
              c.in_ok-reduced.ensures.ok.keeps);
          reduced = lawful.reduced;
          few = no_more M c.args.limits.now.parser_states lawful c.in_ok-lr0.ensures.few;
          steady = both.1;
        },
      ),
      both.0,
    ))
    (both_ok c.of_automaton.result _ _ c.of_automaton.ensures.found c.of_automaton.ensures.steady)

pub returns-clause-unfit : goal.returns-clause-unfit
returns-clause-unfit c = IfErr-weaker c.of_automaton.result
    (λ fault. (limits : Sizes) → IsUnfitFor limits c.args.read.spec.now fault)
    (IsUnfitFor c.args.limits.now c.args.read.spec.now) (λ fault unfit. unfit c.args.limits.now)
    c.of_automaton.ensures.unfit
