use Rattle.std.proofs.Common.{◌∙◌, ap, inl, inr}
use Rattle.ly_join.specs.Grammar.{nonterminal}
use Rattle.ly_lr0.specs.Automaton.{goto_of}
use Rattle.ly_counterexamples.proofs.BackLemmas.{kept_is, leaves}
use Rattle.ly_counterexamples.proofs.steps.is_begun.Goals as goal
use Rattle.ly_counterexamples.proofs.steps.is_begun.Goals.{then-rule-eq0, else-rule-eq0}

pub returns-else-state-eq0 : goal.returns-else-state-eq0
returns-else-state-eq0 c =
    let M = c.args.ground.now.lr0.now in
    let k = c.requires.kept in
    let same = kept_is c.grammar.result.now c.reduced.result.now.grammar M.grammar
    c.args.rule c.rule.result.now k.0 c.grammar.ensures.keeps c.reduced.ensures c.rule.ensures.there k.1 in
    leaves M c.args.state.0 c.args.rule k.0 c.goto.result c.is_some.result k.1
    (c.goto.ensures ∙ ap (λ n. goto_of M c.args.state.0 (nonterminal n)) (c.left-left.ensures ∙ ap (λ r. r.left) same))
    (λ z s. elim c.if-rule-eq0.branch [
      | then-rule-eq0 w ↦ elim c.if-state-eq0.either [ inl both ↦ both.1 s | inr other ↦ other z ]
      | else-rule-eq0 w ↦ absurd (w.if-rule-eq0.false z)
    ]) c.is_some.ensures
