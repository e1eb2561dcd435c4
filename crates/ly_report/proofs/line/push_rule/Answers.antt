use Rattle.std.proofs.Common.{subst}
use Rattle.ly_join.specs.Grammar.{Grammar, IsGrammar, IsRule}
use Rattle.ly_report.proofs.NameLemmas.{are_named, body_named}
use Rattle.ly_report.proofs.line.push_rule.Goals as goal

pub push_behind_spaces-requires : goal.push_behind_spaces-requires
push_behind_spaces-requires c =
    let rule = c.rule-rule.result.now in
    let same = c.grammar.ensures.grammar in
    let is = subst (λ (G : Grammar). IsRule G c.args.number rule) same c.rule-rule.ensures.there in
    let lawful = subst IsGrammar same c.rule-rule.ensures.lawful in
    are_named c.args.spec.now c.body.result.now rule.body c.body.ensures
    (body_named c.args.spec.now c.grammar.ensures.sizes lawful c.args.number rule is)
