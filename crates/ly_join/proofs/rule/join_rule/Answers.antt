use Rattle.std.proofs.Common.{All, length, map, subst, sym}
use Rattle.ly_yaccread.specs.File.{ruling_of, symbol_word}
use Rattle.ly_join.specs.Grammar.{symbol_of}
use Rattle.ly_join.specs.Private.Rules.{table_from, HasLiteral, IsBelow}
use Rattle.ly_join.proofs.RuleLemmas.{body_below, body_literals, prec_literals}
use Rattle.ly_join.proofs.rule.join_rule.Goals as goal

pub join_body-requires : goal.join_body-requires
join_body-requires c =
    subst (λ xs. All (HasLiteral c.args.table.now.terminals) (map symbol_word xs)) (sym c.deref-2.ensures.value)
    (body_literals (table_from c.args.table.now) (ruling_of c.args.production.now) c.requires.covered)

pub rule_precedence-requires-clause-literal : goal.rule_precedence-requires-clause-literal
rule_precedence-requires-clause-literal c =
    prec_literals (table_from c.args.table.now) (ruling_of c.args.production.now) c.requires.covered

pub rule_precedence-requires-clause-within : goal.rule_precedence-requires-clause-within
rule_precedence-requires-clause-within c =
    subst (λ xs. All (IsBelow (length c.args.table.now.terminals)) (map symbol_of xs)) (sym c.deref-3.ensures.value)
    (body_below (table_from c.args.table.now) (map symbol_word c.deref-2.result.now)
    (map symbol_of c.in_ok-body.body.items) c.in_ok-body.ensures.ok)
