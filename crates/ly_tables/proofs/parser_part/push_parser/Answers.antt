use Rattle.std.proofs.Common.{◌≡◌, ◌++◌, sym, subst, map, All, OnOk, List, Option}
use Rattle.std.specs.Option.{option_map}
use Rattle.std.proofs.lemmas.Result.{on_ok_weaker}
use Rattle.ly_base.specs.declared.numbers.RuleNo.{RuleNo}
use Rattle.ly_base.specs.declared.numbers.StateNo.{StateNo}
use Rattle.ly_pack.specs.Values.{action_from, rule_from}
use Rattle.ly_pack.specs.declared.rule.TableRule as code
use Rattle.ly_tables.specs.Private.Short.{IsRuleWritten, OptionFits}
use Rattle.ly_tables.specs.Spelling.{action_number, comb, parser_sections}
use Rattle.ly_tables.specs.TableSet.{TableSet}
use Rattle.ly_tables.proofs.JoinLemmas.{parser_joined}
use Rattle.ly_tables.proofs.RangeLemmas.{actions_short, defaults_short, gotos_short, rules_written}
use Rattle.ly_tables.specs.Ranges.{IsWithinVersion, width_of}
use Rattle.ly_tables.proofs.parser_part.push_parser.Goals as goal

pub push_rules-requires-clause-short : goal.push_rules-requires-clause-short
push_rules-requires-clause-short c = subst (λ (rules : List code.TableRule). All (IsRuleWritten (width_of
    c.args.version)) (map rule_from rules))
    (sym c.deref.ensures.value) (rules_written c.args.version _ (subst (IsWithinVersion c.args.version) (sym
    c.set.view_is) c.requires))

pub push_defaults-requires-clause-short : goal.push_defaults-requires-clause-short
push_defaults-requires-clause-short c = subst (λ (defaults : List (Option RuleNo)).
    All (OptionFits (width_of c.args.version)) (map (option_map (λ p. p.0)) defaults)) (sym c.deref-2.ensures.value)
    (defaults_short c.args.version _ (subst (IsWithinVersion c.args.version) (sym c.set.view_is) c.requires))

pub push_comb-requires-clause-slots : goal.push_comb-requires-clause-slots
push_comb-requires-clause-slots c = actions_short c.args.version _
    (subst (IsWithinVersion c.args.version) (sym c.set.view_is) c.requires)

pub push_comb-requires-2-clause-slots : goal.push_comb-requires-2-clause-slots
push_comb-requires-2-clause-slots c = gotos_short c.args.version _
    (subst (IsWithinVersion c.args.version) (sym c.set.view_is) c.requires)

pub returns : goal.returns
returns c =
    let w = width_of c.args.version in
    let i = c.set.inside.parts in
    subst (λ (s : TableSet). OnOk c.push_comb-2.result
    (c.push_comb-2.new.out.items ≡ c.args.out.now.items ++ parser_sections w s)) c.set.view_is
    (on_ok_weaker c.push_comb-2.result (parser_joined w c.args.out.now.items i.rules.items i.defaults.items
    (comb w (λ a. action_number w (action_from a)) i.actions) (comb w (λ (n : StateNo). n.0) i.gotos)
    (rw c.deref.ensures.value at c.in_ok-push_rules.ensures)
    (rw c.deref-2.ensures.value at c.in_ok-push_defaults.ensures) c.in_ok-push_comb.ensures) c.push_comb-2.ensures)
