use Rattle.std.proofs.Common.{◌≡◌, ◌∙◌, None, ap, length, map, subst, sym}
use Rattle.std.specs.Prelude.{replicate}
use Rattle.ly_join.specs.Grammar.{IsGrammar}
use Rattle.ly_lr0.specs.Automaton.{IsLr0Automaton}
use Rattle.ly_pack.specs.Rows.{dense_entry}
use Rattle.ly_pack.specs.Values.{rule_from}
use Rattle.ly_emit.specs.Private.Filling.{AreGotosTo, AreRulesTo}
use Rattle.ly_emit.specs.Tables.{AreTables}
use Rattle.ly_emit.proofs.FillLemmas.{are_tables, is_machine}
use Rattle.ly_emit.proofs.tables.machine.Goals as goal

pub new-requires-clause-whole : goal.new-requires-clause-whole
new-requires-clause-whole c =
    let s = c.args.resolved.now.spec in
    let M = c.args.resolved.now.automaton in
    let spec = ap (λ x. x.grammar) c.spec-spec.ensures.these in
    let none : c.in_ok-defaults.defaults.items ≡ replicate (length M.states) None
    = c.in_ok-defaults.ensures ∙ ap (λ n. replicate n None) (c.states.ensures.count
    ∙ ap (λ m. length m.states) c.lr0-lr0.ensures.these) in
    let led = subst (λ m. AreGotosTo m (length m.states) (dense_entry c.in_ok-gotos.gotos)) c.lr0-lr0.ensures.these
    c.in_ok-gotos.ensures.filled in
    let rules = subst (λ x. AreRulesTo x (length x.grammar.rules) (map rule_from c.in_ok-rules.rules.items))
    c.spec-spec.ensures.these c.in_ok-rules.ensures.rules in
    is_machine s M (subst IsLr0Automaton c.lr0-lr0.ensures.these c.states.ensures.lawful)
    c.lr0-lr0.ensures.useful c.terminals.result c.accept.result.0 (dense_entry c.in_ok-actions.actions)
    (dense_entry c.in_ok-gotos.gotos) c.in_ok-defaults.defaults.items c.in_ok-rules.rules.items
    (c.terminals.ensures ∙ ap (λ g. g.terminals) (c.grammar.ensures.grammar ∙ spec))
    (c.accept.ensures ∙ ap (λ g. g.accept) (c.grammar-2.ensures.grammar ∙ spec)) none
    c.in_ok-actions.ensures.filled led rules
    (subst (λ x. IsGrammar x.grammar) c.spec-spec.ensures.these c.table_rules.ensures.lawful) c.requires

pub returns : goal.returns
returns c =
    let s = c.args.resolved.now.spec in
    let M = c.args.resolved.now.automaton in
    let spec = ap (λ x. x.grammar) c.spec-spec.ensures.these in
    let none : c.in_ok-defaults.defaults.items ≡ replicate (length M.states) None
    = c.in_ok-defaults.ensures ∙ ap (λ n. replicate n None) (c.states.ensures.count
    ∙ ap (λ m. length m.states) c.lr0-lr0.ensures.these) in
    let led = subst (λ m. AreGotosTo m (length m.states) (dense_entry c.in_ok-gotos.gotos)) c.lr0-lr0.ensures.these
    c.in_ok-gotos.ensures.filled in
    let rules = subst (λ x. AreRulesTo x (length x.grammar.rules) (map rule_from c.in_ok-rules.rules.items))
    c.spec-spec.ensures.these c.in_ok-rules.ensures.rules in
    subst (AreTables s M) (sym c.new.ensures) (are_tables s M
    (subst IsLr0Automaton c.lr0-lr0.ensures.these c.states.ensures.lawful)
    c.lr0-lr0.ensures.useful c.terminals.result c.accept.result.0 (dense_entry c.in_ok-actions.actions)
    (dense_entry c.in_ok-gotos.gotos) c.in_ok-defaults.defaults.items c.in_ok-rules.rules.items
    (c.terminals.ensures ∙ ap (λ g. g.terminals) (c.grammar.ensures.grammar ∙ spec))
    (c.accept.ensures ∙ ap (λ g. g.accept) (c.grammar-2.ensures.grammar ∙ spec)) none
    c.in_ok-actions.ensures.filled led rules)
