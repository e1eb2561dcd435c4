use Rattle.std.proofs.Common.{◌≡◌, ◌∙◌, Contains, Some, ap, length, map, subst, sym}
use Rattle.std.proofs.lemmas.List.{length-map}
use Rattle.std.proofs.lemmas.Result.{IfOk-weaker}
use Rattle.ly_base.specs.declared.numbers.Sym.{Sym}
use Rattle.ly_join.specs.Grammar.{symbol_of, terminal}
use Rattle.ly_join.specs.Terminals.{terminal_from}
use Rattle.ly_counterexamples.specs.Doubts.{AreRising, IsUnused, IsUsed}
use Rattle.ly_counterexamples.specs.Private.Marks.{AreMarked}
use Rattle.ly_counterexamples.specs.Private.Unmarked.{IsUnmarked, StandsIn}
use Rattle.ly_counterexamples.proofs.MarkLemmas.{added_as, step_added}
use Rattle.ly_counterexamples.proofs.RisingLemmas.{rising_as}
use Rattle.ly_counterexamples.proofs.SentenceLemmas.{rule_kept}
use Rattle.ly_counterexamples.proofs.UnmarkedLemmas.{stands_in, unmarked_as, used_marked}
use Rattle.ly_counterexamples.proofs.unused.unused_terminals.Goals as goal

pub loop-rule-preserved : goal.loop-rule-preserved
loop-rule-preserved c =
    let s = c.args.spec.now in
    let k = c.loop-rule.rule-index in
    let r = c.rule-item.result in
    let old = c.loop-rule.used in
    let new = c.mark_body.new.used in
    let these = c.rules-rule-items.ensures.these ∙ ap (λ g. g.rules) c.grammar.ensures.grammar in
    let rule = rule_kept s.grammar c.rules-rule-items.result.now these k r c.loop-rule-test.true c.rule-item.is in
    let body = map symbol_of c.body.result.now in
    step_added (StandsIn s) k c.in_ok-used.used old new c.loop-rule.invariant
    (added_as (λ t. Contains body (terminal t)) (StandsIn s k) old new
    (stands_in s k r rule body c.body.ensures) c.mark_body.ensures)

pub returns : goal.returns
returns c =
    let s = c.args.spec.now in
    let rules = c.rules-rule-items.result.now in
    let used = c.loop-rule.used in
    let these = c.rules-rule-items.ensures.these ∙ ap (λ g. g.rules) c.grammar.ensures.grammar in
    let all : length s.grammar.rules ≡ length rules = ap length (sym these) ∙ length-map rules (λ r. Some r) in
    let names = c.terminals.result.now in
    let long : length names ≡ length s.terminals
    = sym (length-map names terminal_from) ∙ ap length c.terminals.ensures in
    let empty : AreMarked (length s.terminals) (λ t. ⊥) c.in_ok-used.used
    = subst (λ n. AreMarked n (λ t. ⊥) c.in_ok-used.used) long c.in_ok-used.ensures in
    let marked = used_marked s c.loop-rule.rule-index (length rules) c.loop-rule-test.false all c.in_ok-used.used used
    empty c.loop-rule.invariant in
    IfOk-weaker c.unmarked_terminals.result (λ found. AreRising (IsUnmarked s used) (map (λ t. t.0) found.items))
    (λ found. AreRising (IsUnused s) (map (λ t. t.0) found.items))
    (λ found. rising_as (IsUnmarked s used) (IsUnused s) (map (λ (t : Sym). t.0) found.items)
    (unmarked_as s (IsUsed s) used marked)) c.unmarked_terminals.ensures
