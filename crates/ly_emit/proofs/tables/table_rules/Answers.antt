use Rattle.std.proofs.Common.{◌≡◌, ◌∙◌, ◌<◌, Some, ap, arith, length, subst, sym}
use Rattle.std.proofs.lemmas.List.{length-map}
use Rattle.ly_base.specs.Shape.{shape_of}
use Rattle.ly_join.specs.Grammar.{IsRule, symbol_of}
use Rattle.ly_join.specs.Joined.{note_of}
use Rattle.ly_pack.specs.Values.{rule_from}
use Rattle.ly_pack.specs.declared.rule.TableRule as rule
use Rattle.ly_emit.specs.Tables.{shape_in}
use Rattle.ly_emit.proofs.RowLemmas.{noted, rules_more}
use Rattle.ly_emit.proofs.tables.table_rules.Goals as goal

pub loop-number-preserved : goal.loop-number-preserved
loop-number-preserved c =
    let s = c.args.spec.now in
    let n = c.loop-number.number in
    let r = c.rule-rule.result.now in
    let v : rule.TableRule = record {
      left = c.left.result;
      body_length = length c.body.result.now;
      tree = c.in_ok-copied.field-0;
    } in
    let is : IsRule s.grammar n r
    = subst (λ g. IsRule g n r) c.grammar-grammar.ensures.grammar c.rule-rule.ensures.there in
    let sizes = c.grammar-grammar.ensures.sizes.notes in
    let a = ap length c.notes-notes.ensures in
    let b = length-map c.notes-notes.result.now note_of in
    let d = ap length c.rules-number-end.ensures.these in
    let e = length-map c.rules-number-end.result.now Some in
    let g = ap (λ g. length g.rules) c.grammar-grammar.ensures.grammar in
    let test = c.loop-number-test.true in
    let lt : n < length c.notes-notes.result.now = omega (arith, sizes, a, b, d, e, g, test) in
    let long : length c.body.result.now ≡ length r.body
    = sym (length-map c.body.result.now symbol_of) ∙ ap length c.body.ensures in
    let shape = c.in_ok-copied.ensures ∙ ap (λ x. shape_of x.tree) (sym c.index-notes-number.is)
    ∙ sym (noted s c.notes-notes.result.now n c.index-notes-number.result c.notes-notes.ensures lt
    c.index-notes-number.is) in
    let same : rule_from v ≡ record { left = r.left; body_length = length r.body; shape = shape_in s n }
    = ap (λ l. record { left = l; body_length = length c.body.result.now; shape = (rule_from v).shape }) c.left.ensures
    ∙ ap (λ l. record { left = r.left; body_length = l; shape = (rule_from v).shape }) long
    ∙ ap (λ x. record { left = r.left; body_length = length r.body; shape = x }) shape in
    rules_more s n c.loop-number.rules.items c.push.new.self.items v r c.loop-number.auto.number c.loop-number.invariant
    is same c.in_ok-push.ensures.items
