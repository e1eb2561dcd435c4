use Rattle.std.proofs.Common.{◌≡◌, ◌∷◌, [], ℕ, List, Option, Some, length, length-append, ◌∙◌, arith, subst}
use Rattle.std.proofs.Common.{le_antisymm, refl}
use Rattle.std.specs.Prelude.{slice_get}
use Rattle.std.proofs.lemmas.Option.{slice_get_read, slice_get_within}
use Rattle.ly_ere.specs.Names.{defined}
use Rattle.ly_position.specs.Private.Plain.{Makes, listed}
use Rattle.ly_position.specs.Private.Slim.{slim_pattern}
use Rattle.ly_position.proofs.PlanLemmas.{rules_names_within, rules_named, rules_within, rules_more}
use Rattle.ly_position.proofs.plan.write_out.Goals as goal

pub loop-rule-preserved : goal.loop-rule-preserved
loop-rule-preserved c =
    let before = c.loop-rule.invariant in
    let i = c.loop-rule.rule-index in
    let names = (defined c.args.names.now) in
    let rules = c.args.rules.now in
    let ds = c.in_ok-definitions.definitions.items in
    let ps = c.loop-rule.parts.items in
    let r = c.rule-item.result in
    let p = c.in_ok-part.part in
    let is : slice_get rules i ≡ Some r
    = slice_get_read rules (length rules) i r refl c.loop-rule-test.true c.rule-item.is in
    let made =
    subst (λ (xs : List (Option ℕ)). Makes c.loop-rule.plain c.add_rule.new.plain p
    (slim_pattern (listed c.loop-rule.plain xs) r.pattern)) c.deref.ensures.value c.in_ok-part.ensures in
    rw c.in_ok-push.ensures.items (record {
      names_within
          = rules_names_within names rules c.loop-rule.plain c.add_rule.new.plain ds ps i r p before.names_within
          before.named before.count before.within before.each is made;
      named = rules_named names rules c.loop-rule.plain c.add_rule.new.plain ds ps i r p before.names_within
          before.named before.count before.within before.each is made;
      count = omega (arith, length-append ps (p ∷ []), before.count);
      within = rules_within names rules c.loop-rule.plain c.add_rule.new.plain ds ps i r p before.names_within
          before.named before.count before.within before.each is made;
      each = rules_more names rules c.loop-rule.plain c.add_rule.new.plain ds ps i r p before.names_within
          before.named before.count before.within before.each is made;
    })

pub returns : goal.returns
returns c =
    let before = c.loop-rule.invariant in
    let all : c.loop-rule.rule-index ≡ length c.args.rules.now
    = le_antisymm c.loop-rule.auto.rule-index-end c.loop-rule-test.false in
    record {
      count = before.count ∙ all;
      within = before.within;
      each = λ i r e. before.each i r (omega (arith, slice_get_within c.args.rules.now i r e)) e;
    }
