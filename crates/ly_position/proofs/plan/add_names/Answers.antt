use Rattle.std.proofs.Common.{◌≡◌, ◌∷◌, [], ℕ, List, Option, Some, length-append, arith, subst, length, refl}
use Rattle.std.specs.Prelude.{slice_get}
use Rattle.std.proofs.lemmas.Option.{slice_get_read}
use Rattle.ly_ere.specs.Names.{defined}
use Rattle.ly_ere.specs.Expression.{Expression}
use Rattle.ly_position.specs.Private.Plain.{Makes, listed}
use Rattle.ly_position.specs.Private.Slim.{slim_under}
use Rattle.ly_position.proofs.PlanLemmas.{names_more, names_more_within}
use Rattle.ly_position.proofs.plan.add_names.Goals as goal

pub loop-definition-preserved : goal.loop-definition-preserved
loop-definition-preserved c =
    let before = c.loop-definition.invariant in
    let i = c.loop-definition.definition-index in
    let ds = c.loop-definition.definitions.items in
    let d = c.definition-item.result in
    let p = c.in_ok-part.part in
    let is : slice_get (defined c.args.names.now) i ≡ Some d =
    subst (λ (ns : List Expression). slice_get ns i ≡ Some d) c.definitions-definition-items.ensures.these
    (slice_get_read c.definitions-definition-items.result.now (length c.definitions-definition-items.result.now) i d
    refl c.loop-definition-test.true c.definition-item.is) in
    let made =
    subst (λ (ps : List (Option ℕ)). Makes c.loop-definition.plain c.add.new.plain p
    (slim_under (listed c.loop-definition.plain ps) d)) c.deref.ensures.value c.in_ok-part.ensures in
    rw c.in_ok-push.ensures.items (record {
      count = omega (arith, length-append ds (p ∷ []), before.count);
      within = names_more_within (defined c.args.names.now) i d is c.loop-definition.plain c.add.new.plain ds p
          before.within
          before.count before.each made;
      each = names_more (defined c.args.names.now) i d is c.loop-definition.plain c.add.new.plain ds p before.within
          before.count before.each made;
    })
