use Rattle.std.proofs.Common.{◌∙◌, ◌++◌, ◌∷◌, [], ap, false, sym, take, true}
use Rattle.std.proofs.lemmas.List.{append-nil, take_all}
use Rattle.ly_lexread.specs.Conditions.{inclusive}
use Rattle.ly_lexread.proofs.ConditionLemmas.{no_places, places, places_step, places_zip}
use Rattle.ly_lexread.proofs.conditions.Conditions.inclusive.Goals as goal
use Rattle.ly_lexread.proofs.conditions.Conditions.inclusive.Goals.{then-not-exclusive+in_ok-push, else-not-exclusive}

pub loop-place-init : goal.loop-place-init
loop-place-init c = c.new-numbers.ensures.items ∙ sym no_places

pub loop-place-preserved : goal.loop-place-preserved
loop-place-preserved c =
    let xs = c.deref-exclusive-items.result.now in
    let k = c.loop-place.place in
    elim c.if-not-exclusive.branch [
      | then-not-exclusive+in_ok-push w ↦
          ap (λ n. n.items) w.numbers-is ∙ (w.in_ok-push.ensures.items
          ∙ (ap (λ ns. ns ++ k ∷ []) c.loop-place.invariant
          ∙ sym (places_step xs k false c.loop-place-test.true w.if-not-exclusive.true)))
      | else-not-exclusive w ↦
          ap (λ n. n.items) w.numbers-is ∙ (c.loop-place.invariant
          ∙ (sym (append-nil (places 0 (take k xs)))
          ∙ sym (places_step xs k true c.loop-place-test.true w.if-not-exclusive.false)))
    ]

pub returns : goal.returns
returns c = c.loop-place.invariant
    ∙ (ap (places 0) (take_all c.loop-place.place c.deref-exclusive-items.result.now c.loop-place-test.false)
    ∙ (ap (places 0) c.deref-exclusive-items.ensures.value
    ∙ (places_zip (λ k. k.items) c.self.inside.names.keys c.self.inside.exclusive.items
    c.self.inside.lefts.items 0 c.self.invariant.0 c.self.invariant.1
    ∙ ap inclusive c.self.view_is)))
