use Rattle.std.proofs.Common.{◌≡◌, ◌<◌, [], ℕ, List, ap, ap₂, arith, get_or, length, refl, sym, subst, take, ◌∙◌}
use Rattle.std.specs.Prelude.{replicate}
use Rattle.std.proofs.lemmas.List.{get_or_default, length-map, length-replicate, take_all}
use Rattle.ly_ere.specs.Definitions.{named_text, named_texts}
use Rattle.ly_ere.specs.Expression.{Expression, empty}
use Rattle.ly_ere.specs.Private.Definitions.{ArePlacing, expression_at}
use Rattle.ly_ere.specs.Private.Uses.{number_for, renumbered}
use Rattle.ly_ere.specs.Names.{defined}
use Rattle.ly_ere.specs.Weight.{weight_of}
use Rattle.ly_ere.specs.declared.definitions.DefinitionTexts.{DefinitionTexts}
use Rattle.ly_ere.proofs.DefinitionLemmas.{light_more, place_there, placed_all, placed_next, placed_step}
use Rattle.ly_ere.proofs.DefinitionLemmas.{placing_none, read_spelled, refused_heavy}
use Rattle.ly_ere.proofs.SoundLemmas.{expression_sound}
use Rattle.ly_ere.proofs.definitions.place.Goals as goal

pub loop-number-init : goal.loop-number-init
loop-number-init c =
    let many = length c.args.list.now in
    let zeros : c.in_ok-numbers.numbers.items ≡ replicate many 0
    = c.in_ok-numbers.ensures.items_if_clones_equal (λ y h. h) in
    let nothing : c.new-names.result ≡ [] = c.new-names.ensures in
    record {
      placing = rw nothing (placing_none (named_texts c.args.list.now) c.in_ok-numbers.numbers.items (ap length zeros
          ∙ (length-replicate many 0 ∙ sym (length-map c.args.list.now named_text))));
      light = λ x l. absurd (omega (arith, l, ap length nothing));
    }

-- what every goal of a step needs: the place is one of the list, and its text the next to be placed
there : (c : goal.After-row_known-1) → get_or c.args.order.now c.loop-number.number 0 < length c.args.list.now
there c = place_there c.args.list.now c.requires.distinct c.args.texts.now c.requires.read c.requires.whole
    c.args.order.now c.requires.in_turn c.loop-number.number c.loop-number-test.true

pub index-requires : goal.index-requires
index-requires c = omega (
  arith,
  there c,
  c.requires.read.whole c.requires.whole,
  length-map c.args.list.now named_text,
  c.args.texts.now.expressions.ok,
)

pub offset_bounds-list-place : goal.offset_bounds-list-place
offset_bounds-list-place c = omega (
  arith,
  place_there c.args.list.now c.requires.distinct c.args.texts.now c.requires.read
      c.requires.whole c.args.order.now c.requires.in_turn c.loop-number.number c.loop-number-test.true,
  c.well_formed,
)

pub bounds-list-place : goal.bounds-list-place
bounds-list-place c = place_there c.args.list.now c.requires.distinct c.args.texts.now c.requires.read c.requires.whole
    c.args.order.now c.requires.in_turn c.loop-number.number c.loop-number-test.true

-- the expression has the numbers of those that are placed
numbered : (t : DefinitionTexts) (n : ℕ) (e : Expression) (r : Expression) (ns ms : List ℕ)
    → n < length t.expressions.items
    → e ≡ get_or t.expressions.items n e → ms ≡ ns → r ≡ renumbered (number_for ms) e
    → r ≡ renumbered (number_for ns) (expression_at t n)
numbered t n e r ns ms l at numbers is = is ∙ ap₂ (λ ks f. renumbered (number_for ks) f) numbers
    (at ∙ get_or_default t.expressions.items n e empty l)

pub with_definition-requires-clause-sound : goal.with_definition-requires-clause-sound
with_definition-requires-clause-sound c =
    let step = placed_next c.args.list.now c.requires.distinct c.args.texts.now c.requires.read c.requires.whole
    c.args.order.now c.requires.in_turn c.loop-number.number c.loop-number-test.true c.loop-number.names
    c.loop-number.numbers.items c.loop-number.invariant.placing in
    let here = place_there c.args.list.now c.requires.distinct c.args.texts.now c.requires.read c.requires.whole
    c.args.order.now c.requires.in_turn c.loop-number.number c.loop-number-test.true in
    let l : get_or c.args.order.now c.loop-number.number 0 < length c.args.texts.now.expressions.items
    = omega (arith, here, c.requires.read.whole c.requires.whole, length-map c.args.list.now named_text) in
    let is = numbered c.args.texts.now (get_or c.args.order.now c.loop-number.number 0) c.index.result.now
    c.in_ok-expression.expression c.loop-number.numbers.items c.deref.result.now l c.index.ensures c.deref.ensures.value
    c.in_ok-expression.ensures in
    rw is (expression_sound c.loop-number.names _ _ step.follows.is_expression)

pub with_definition-requires-clause-new : goal.with_definition-requires-clause-new
with_definition-requires-clause-new c =
    (placed_next c.args.list.now c.requires.distinct c.args.texts.now c.requires.read c.requires.whole
    c.args.order.now c.requires.in_turn c.loop-number.number c.loop-number-test.true c.loop-number.names
    c.loop-number.numbers.items c.loop-number.invariant.placing).follows.new

pub returns-in-Err-clause-refused : goal.returns-in-Err-clause-refused
returns-in-Err-clause-refused c =
    let step = placed_next c.args.list.now c.requires.distinct c.args.texts.now c.requires.read c.requires.whole
    c.args.order.now c.requires.in_turn c.loop-number.number c.loop-number-test.true c.loop-number.names
    c.loop-number.numbers.items c.loop-number.invariant.placing in
    let here = place_there c.args.list.now c.requires.distinct c.args.texts.now c.requires.read c.requires.whole
    c.args.order.now c.requires.in_turn c.loop-number.number c.loop-number-test.true in
    let l : get_or c.args.order.now c.loop-number.number 0 < length c.args.texts.now.expressions.items
    = omega (arith, here, c.requires.read.whole c.requires.whole, length-map c.args.list.now named_text) in
    let is = numbered c.args.texts.now (get_or c.args.order.now c.loop-number.number 0) c.index.result.now
    c.in_ok-expression.expression c.loop-number.numbers.items c.deref.result.now l c.index.ensures c.deref.ensures.value
    c.in_ok-expression.ensures in
    refused_heavy c.args.limits.now.pattern_weight (named_texts c.args.list.now)
    (take c.loop-number.number c.args.order.now)
    c.loop-number.names c.loop-number.numbers.items (get_or c.args.order.now c.loop-number.number 0) _ _ c.in-Err.fault
    c.loop-number.invariant.placing step c.in-Err.ensures.only
    (λ e. subst (λ x. c.args.limits.now.pattern_weight < weight_of (defined c.loop-number.names) x) is
    (c.in-Err.ensures.heavy e)) c.in-Err.ensures.front
    (read_spelled _ (named_texts c.args.list.now) c.args.texts.now c.requires.read c.requires.whole)

pub index_mut-requires : goal.index_mut-requires
index_mut-requires c =
    let here = place_there c.args.list.now c.requires.distinct c.args.texts.now c.requires.read c.requires.whole
    c.args.order.now c.requires.in_turn c.loop-number.number c.loop-number-test.true in
    omega (
      arith,
      here,
      c.loop-number.invariant.placing.numbered,
      length-map c.args.list.now named_text,
      c.loop-number.numbers.ok,
    )

pub loop-number-preserved : goal.loop-number-preserved
loop-number-preserved c =
    let here = place_there c.args.list.now c.requires.distinct c.args.texts.now c.requires.read c.requires.whole
    c.args.order.now c.requires.in_turn c.loop-number.number c.loop-number-test.true in
    let l : get_or c.args.order.now c.loop-number.number 0 < length c.args.texts.now.expressions.items
    = omega (arith, here, c.requires.read.whole c.requires.whole, length-map c.args.list.now named_text) in
    let is = numbered c.args.texts.now (get_or c.args.order.now c.loop-number.number 0) c.index.result.now
    c.in_ok-expression.expression c.loop-number.numbers.items c.deref.result.now l c.index.ensures c.deref.ensures.value
    c.in_ok-expression.ensures in
    let more = placed_step c.args.list.now c.requires.distinct c.args.texts.now c.requires.read c.requires.whole
    c.args.order.now c.requires.in_turn c.loop-number.number c.loop-number-test.true c.loop-number.names
    c.loop-number.numbers.items c.loop-number.invariant.placing in
    record {
      placing = rw (c.in-Ok.ensures.ok, is) more;
      light = rw c.in-Ok.ensures.ok (light_more c.args.limits.now.pattern_weight c.loop-number.names _ _
          c.loop-number.invariant.light (c.in-Ok.ensures.light refl));
    }

pub returns-clause-ok : goal.returns-clause-ok
returns-clause-ok c =
    let p = subst (λ o. ArePlacing (named_texts c.args.list.now) o c.loop-number.names c.loop-number.numbers.items)
    (take_all c.loop-number.number c.args.order.now c.loop-number-test.false) c.loop-number.invariant.placing in
    placed_all (named_texts c.args.list.now) c.args.order.now c.loop-number.names c.loop-number.numbers.items p
    (λ n l. c.requires.all n (omega (arith, l, length-map c.args.list.now named_text)))

pub returns-clause-light : goal.returns-clause-light
returns-clause-light c = c.loop-number.invariant.light
