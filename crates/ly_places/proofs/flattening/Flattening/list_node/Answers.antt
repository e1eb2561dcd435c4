use Rattle.std.proofs.Common.{◌≡◌, ◌∙◌, ◌++◌, ◌∷◌, [], ◌-◌, ◌<◌, ◌≤◌, All, ap, arith, length, refl, subst, sym}
use Rattle.std.proofs.lemmas.List.{get_or_read}
use Rattle.ly_base.specs.Shape.{node, place, shape_of}
use Rattle.ly_pack.specs.Machine.{IsShapeFor}
use Rattle.ly_places.proofs.BodyLemmas.{body_length}
use Rattle.ly_places.specs.Private.Waiting.{shapes_of, waiting_at, IsOpened}
use Rattle.ly_places.proofs.flattening.Flattening.list_node.Goals as goal

pub index-requires : goal.index-requires
index-requires c =
    let shape : shapes_of c.args.self.now c.args.span.rule.0 ≡ place c.in-Some-Pass.place
    = sym c.in-Some-Pass.ensures ∙ ap shape_of c.in-Some-Pass.field-0-is in
    let within = subst (IsShapeFor c.args.span.count) shape c.requires.shape in
    omega (
      arith,
      within.0,
      within.1,
      ap length c.in_ok-body_of.ensures,
      body_length c.args.self.now.tokens.now c.args.first c.args.part.extent.start c.args.span.start c.args.span.count
          c.args.self.now.children.now c.args.self.now.measures.now c.requires.children c.requires.measures,
      c.body_of.new.body.ok,
    )

pub push_places-requires : goal.push_places-requires
push_places-requires c =
    let places = c.in-Some-Build.places.items in
    let shape : shapes_of c.args.self.now c.args.span.rule.0 ≡ node c.in-Some-Build.field-0-0.items places
    = sym c.in-Some-Build.ensures ∙ ap shape_of c.in-Some-Build.field-0-is in
    let within = subst (IsShapeFor c.args.span.count) shape c.requires.shape in
    let count : c.args.span.count ≡ length c.deref.result.now
    = sym (ap length (c.deref.ensures.value ∙ c.in_ok-body_of.ensures)
    ∙ body_length c.args.self.now.tokens.now c.args.first c.args.part.extent.start c.args.span.start c.args.span.count
    c.args.self.now.children.now c.args.self.now.measures.now c.requires.children c.requires.measures) in
    subst (λ n. All (λ i. (1 ≤ i) × (i ≤ n)) c.deref-in-Some-Build.result.now) count
    (subst (λ is. All (λ i. (1 ≤ i) × (i ≤ c.args.span.count)) is) (sym c.deref-in-Some-Build.ensures.value) within.1)

pub returns-in_ok-push-in-Some-Pass : goal.returns-in_ok-push-in-Some-Pass
returns-in_ok-push-in-Some-Pass c =
    let body = c.body_of.new.body.items in
    let i = c.in-Some-Pass.place in
    let shape : place i ≡ shapes_of c.args.self.now c.args.span.rule.0
    = sym (ap shape_of c.in-Some-Pass.field-0-is) ∙ c.in-Some-Pass.ensures in
    let within = subst (IsShapeFor c.args.span.count) (sym shape) c.requires.shape in
    let inside : i - 1 < length body = omega (
      arith,
      within.0,
      within.1,
      ap length c.in_ok-body_of.ensures,
      body_length c.args.self.now.tokens.now c.args.first c.args.part.extent.start c.args.span.start c.args.span.count
          c.args.self.now.children.now c.args.self.now.measures.now c.requires.children c.requires.measures,
    ) in
    let same : c.index.result.now ≡ waiting_at body i
    = get_or_read body (i - 1) c.index.result.now inside c.index.ensures _ in
    let opened : IsOpened (place i) c.args.part body c.args.listing.now
    (record { parts = c.args.listing.now.parts; waiting = c.push.new.self; body = c.body_of.new.body }) = (
      refl,
      c.in_ok-push-in-Some-Pass.ensures.items ∙ ap (λ w. c.args.listing.now.waiting.items ++ w ∷ []) same,
    ) in
    subst (λ b. IsOpened (shapes_of c.args.self.now c.args.span.rule.0) c.args.part b c.args.listing.now
    (record { parts = c.args.listing.now.parts; waiting = c.push.new.self; body = c.body_of.new.body }))
    c.in_ok-body_of.ensures
    (subst (λ sh. IsOpened sh c.args.part body c.args.listing.now
    (record { parts = c.args.listing.now.parts; waiting = c.push.new.self; body = c.body_of.new.body })) shape opened)
