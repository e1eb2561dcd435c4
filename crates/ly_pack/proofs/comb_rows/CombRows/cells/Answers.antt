use Rattle.std.proofs.Common.{◌≡◌, ◌∙◌, ◌<◌, ◌≤◌, ◌+◌, ◌-◌, [], Some, ap, arith, length, refl, rules, slice_get, subst}
use Rattle.std.proofs.Common.{sym}
use Rattle.std.specs.Prelude.{option_map, replicate}
use Rattle.std.proofs.lemmas.List.{length-map}
use Rattle.std.proofs.lemmas.Option.{get_or_from_slice_get, slice_get_read, slice_get_within}
use Rattle.ly_pack.specs.Combs.{used_from}
use Rattle.ly_pack.specs.Rows.{Comb}
use Rattle.ly_pack.proofs.CombCellLemmas.{AreAllBelow, below_all, below_none, below_push, below_skip}
use Rattle.ly_pack.proofs.CombCellLemmas.{slot_place, slot_seen, slot_used}
use Rattle.ly_pack.proofs.comb_rows.CombRows.cells.Goals as goal
use Rattle.ly_pack.proofs.comb_rows.CombRows.cells.Goals.{in-Some+in-Ok+in_ok-push, in_default}

pub loop-place-init : goal.loop-place-init
loop-place-init g c =
    let many : c.len.result ≡ length c.args.self.now.bases = omega (
      arith,
      c.len.ensures,
      c.self.inside.bases.ok.0,
      ap (λ (x : Comb g.row.E.Denot). length x.bases) c.self.view_is,
    ) in
    below_none c.args.self.now c.in_ok-lists.lists.items (c.in_ok-lists.ensures ∙ ap (λ n. replicate n []) many)

pub index-requires : goal.index-requires
index-requires g c =
    let s = c.in-Some.slot in
    let found = slot_place c.self.inside.width c.self.inside.bases.items c.self.inside.slots.items
    c.deref-slot-items.result.now c.args.self.now c.self.view_is c.self.invariant c.deref-slot-items.ensures.value
    c.loop-place.place c.loop-place-test.true c.slot-item.result c.slot-item.is s (sym c.get.ensures ∙ c.in-Some.is) in
    let based = ap (λ (x : Comb g.row.E.Denot). slice_get x.bases s.row.0) c.self.view_is ∙ found.1 in
    omega (arith, slice_get_within c.self.inside.bases.items s.row.0 found.0 based, c.self.inside.bases.ok.0)

pub overflow_sub-place : goal.overflow_sub-place
overflow_sub-place g c =
    let s = c.in-Some.slot in
    let found = slot_place c.self.inside.width c.self.inside.bases.items c.self.inside.slots.items
    c.deref-slot-items.result.now c.args.self.now c.self.view_is c.self.invariant c.deref-slot-items.ensures.value
    c.loop-place.place c.loop-place-test.true c.slot-item.result c.slot-item.is s (sym c.get.ensures ∙ c.in-Some.is) in
    let based = ap (λ (x : Comb g.row.E.Denot). slice_get x.bases s.row.0) c.self.view_is ∙ found.1 in
    let is : c.index.result.now ≡ found.0 = c.index.ensures
    ∙ get_or_from_slice_get c.self.inside.bases.items s.row.0 found.0 _ based in
    omega (arith, is, found.2)

pub index_mut-requires : goal.index_mut-requires
index_mut-requires g c =
    let s = c.in-Some.slot in
    let found = slot_place c.self.inside.width c.self.inside.bases.items c.self.inside.slots.items
    c.deref-slot-items.result.now c.args.self.now c.self.view_is c.self.invariant c.deref-slot-items.ensures.value
    c.loop-place.place c.loop-place-test.true c.slot-item.result c.slot-item.is s (sym c.get.ensures ∙ c.in-Some.is) in
    let lt = slice_get_within c.args.self.now.bases s.row.0 found.0 found.1 in
    omega (arith, lt, c.loop-place.invariant.count, c.loop-place.lists.ok.0)

pub loop-place-preserved : goal.loop-place-preserved
loop-place-preserved g c =
    let self = c.args.self.now in
    let lists = c.loop-place.lists.items in
    let place = c.loop-place.place in
    let bases = c.self.inside.bases.items in
    let slots = c.self.inside.slots.items in
    let items = c.deref-slot-items.result.now in
    let value = c.deref-slot-items.ensures.value in
    elim c.match-get.branch [
      | in-Some+in-Ok+in_ok-push w ↦
          let s = w.in-Some.slot in
          let found = slot_place c.self.inside.width bases slots items self c.self.view_is c.self.invariant value place
          c.loop-place-test.true c.slot-item.result c.slot-item.is s (sym c.get.ensures ∙ w.in-Some.is) in
          let based = ap (λ (x : Comb g.row.E.Denot). slice_get x.bases s.row.0) c.self.view_is ∙ found.1 in
          let is : w.index.result.now ≡ found.0 = w.index.ensures
          ∙ get_or_from_slice_get bases s.row.0 found.0 _ based in
          let column : w.in-Ok.column ≡ place - w.index.result.now = search rules in
          let lt = slice_get_within self.bases s.row.0 found.0 found.1 in
          let small : s.row.0 < length lists = omega (arith, lt, c.loop-place.invariant.count) in
          subst (AreAllBelow self (place + 1)) (sym (ap (λ v. v.items) w.lists-is))
          (below_push self place lists c.loop-place.invariant s.row.0 found.0 w.in-Ok.column s.entry
          w.index_mut.result.now w.push.new.self
          (slot_used c.self.inside.width bases slots items self c.self.view_is c.self.invariant value place
          c.loop-place-test.true c.slot-item.result c.slot-item.is s (sym c.get.ensures ∙ w.in-Some.is)) found.1
          (omega (arith, column, is, found.2)) (omega (arith, column, is, found.2, found.3))
          (slice_get_read lists (length lists) s.row.0 w.index_mut.result.now refl small w.index_mut.ensures.value)
          w.in_ok-push.ensures.items)
      | in_default w ↦ subst (AreAllBelow self (place + 1)) (sym (ap (λ v. v.items) w.lists-is))
          (below_skip self place lists c.loop-place.invariant
          (slot_seen c.self.inside.width bases slots items self c.self.view_is c.self.invariant value place
          c.loop-place-test.true c.slot-item.result c.slot-item.is
          ∙ ap (λ o. Some (option_map used_from o)) (sym c.get.ensures ∙ w.in_default.is)))
    ]

pub returns : goal.returns
returns g c =
    let past : length c.args.self.now.slots ≤ c.loop-place.place = omega (
      arith,
      c.loop-place-test.false,
      ap length c.deref-slot-items.ensures.value,
      length-map c.self.inside.slots.items (option_map used_from),
      ap (λ (x : Comb g.row.E.Denot). length x.slots) c.self.view_is,
    ) in
    below_all c.args.self.now c.loop-place.place c.loop-place.lists.items c.in_ok-counted.field-0.items
    c.in_ok-counted.ensures past c.loop-place.invariant
