use Rattle.std.proofs.Common.{◌∙◌, sym}
use Rattle.ly_pack.proofs.CombEntryLemmas.{its_own, others, past_bases, past_slots, past_width, unused}
use Rattle.ly_pack.proofs.comb_rows.CombRows.entry.Goals as goal

pub returns-then-self-column : goal.returns-then-self-column
returns-then-self-column g c = past_width c.self.inside.width c.self.inside.bases.items c.self.inside.slots.items
    c.args.self.now c.self.view_is c.args.row.0 c.args.column c.if-self-column.true

pub returns-in_err-base : goal.returns-in_err-base
returns-in_err-base g c = c.from_residual.ensures
    ∙ past_bases c.self.inside.width c.self.inside.bases.items c.self.inside.slots.items c.args.self.now
    c.self.view_is c.args.row.0 c.args.column c.if-self-column.false c.deref.result.now c.deref.ensures.value
    c.in_err-base.ensures.lookup.3

pub returns-in_err-get : goal.returns-in_err-get
returns-in_err-get g c = c.from_residual-in_err-get.ensures
    ∙ past_slots c.self.inside.width c.self.inside.bases.items c.self.inside.slots.items c.args.self.now
    c.self.view_is c.args.row.0 c.args.column c.if-self-column.false c.deref.result.now c.deref.ensures.value
    c.in_ok-base.field-0.now c.in_ok-base.ensures.lookup.3 c.deref-2.result.now c.deref-2.ensures.value
    c.in_err-get.ensures.lookup.3

pub returns-in_err-slot : goal.returns-in_err-slot
returns-in_err-slot g c = c.from_residual-in_err-slot.ensures
    ∙ unused c.self.inside.width c.self.inside.bases.items c.self.inside.slots.items c.args.self.now
    c.self.view_is c.args.row.0 c.args.column c.if-self-column.false c.deref.result.now c.deref.ensures.value
    c.in_ok-base.field-0.now c.in_ok-base.ensures.lookup.3 c.deref-2.result.now c.deref-2.ensures.value
    c.in_ok-get.field-0.now c.in_ok-get.ensures.lookup.3 (sym c.get-3.ensures ∙ c.in_err-slot.was)

pub returns-then-eq : goal.returns-then-eq
returns-then-eq g c = its_own c.self.inside.width c.self.inside.bases.items c.self.inside.slots.items
    c.args.self.now c.self.view_is c.args.row.0 c.args.column c.if-self-column.false c.deref.result.now
    c.deref.ensures.value c.in_ok-base.field-0.now c.in_ok-base.ensures.lookup.3 c.deref-2.result.now
    c.deref-2.ensures.value c.in_ok-get.field-0.now c.in_ok-get.ensures.lookup.3 c.in_ok-slot.slot
    (sym c.get-3.ensures ∙ c.in_ok-slot.was) (sym c.if-eq.ensures)

pub returns-else-eq : goal.returns-else-eq
returns-else-eq g c = others c.self.inside.width c.self.inside.bases.items c.self.inside.slots.items
    c.args.self.now c.self.view_is c.args.row.0 c.args.column c.if-self-column.false c.deref.result.now
    c.deref.ensures.value c.in_ok-base.field-0.now c.in_ok-base.ensures.lookup.3 c.deref-2.result.now
    c.deref-2.ensures.value c.in_ok-get.field-0.now c.in_ok-get.ensures.lookup.3 c.in_ok-slot.slot
    (sym c.get-3.ensures ∙ c.in_ok-slot.was) (sym c.if-eq.ensures)
