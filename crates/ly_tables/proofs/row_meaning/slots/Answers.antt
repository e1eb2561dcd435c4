use Rattle.std.proofs.Common.{◌≡◌, ◌∙◌, ◌++◌, ◌+◌, ℕ, suc, [], ◌∷◌, ap, sym, arith, map, take, get_or}
use Rattle.std.specs.List.{zip}
use Rattle.std.specs.Prelude.{option_map}
use Rattle.std.proofs.lemmas.List.{map-append}
use Rattle.ly_pack.specs.Combs.{slots_from, used_from}
use Rattle.ly_tables.specs.Private.Meaning.{slot_meant}
use Rattle.ly_tables.proofs.SlotLemmas.{zip_more}
use Rattle.ly_tables.specs.Ranges.{width_of}
use Rattle.ly_tables.proofs.row_meaning.slots.Goals as goal

pub loop-number-preserved : goal.loop-number-preserved
loop-number-preserved g c =
    let meant = λ (p : ℕ × ℕ). slot_meant (width_of c.args.version) (g.E.CombEntry.meant c.args.version) p.0 p.1 in
    let entries = c.args.entries.now in
    let rows = c.args.rows.now in
    let k = c.loop-number.number in
    let more = zip_more entries rows k 0 0 c.loop-number-test.true c.requires in
    let slots = c.loop-number.out.items in
    let grown = ap slots_from c.in_ok-push.ensures.items
    ∙ map-append (option_map used_from) slots (c.in_ok-slot.field-0 ∷ []) in
    let next : suc k ≡ k + 1 = omega arith in
    let before = c.loop-number.invariant in
    let here = c.in_ok-slot.ensures in
    grown ∙ ap (λ v. v ++ option_map used_from c.in_ok-slot.field-0 ∷ []) before
    ∙ ap (λ s. map meant (zip (take k entries) (take k rows)) ++ s ∷ []) here
    ∙ sym (map-append meant (zip (take k entries) (take k rows)) ((get_or entries k 0, get_or rows k 0) ∷ []))
    ∙ ap (map meant) (sym more)
    ∙ ap (λ n. map meant (zip (take n entries) (take n rows))) next
