use Rattle.std.proofs.Common.{◌≡◌, ◌∙◌, ℕ, length, Vec, Global, Some, map, refl, ap, sym, slice_get}
use Rattle.std.specs.Prelude.{option_map}
use Rattle.std.proofs.lemmas.Bool.Decides.{Decides-eqb}
use Rattle.std.proofs.lemmas.Option.{same_Some, slice_get-map, slice_get_read}
use Rattle.std.proofs.lemmas.Slice.Eq.{slice_eq-Decides}
use Rattle.ly_tables.proofs.symbol_ranges.is_named.Goals as goal

pub returns : goal.returns
returns c =
    let items = λ (name : Vec ℕ Global). name.items in
    let name = c.index-names-number.result in
    let says = slice_eq-Decides Decides-eqb c.as_slice.result.now c.args.name.now c.eq.result c.eq.ensures in
    let at : slice_get (map items c.args.names.now) c.args.number ≡ Some name.items
    = slice_get-map items c.args.names.now c.args.number ∙ ap (option_map items)
    (slice_get_read c.args.names.now (length c.args.names.now) c.args.number name refl c.requires
    c.index-names-number.is) in (
      λ e. at ∙ ap Some (sym c.as_slice.ensures.value ∙ says.0 e),
      λ is. says.1 (c.as_slice.ensures.value ∙ same_Some name.items c.args.name.now (sym at ∙ is)),
    )
