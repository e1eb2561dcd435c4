use Rattle.std.proofs.Common.{◌≡◌, None, slice_get, refl, ap, subst}
use Rattle.std.specs.Option.{option_map}
use Rattle.std.proofs.lemmas.Option.{slice_get-map, slice_get_past}
use Rattle.ly_join.specs.Terminals.{terminal_from}
use Rattle.ly_text_buffer.proofs.PageLemmas.{nothing_said}
use Rattle.ly_text_buffer.proofs.buffer.TextBuffer.push_terminal.Goals as goal

pub returns-in_default : goal.returns-in_default
returns-in_default c =
    let number = c.args.terminal.0 in
    let names = c.terminals.result.now in
    let past : slice_get names number ≡ None = slice_get_past names number c.in_default.ensures.lookup.3 in
    let none : slice_get c.args.spec.now.terminals number ≡ None =
    subst (λ xs. slice_get xs number ≡ None) c.terminals.ensures
    (rw (slice_get-map terminal_from names number) (ap (option_map terminal_from) past)) in
    nothing_said _ _ (rw none refl)
