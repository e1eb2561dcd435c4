use Rattle.std.proofs.Common.{◌≡◌, refl, rules}
use Rattle.ly_parse.proofs.kept.Kept.new.Goals as goal

pub returns : goal.returns
returns g c =
    let below : c.in_ok-ok.field-0 ≡ c.numbers-numbers.result.below = search rules in
    let above : c.in_ok-ok-2.field-0 ≡ c.numbers-numbers.result.above = search rules in
    let terminal : c.in_ok-ok-3.field-0 ≡ c.numbers-numbers.result.terminal = search rules in
    let state : c.in_ok-ok-4.field-0 ≡ c.args.shortcut.state.0 = search rules in
    rw (below, above, terminal, state, c.numbers-numbers.ensures) refl
