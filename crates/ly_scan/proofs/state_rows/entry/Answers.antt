use Rattle.std.proofs.Common.{◌∙◌, ◌-◌, ap, arith, drop, get_or, get_or-drop, length, length-drop}
use Rattle.std.proofs.lemmas.List.{take_all}
use Rattle.ly_scan.proofs.state_rows.entry.Goals as goal

pub returns : goal.returns
returns c =
    let entries = c.args.entries.now in
    let behind = drop c.from.result entries in
    ap (λ xs. get_or xs c.args.start 0) (take_all (length entries - c.from.result) behind
    (omega (arith, length-drop c.from.result entries)))
    ∙ get_or-drop c.from.result entries c.args.start 0
    ∙ ap (λ n. get_or entries n 0) (omega (arith, c.from.ensures))
