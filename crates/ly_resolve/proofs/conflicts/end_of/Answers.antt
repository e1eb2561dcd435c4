use Rattle.std.proofs.Common.{◌<◌, ◌-◌, arith, length, sym}
use Rattle.ly_resolve.proofs.KeptRunLemmas.{end_last, run_there}
use Rattle.ly_resolve.proofs.conflicts.end_of.Goals as goal

pub returns-in-Some : goal.returns-in-Some
returns-in-Some c =
    let rs = c.args.runs.now in
    let run = c.in-Some.run'.now in
    let last = c.in-Some.ensures.item.3 in
    let some : 0 < length rs = last.0 in
    sym (end_last 0 rs (length rs - 1) run (omega (arith, some))
    (run_there rs (length rs - 1) run (omega (arith, some), last.1)))
