use Rattle.std.proofs.Common.{◌-◌, ◌∙◌, Some, ap, arith, sym}
use Rattle.std.specs.Prelude.{option_map}
use Rattle.std.proofs.lemmas.Option.{slice_get_past}
use Rattle.ly_resolve.specs.Private.Conflicts.{before}
use Rattle.ly_resolve.specs.declared.conflicts.Run.{Run}
use Rattle.ly_resolve.proofs.KeptRunLemmas.{item_at, run_fits, run_there}
use Rattle.ly_resolve.proofs.conflicts.conflict_at.Goals as goal

pub returns-in_err-run : goal.returns-in_err-run
returns-in_err-run c =
    let rs = c.args.runs.now in
    c.from_residual.ensures
    ∙ ap (option_map (λ r. before (r.end - 1 - c.args.index) r.last)) (sym (slice_get_past rs c.args.place
    c.in_err-run.ensures.lookup.3))
    ∙ sym (item_at 0 rs c.args.index c.args.place c.args.index c.requires.runs (omega arith) c.requires.place.0
    c.requires.place.1)

pub overflow_sub-run : goal.overflow_sub-run
overflow_sub-run c =
    let rs = c.args.runs.now in
    let run = c.in_ok-run.run'.now in
    let at = run_there rs c.args.place run c.in_ok-run.ensures.lookup.3 in
    omega (arith, c.requires.place.1 run at)

pub overflow_sub-run-2 : goal.overflow_sub-run-2
overflow_sub-run-2 c =
    let rs = c.args.runs.now in
    let run = c.in_ok-run.run'.now in
    let at = run_there rs c.args.place run c.in_ok-run.ensures.lookup.3 in
    omega (arith, c.requires.place.1 run at)

pub earlier-requires : goal.earlier-requires
earlier-requires c =
    let rs = c.args.runs.now in
    let run = c.in_ok-run.run'.now in
    let at = run_there rs c.args.place run c.in_ok-run.ensures.lookup.3 in
    let fits = run_fits 0 rs c.args.place run c.requires.runs at in
    let low = c.requires.place.0 in
    omega (arith, fits.1, low, c.requires.place.1 run at)

pub returns : goal.returns
returns c =
    let rs = c.args.runs.now in
    let run = c.in_ok-run.run'.now in
    let at = run_there rs c.args.place run c.in_ok-run.ensures.lookup.3 in
    ap Some c.earlier.ensures
    ∙ ap (option_map (λ (r : Run). before (r.end - 1 - c.args.index) r.last)) (sym at)
    ∙ sym (item_at 0 rs c.args.index c.args.place c.args.index c.requires.runs (omega arith) c.requires.place.0
    c.requires.place.1)
