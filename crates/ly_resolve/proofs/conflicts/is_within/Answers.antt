use Rattle.std.proofs.Common.{◌<◌, ◌≤◌, ◌∙◌, subst}
use Rattle.std.proofs.lemmas.Bool.{leb-true}
use Rattle.std.proofs.lemmas.Option.{get_or_from_slice_get}
use Rattle.ly_resolve.specs.declared.conflicts.Run.{Run}
use Rattle.ly_resolve.proofs.KeptRunLemmas.{start_taken}
use Rattle.ly_resolve.proofs.conflicts.is_within.Goals as goal

pub returns-then-index-run : goal.returns-then-index-run
returns-then-index-run c = λ yes.
    let rs = c.args.runs.now in
    let run = c.in-Some.run'.now in
    let low = c.end_of.ensures ∙ start_taken 0 rs c.args.place in (
      subst (λ n. n ≤ c.args.index) low (leb-true _ _ yes),
      λ r is. subst (λ (x : Run). c.args.index < x.end)
          (c.in-Some.ensures.lookup.3.1 run ∙ get_or_from_slice_get rs c.args.place r run is) c.if-index-run.true,
    )
