use Rattle.std.proofs.Common.{◌∙◌, ◌++◌, ◌∷◌, [], ap, ap₂, map}
use Rattle.ly_resolve.specs.Private.ActionRows.{rows_from}
use Rattle.ly_resolve.specs.Values.{terminal_action_from}
use Rattle.ly_resolve.proofs.KeptLemmas.{rows_again, rows_put}
use Rattle.ly_resolve.proofs.action_rows.ActionRows.push.Goals as goal
use Rattle.ly_resolve.proofs.action_rows.ActionRows.push.Goals.{in-Some, in-None+in_ok-place-in-None}

pub returns : goal.returns
returns c =
    let places = c.args.self.now.places.items in
    let kept = c.args.self.now.kept.items in
    let row = c.args.row.now in
    ap (λ ps. rows_from ps c.match-last_place.self.kept.items) c.in_ok-push.ensures.items
    ∙ elim c.match-last_place.branch [
      | in-Some w ↦ rw w.self-is (rw w.place-is
          (rows_again places kept (map terminal_action_from row) w.in-Some.place w.in-Some.ensures.same))
      | in-None+in_ok-place-in-None w ↦
          let done = w.in_ok-place-in-None.ensures in
          let place = w.in_ok-place-in-None.place in
          rw w.self-is (rw w.place-is (ap₂ (λ ps entries. rows_from (ps ++ place ∷ []) entries)
          (ap (λ v. v.items) done.places) done.kept
          ∙ rows_put places kept row place c.args.self.now.within done.start done.end))
    ]
