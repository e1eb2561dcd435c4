use Rattle.std.proofs.Common.{◌≡◌, Some, [], slice_get, slice_index_or, subst}
use Rattle.std.proofs.lemmas.Option.{slice_get-get_or}
use Rattle.ly_lr0.specs.Automaton.{state_at}
use Rattle.ly_analysis.proofs.decided.place_of.Goals as goal

pub returns-then-complete-place : goal.returns-then-complete-place
returns-then-complete-place c =
    let M = c.args.lr0.now in
    let s = c.args.state.0 in
    let complete = c.complete-complete.result.now in
    let place = c.loop-place.place in
    c.requires.sets.has s place (slice_index_or complete place 0) (state_at M s)
    (slice_get-get_or M.states s (record { prefix = []; transitions = []; complete = [] }) c.requires.state)
    (subst (λ xs. slice_get xs place ≡ Some (slice_index_or complete place 0)) c.complete-complete.ensures
    (slice_get-get_or complete place 0 c.loop-place-test.true))
