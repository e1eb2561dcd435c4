use Rattle.std.proofs.Common.{◌≡◌, ◌∙◌, ◌<◌, ◌≤◌, ◌+◌, ◌++◌, ◌∷◌, [], true, false, ℕ, ap, arith, length, slice_index_or}
use Rattle.std.proofs.Common.{subst, sym}
use Rattle.std.proofs.lemmas.Option.{slice_get-get_or, slice_get_within}
use Rattle.ly_sets.specs.NumberSet.{Member}
use Rattle.ly_lookahead.specs.Lookaheads.{set_at}
use Rattle.ly_lr0.specs.Automaton.{state_at}
use Rattle.ly_lr0.proofs.StateLemmas.{state_there}
use Rattle.ly_resolve.proofs.RawLemmas.{AreFoundTo, found_more, found_past, reduced_at, reduction_at}
use Rattle.ly_resolve.proofs.asking.find_reductions.Goals as goal
use Rattle.ly_resolve.proofs.asking.find_reductions.Goals.{then-contains+in-Ok+in_ok-push-in-Ok, else-contains}

pub contains-requires : goal.contains-requires
contains-requires c =
    let M = c.args.lr0.now in
    let s = c.args.state.0 in
    let i = c.loop-place.place in
    let lt : i < length (state_at M s).complete
    = subst (λ w. i < length w) c.complete-rule-items.ensures c.loop-place-test.true in
    c.requires.lookaheads.has s i (slice_index_or (state_at M s).complete i 0) (state_at M s)
    (state_there M s c.requires.state) (slice_get-get_or (state_at M s).complete i 0 lt)

pub loop-place-preserved : goal.loop-place-preserved
loop-place-preserved c =
    let M = c.args.lr0.now in
    let s = c.args.state.0 in
    let i = c.loop-place.place in
    let complete = (state_at M s).complete in
    let P : ℕ → Type 0 = λ k. Member (set_at c.args.lookaheads.now s k) c.args.terminal.0 in
    let same = c.complete-rule-items.ensures in
    let lt : i < length complete = subst (λ w. i < length w) same c.loop-place-test.true in
    let at = slice_get-get_or complete i 0 lt in
    let sorted = (c.requires.lawful.each s (state_at M s) (state_there M s c.requires.state)).rising in
    elim c.if-contains.branch [
      | then-contains+in-Ok+in_ok-push-in-Ok w ↦ found_more complete P i (slice_index_or complete i 0) at sorted
          c.loop-place.found.items c.if-contains.found.items
          (ap (λ f. f.items) w.found-is ∙ w.in_ok-push-in-Ok.ensures.items
          ∙ ap (λ n. c.loop-place.found.items ++ n ∷ []) w.in-Ok.ensures.1
          ∙ ap (λ z. c.loop-place.found.items ++ slice_index_or z i 0 ∷ []) same)
          (sym c.contains.ensures ∙ w.if-contains.true) c.loop-place.invariant
      | else-contains w ↦ subst (λ f. AreFoundTo complete P (i + 1) f.items) (sym w.found-is)
          (found_past complete P i (slice_index_or complete i 0) at sorted c.loop-place.found.items
          (λ m. let no : true ≡ false → ⊥ = λ z. cc in no (sym m ∙ (sym c.contains.ensures ∙ w.if-contains.false)))
          c.loop-place.invariant)
    ]

pub returns-clause-these : goal.returns-clause-these
returns-clause-these c p =
    let M = c.args.lr0.now in
    let s = c.args.state.0 in
    let inv = c.loop-place.invariant in
    let complete = (state_at M s).complete in
    let past : length complete ≤ c.loop-place.place
    = subst (λ w. length w ≤ c.loop-place.place) c.complete-rule-items.ensures c.loop-place-test.false in (
      λ has.
          let w = (inv.these p).0 has in
          reduced_at M c.requires.lawful c.args.lookaheads.now c.requires.lookaheads s c.requires.state
          c.args.terminal.0 w.0 p w.2 w.3,
      λ raw.
          let w = reduction_at M c.requires.lawful c.args.lookaheads.now c.requires.lookaheads s c.requires.state
          c.args.terminal.0 p raw in
          let within = slice_get_within complete w.0 p w.1 in
          (inv.these p).1 (w.0, omega (arith, within, past), w.1, w.2),
    )
