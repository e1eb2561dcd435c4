use Rattle.std.proofs.Common.{◌≡◌, ◌∙◌, ◌∷◌, ◌++◌, ◌+◌, [], Some, ap, arith, length, map, option_map, slice_get}
use Rattle.std.proofs.Common.{slice_index_or, subst, sym}
use Rattle.std.specs.List.{filter}
use Rattle.std.proofs.lemmas.List.{length-map, map-append}
use Rattle.std.proofs.lemmas.Option.{slice_get-get_or, slice_get-map}
use Rattle.ly_join.specs.Grammar.{symbol_of}
use Rattle.ly_lr0.specs.Automaton.{is_shift, state_at}
use Rattle.ly_lr0.specs.Transitions.{transition_of}
use Rattle.ly_resolve.specs.Private.Shifts.{AreShifts}
use Rattle.ly_resolve.specs.Values.{terminal_action_from}
use Rattle.ly_resolve.proofs.ShiftLemmas.{shift_of, shifts_all, shifts_end, shifts_more, shifts_none, shifts_past}
use Rattle.ly_relate.proofs.GotoLemmas.{nowhere}
use Rattle.ly_resolve.proofs.shifting.list_shifts.Goals as goal
use Rattle.ly_resolve.proofs.shifting.list_shifts.Goals.{in-Terminal+in_ok-push-2, in_default}
use Rattle.ly_resolve.proofs.shifting.list_shifts.Goals.{else-asks_shift, then-asks_shift+in_ok-push}

pub loop-transition-init : goal.loop-transition-init
loop-transition-init c =
    let M = c.args.lr0.now in
    let s = c.args.state.0 in
    let f = map terminal_action_from in
    elim c.if-asks_shift.branch [
      | then-asks_shift+in_ok-push w ↦ subst (AreShifts M s 0) (sym (ap (λ r. f r.items) w.row-is
          ∙ ap f w.in_ok-push.ensures.items ∙ ap (λ xs. f (xs ++ w.shift_of.result ∷ [])) c.clear.ensures.items
          ∙ ap (λ x. terminal_action_from x ∷ []) w.shift_of.ensures))
          (shifts_end M c.requires.lawful s c.requires.state (c.asks_shift.ensures.0 w.if-asks_shift.true))
      | else-asks_shift w ↦ subst (AreShifts M s 0) (sym (ap (λ r. f r.items) w.row-is ∙ ap f c.clear.ensures.items))
          (shifts_none M c.requires.lawful s c.requires.state
          (λ raw. let yes = c.asks_shift.ensures.1 raw in let off = w.if-asks_shift.false in absurd (cc)))
    ]

pub loop-transition-preserved : goal.loop-transition-preserved
loop-transition-preserved c =
    let M = c.args.lr0.now in
    let s = c.args.state.0 in
    let f = map terminal_action_from in
    let ts = c.shifts-transition-items.result.now in
    let i = c.loop-transition.transition-index in
    let t = slice_index_or ts i nowhere in
    let old = c.loop-transition.row.items in
    let at : slice_get (filter is_shift (state_at M s).transitions) i ≡ Some (transition_of t)
    = ap (λ xs. slice_get xs i) (sym c.shifts-transition-items.ensures)
    ∙ slice_get-map transition_of ts i
    ∙ ap (option_map transition_of) (slice_get-get_or ts i nowhere c.loop-transition-test.true) in
    elim c.match-transition.branch [
      | in-Terminal+in_ok-push-2 w ↦
          let x = w.shift_of-in-Terminal.result in
          let pushed : f c.match-transition.row.items ≡ f old ++ shift_of w.in-Terminal.terminal.0 ∷ []
          = ap (λ r. f r.items) w.row-is ∙ ap f w.in_ok-push-2.ensures.items
          ∙ map-append terminal_action_from old (x ∷ [])
          ∙ ap (λ y. f old ++ terminal_action_from y ∷ []) w.shift_of-in-Terminal.ensures in
          subst (AreShifts M s (i + 1)) (sym pushed)
          (shifts_more M c.requires.lawful s c.requires.state i w.in-Terminal.terminal.0 t.target.0 (f old)
          (at ∙ ap (λ X. Some (record { symbol = symbol_of X; target = t.target.0 })) w.in-Terminal.is)
          c.loop-transition.invariant)
      | in_default w ↦ subst (λ r. AreShifts M s (i + 1) (f r.items)) (sym w.row-is)
          (shifts_past M c.requires.lawful s c.requires.state i w.in_default.field-0.0 t.target.0 (f old)
          (at ∙ ap (λ X. Some (record { symbol = symbol_of X; target = t.target.0 })) w.in_default.is)
          c.loop-transition.invariant)
    ]

pub returns : goal.returns
returns c =
    let M = c.args.lr0.now in
    let ts = c.shifts-transition-items.result.now in
    let long = ap length c.shifts-transition-items.ensures in
    let count = length-map ts transition_of in
    let past = c.loop-transition-test.false in
    shifts_all M c.requires.lawful c.args.state.0 c.requires.state c.requires.none c.loop-transition.transition-index
    (map terminal_action_from c.loop-transition.row.items) (omega (arith, long, count, past))
    c.loop-transition.invariant
