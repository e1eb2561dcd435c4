use Rattle.std.proofs.Common.{◌≡◌, length}
use Rattle.std.proofs.Common.{◌∙◌, ◌+◌, ◌<◌, ◌≤◌, ◌↔◌, ◌∷◌, [], Contains, All, ap, map, subst, sym}
use Rattle.std.specs.List.{AllPairs}
use Rattle.std.proofs.lemmas.List.{map-append}
use Rattle.ly_lr0.specs.Automaton.{prefix_of}
use Rattle.ly_resolve.specs.Actions.{Action, IsDone, IsRaw, reduce}
use Rattle.ly_resolve.specs.Precedence.{judge_of}
use Rattle.ly_resolve.specs.Private.Found.{AreEntries, AreTold}
use Rattle.ly_resolve.specs.Private.Meetings.{AreAsked, IsAskedBy}
use Rattle.ly_resolve.specs.Values.{action_from, conflict_from, terminal_action_from, IsInside}
use Rattle.ly_resolve.specs.declared.action.TerminalAction as code
use Rattle.ly_resolve.proofs.FoundLemmas.{asked_same, entries_all, entries_more, entries_nothing, told_more}
use Rattle.ly_resolve.proofs.FoundLemmas.{told_nothing, told_row}
use Rattle.ly_resolve.proofs.MeetingLemmas.{done_too}
use Rattle.ly_resolve.proofs.settle.resolve_state.Goals as goal
use Rattle.ly_resolve.proofs.settle.resolve_state.Goals.{in-Some+in_ok-push+in_ok-tell, in_default}
use Rattle.std.proofs.lemmas.Bool.{eqb-true}
use Rattle.std.proofs.lemmas.List.{nil_from_length}
use Rattle.ly_lr0.specs.Automaton.{state_at}
use Rattle.ly_resolve.specs.Values.{conflict_from}
use Rattle.ly_resolve.proofs.ShiftLemmas.{told_shifts}

pub loop-terminal-preserved : goal.loop-terminal-preserved
loop-terminal-preserved c =
    let M = c.args.sources.now.lr0.now in
    let judge = judge_of c.args.sources.now.spec.now in
    let s = c.args.state.0 in
    let t = c.loop-terminal.terminal in
    let is = c.requires.lawful in
    let lt = c.requires.state in
    let sh = c.asks_shift.result in
    let rs = c.deref.result.now in
    let inv = c.loop-terminal.invariant in
    let old = c.loop-terminal.row.items in
    let asked : AreAsked M.grammar (prefix_of M s) t sh rs = record {
      shift = c.asks_shift.ensures;
      reductions = λ p. subst (λ w. Contains w p ↔ IsRaw M.grammar (prefix_of M s) t (reduce p))
          (sym c.deref.ensures.value) (c.in_ok-find_reductions.ensures.these p);
      rising = subst (λ w. AllPairs (λ p q. p < q) w) (sym c.deref.ensures.value)
          c.in_ok-find_reductions.ensures.rising;
    } in
    elim c.match-action.branch [
      | in-Some+in_ok-push+in_ok-tell w ↦
          let a = action_from w.in-Some.action in
          let done : IsDone (IsAskedBy sh rs) (λ p. judge p t) a = w.in-Some.ensures in
          let entry : code.TerminalAction = record { terminal = record { 0 = t }; action = w.in-Some.action } in
          let end : t < M.grammar.terminals = subst (λ n. t < n)
          (c.terminals-terminal-end.ensures ∙ sym c.grammar.ensures.keeps.terminals
          ∙ ap (λ g. g.terminals) c.reduced.ensures) c.loop-terminal-test.true in
          record {
            row = subst (AreEntries M judge s (t + 1)) (sym (ap (λ r. map terminal_action_from r.items) w.row-is
                ∙ ap (map terminal_action_from) w.in_ok-push.ensures.items
                ∙ map-append terminal_action_from old (entry ∷ [])))
                (entries_more M is judge s t lt (map terminal_action_from old) a (done_too (IsAskedBy sh rs)
                (IsRaw M.grammar (prefix_of M s) t) (λ p. judge p t) (asked_same asked) a done) inv.row);
            told = subst (λ x. AreTold M judge s (t + 1) (map (conflict_from M) x.conflicts) x.conflict_free)
                (sym w.told-is) (subst (λ cs. AreTold M judge s (t + 1) cs w.tell.new.self.conflict_free)
                (sym (w.in_ok-tell.ensures.told M))
                (told_more M is judge s t lt sh rs asked a done
                (map (conflict_from M) c.loop-terminal.told.conflicts) c.loop-terminal.told.conflict_free
                w.tell.new.self.conflict_free inv.told w.in_ok-tell.ensures.free));
            inside = subst (λ x. All (IsInside M) x.conflicts) (sym w.told-is)
                (w.in_ok-tell.ensures.inside M lt end inv.inside);
          }
      | in_default w ↦
          let nothing : (a : Action) → IsRaw M.grammar (prefix_of M s) t a → ⊥
          = λ a raw. w.in_default.ensures a ((asked_same asked a).1 raw) in
          record {
            row = subst (λ r. AreEntries M judge s (t + 1) (map terminal_action_from r.items)) (sym w.row-is)
                (entries_nothing M is judge s t lt nothing (map terminal_action_from old) inv.row);
            told = subst (λ x. AreTold M judge s (t + 1) (map (conflict_from M) x.conflicts) x.conflict_free)
                (sym w.told-is) (told_nothing M is judge s t lt nothing
                (map (conflict_from M) c.loop-terminal.told.conflicts) c.loop-terminal.told.conflict_free
                inv.told);
            inside = subst (λ x. All (IsInside M) x.conflicts) (sym w.told-is) inv.inside;
          }
    ]

pub returns-clause-row : goal.returns-clause-row
returns-clause-row c =
    let M = c.args.sources.now.lr0.now in
    entries_all M c.requires.lawful (judge_of c.args.sources.now.spec.now) c.args.state.0 c.loop-terminal.terminal
    (map terminal_action_from c.loop-terminal.row.items)
    (subst (λ n. n ≤ c.loop-terminal.terminal)
    (c.terminals-terminal-end.ensures ∙ sym c.grammar.ensures.keeps.terminals ∙ ap (λ g. g.terminals) c.reduced.ensures)
    c.loop-terminal-test.false) c.loop-terminal.invariant.row

pub returns-clause-told : goal.returns-clause-told
returns-clause-told c =
    let M = c.args.sources.now.lr0.now in
    told_row M c.requires.lawful (judge_of c.args.sources.now.spec.now) c.args.state.0 c.loop-terminal.terminal
    (map (conflict_from M) c.loop-terminal.told.conflicts) c.loop-terminal.told.conflict_free
    (subst (λ n. n ≤ c.loop-terminal.terminal)
    (c.terminals-terminal-end.ensures ∙ sym c.grammar.ensures.keeps.terminals ∙ ap (λ g. g.terminals) c.reduced.ensures)
    c.loop-terminal-test.false) c.loop-terminal.invariant.told

pub returns-then-is_empty-clause-told : goal.returns-then-is_empty-clause-told
returns-then-is_empty-clause-told c =
    let M = c.args.sources.now.lr0.now in
    let none : (state_at M c.args.state.0).complete ≡ [] = sym c.complete.ensures
    ∙ nil_from_length c.complete.result.now
    (eqb-true (length c.complete.result.now) 0 (sym c.is_empty.ensures ∙ c.if-is_empty.true)) in
    told_shifts M c.requires.lawful c.args.state.0 c.requires.state none (judge_of c.args.sources.now.spec.now)
    (map (conflict_from M) c.args.told.now.conflicts) c.args.told.now.conflict_free c.requires.told
