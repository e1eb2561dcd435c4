use Rattle.std.proofs.Common.{◌≡◌, ◌∙◌, ◌+◌, Some, ap, arith, inl, inr, map, refl, slice_get, slice_index_or}
use Rattle.std.proofs.Common.{subst, sym}
use Rattle.std.proofs.lemmas.Bool.{cases_eq}
use Rattle.std.proofs.lemmas.List.{length-map}
use Rattle.std.proofs.lemmas.Option.{slice_get_within}
use Rattle.ly_join.proofs.ListLemmas.{placed}
use Rattle.ly_lr0.specs.Automaton.{prefix_of}
use Rattle.ly_pack.specs.Rows.{dense_entry}
use Rattle.ly_pack.specs.Values.{action_from as entry_action}
use Rattle.ly_resolve.specs.Actions.{IsRaw, shift}
use Rattle.ly_resolve.specs.Precedence.{judge_of}
use Rattle.ly_resolve.specs.Values.{action_from, terminal_action_from}
use Rattle.ly_resolve.specs.declared.action.Action.TheVariants.{Shift}
use Rattle.ly_emit.specs.Private.Filling.{AreActionsTo, IsActionAt, IsAskedAt}
use Rattle.ly_emit.specs.Tables.{IsEntryFor}
use Rattle.ly_emit.proofs.FillLemmas.{filled_more, put_filled, put_none}
use Rattle.ly_emit.proofs.RowLemmas.{done_there, done_within, entry_there, shifted}
use Rattle.ly_emit.proofs.tables.fill_actions.Goals as goal

pub loop-entry-init : goal.loop-entry-init
loop-entry-init c = record {
  rows = ap (λ d. d.rows) c.reserve.ensures;
  width = ap (λ d. d.width) c.reserve.ensures;
  filled = subst (λ d. AreActionsTo c.args.resolved.now.automaton (judge_of c.args.resolved.now.spec) c.args.state.0
      (dense_entry d)) (sym c.reserve.ensures) c.requires.before;
  seen = λ j x lt. absurd (omega (arith, lt));
}

pub table_action-action-requires-clause-shifted : goal.table_action-action-requires-clause-shifted
table_action-action-requires-clause-shifted c =
    let M = c.args.resolved.now.automaton in
    let judge = judge_of c.args.resolved.now.spec in
    let row = c.args.row.now in
    let i = c.loop-entry.entry-index in
    let x = slice_index_or row i (record { terminal = record { 0 = 0 }; action = Shift }) in
    let done = done_there row i (record { terminal = record { 0 = 0 }; action = Shift }) c.loop-entry-test.true
    M.grammar judge (prefix_of M c.args.state.0) c.requires.row in
    λ e. subst (λ N. IsRaw N.grammar (prefix_of N c.args.state.0) x.terminal.0 shift) (sym c.lr0.ensures.these)
    (shifted M.grammar judge (prefix_of M c.args.state.0) x.terminal.0 (action_from x.action) done e)

pub set-requires-clause-column : goal.set-requires-clause-column
set-requires-clause-column c =
    let M = c.args.resolved.now.automaton in
    let judge = judge_of c.args.resolved.now.spec in
    let row = c.args.row.now in
    let i = c.loop-entry.entry-index in
    let x = slice_index_or row i (record { terminal = record { 0 = 0 }; action = Shift }) in
    let lt = done_within M.grammar judge (prefix_of M c.args.state.0) x.terminal.0 (action_from x.action)
    c.requires.lawful.augmented
    (done_there row i (record { terminal = record { 0 = 0 }; action = Shift }) c.loop-entry-test.true M.grammar judge
    (prefix_of M c.args.state.0) c.requires.row) in
    let now = c.loop-entry.invariant.width in
    let width = c.requires.width in
    omega (arith, lt, now, width)

pub loop-entry-preserved : goal.loop-entry-preserved
loop-entry-preserved c =
    let M = c.args.resolved.now.automaton in
    let judge = judge_of c.args.resolved.now.spec in
    let k = c.args.state.0 in
    let row = c.args.row.now in
    let i = c.loop-entry.entry-index in
    let x = slice_index_or row i (record { terminal = record { 0 = 0 }; action = Shift }) in
    let t = x.terminal.0 in
    let a = c.table_action-action.result in
    let inv = c.loop-entry.invariant in
    let old = dense_entry c.loop-entry.actions in
    let new = dense_entry c.set.new.self in
    let done = done_there row i (record { terminal = record { 0 = 0 }; action = Shift }) c.loop-entry-test.true
    M.grammar judge (prefix_of M k) c.requires.row in
    let is_entry : IsEntryFor M k t (action_from x.action) (entry_action a)
    = subst (λ N. IsEntryFor N k t (action_from x.action) (entry_action a)) c.lr0.ensures.these
    c.table_action-action.ensures in
    let put = c.in_ok-set.ensures.entries in
    record {
      rows = c.set.ensures.rows ∙ inv.rows;
      width = c.set.ensures.width ∙ inv.width;
      filled = put_filled old new k t a put (IsActionAt M judge) (IsAskedAt M) k (action_from x.action, done, is_entry)
          inv.filled;
      seen = λ j y lt at none. let before = put_none old new k t a put k y.terminal none in
          elim (cases_eq j i) [
            | inl same ↦
                let one : Some y ≡ Some (terminal_action_from x)
                = sym at ∙ (ap (slice_get (map terminal_action_from row)) same
                ∙ entry_there row i (record { terminal = record { 0 = 0 }; action = Shift }) c.loop-entry-test.true) in
                let is : y ≡ terminal_action_from x = cc in
                before.1 refl (ap (λ z. z.terminal) is)
            | inr off ↦ inv.seen j y (omega (arith, lt, off)) at before.0
          ];
    }

pub returns-clause-filled : goal.returns-clause-filled
returns-clause-filled c =
    let M = c.args.resolved.now.automaton in
    let judge = judge_of c.args.resolved.now.spec in
    let k = c.args.state.0 in
    let row = c.args.row.now in
    let inv = c.loop-entry.invariant in
    let past = c.loop-entry-test.false in
    subst (λ d. AreActionsTo M judge (k + 1) (dense_entry d)) (sym c.share.ensures)
    (filled_more (IsActionAt M judge) (IsAskedAt M) (dense_entry c.loop-entry.actions) k inv.filled (λ t none asked.
    let b = c.requires.row.whole t asked.0 asked.1 in
    let place = placed (map terminal_action_from row) (record { terminal = t; action = b.0 })
    ((c.requires.row.are (record { terminal = t; action = b.0 })).1 b.1) in
    let within
    = slice_get_within (map terminal_action_from row) place.0 (record { terminal = t; action = b.0 }) place.1 in
    let long = length-map row terminal_action_from in
    inv.seen place.0 (record { terminal = t; action = b.0 }) (omega (arith, within, long, past)) place.1 none))
