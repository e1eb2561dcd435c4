use Rattle.std.proofs.Common.{◌∙◌, ◌++◌, ◌∷◌, [], ap, arith, length, map, refl, slice_index_or, subst, sym, take}
use Rattle.std.specs.Prelude.{filter}
use Rattle.std.proofs.lemmas.List.{take_all}
use Rattle.std.proofs.Math.ListN.{length-set}
use Rattle.std.specs.FinSet as set
use Rattle.ly_join.specs.Grammar.{symbol_of}
use Rattle.ly_sets.specs.SetMatrix.{row}
use Rattle.ly_lr0.specs.Automaton.{is_shift, state_at}
use Rattle.ly_lr0.specs.Transitions.{transition_of}
use Rattle.ly_relate.proofs.GotoLemmas.{nowhere, shown_more}
use Rattle.ly_lookahead.specs.Private.Sets.{AreInserted}
use Rattle.ly_lookahead.proofs.DirectLemmas.{below_all, inserted_all, inserted_more, inserted_none, inserted_past}
use Rattle.ly_lookahead.proofs.DirectLemmas.{over_terminal}
use Rattle.ly_lookahead.proofs.SetLemmas.{inserted_one}
use Rattle.ly_lookahead.proofs.direct.insert_row.Goals as goal
use Rattle.ly_lookahead.proofs.direct.insert_row.Goals.{in-Terminal+in_ok-insert, in_default}

pub loop-transition-init : goal.loop-transition-init
loop-transition-init c = record {
  long = refl;
  width = refl;
  inserted = inserted_none c.args.row c.args.sets.now.sets;
}

pub insert-requires-clause-row : goal.insert-requires-clause-row
insert-requires-clause-row c =
    let lt = c.requires.row in
    let long = c.loop-transition.invariant.long in
    omega (arith, lt, long)

pub insert-requires-clause-below : goal.insert-requires-clause-below
insert-requires-clause-below c =
    let ts = (state_at c.args.lr0.now c.args.state.0).transitions in
    let lt = over_terminal (filter is_shift ts)
    c.shifts-transition-items.result.now c.loop-transition.transition-index c.args.sets.now.width
    c.in-Terminal.terminal.0 c.shifts-transition-items.ensures c.loop-transition-test.true
    (ap symbol_of c.in-Terminal.is) (below_all ts c.args.sets.now.width c.requires.below) in
    let width = c.loop-transition.invariant.width in
    omega (arith, lt, width)

pub loop-transition-preserved : goal.loop-transition-preserved
loop-transition-preserved c =
    let ts = c.shifts-transition-items.result.now in
    let i = c.loop-transition.transition-index in
    let n = c.args.row in
    let old = c.args.sets.now.sets in
    let now = c.loop-transition.sets.sets in
    let new = c.match-transition.sets.sets in
    let before = map transition_of (take i ts) in
    let u = transition_of (slice_index_or ts i nowhere) in
    let inv = c.loop-transition.invariant in
    let lt = c.requires.row in
    let long = inv.long in
    let more = sym (shown_more ts i c.loop-transition-test.true) in
    elim c.match-transition.branch [
      | in-Terminal+in_ok-insert w ↦
          let q = w.in-Terminal.terminal.0 in
          let is = ap (λ m. m.sets) (w.sets-is ∙ w.in_ok-insert.ensures.ok) in
          record {
            long = ap length is ∙ (length-set now n (set.insert (row now n) q) ∙ long);
            width = ap (λ m. m.width) (w.sets-is ∙ w.in_ok-insert.ensures.ok) ∙ inv.width;
            inserted = subst (λ xs. AreInserted xs n old new) more
                (inserted_more before u n q old now new (ap symbol_of w.in-Terminal.is) inv.inserted
                (inserted_one now new n q (omega (arith, lt, long)) is));
          }
      | in_default w ↦
          let is = ap (λ m. m.sets) w.sets-is in
          record {
            long = ap length is ∙ long;
            width = ap (λ m. m.width) w.sets-is ∙ inv.width;
            inserted = subst (λ xs. AreInserted xs n old new) more
                (subst (AreInserted (before ++ u ∷ []) n old) (sym is)
                (inserted_past before u n old now (ap symbol_of w.in_default.is) inv.inserted));
          }
    ]

pub returns-clause-rows : goal.returns-clause-rows
returns-clause-rows c = c.loop-transition.invariant.long

pub returns-clause-width : goal.returns-clause-width
returns-clause-width c = c.loop-transition.invariant.width

pub returns-clause-inserted : goal.returns-clause-inserted
returns-clause-inserted c =
    let items = c.shifts-transition-items.result.now in
    let i = c.loop-transition.transition-index in
    let past = c.loop-transition-test.false in
    let all = take_all i items (omega (arith, past)) in
    inserted_all (state_at c.args.lr0.now c.args.state.0).transitions c.args.row c.args.sets.now.sets
    c.loop-transition.sets.sets
    (subst (λ xs. AreInserted xs c.args.row c.args.sets.now.sets c.loop-transition.sets.sets)
    (ap (map transition_of) all ∙ c.shifts-transition-items.ensures) c.loop-transition.invariant.inserted)
