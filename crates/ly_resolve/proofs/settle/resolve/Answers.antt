use Rattle.std.proofs.Common.{◌≡◌, ◌∙◌, ◌++◌, ◌∷◌, [], ap, arith, length, map, slice_get, subst, sym}
use Rattle.std.proofs.lemmas.List.{length-append}
use Rattle.ly_lr0.specs.Automaton.{prefix_of}
use Rattle.ly_resolve.specs.Precedence.{judge_of}
use Rattle.ly_resolve.specs.Private.ActionRows.{rows_from}
use Rattle.ly_resolve.specs.Resolved.{IsRow}
use Rattle.ly_resolve.specs.Values.{terminal_action_from}
use Rattle.ly_resolve.proofs.FoundLemmas.{all_resolved, rows_more}
use Rattle.ly_resolve.proofs.settle.resolve.Goals as goal

pub loop-state-preserved : goal.loop-state-preserved
loop-state-preserved c =
    let M = c.args.lr0.now in
    let old = rows_from c.loop-state.rows.places.items c.loop-state.rows.kept.items in
    let row = map terminal_action_from c.resolve_state.new.row.items in
    let inv = c.loop-state.invariant in
    let new = rows_from c.push.new.self.places.items c.push.new.self.kept.items in
    let pushed : new ≡ old ++ row ∷ [] = c.in_ok-push.ensures
    ∙ ap (λ xs. old ++ map terminal_action_from xs ∷ []) c.deref.ensures.value in
    record {
      count =
          let long = length-append old (row ∷ []) in
          let count = inv.count in
          let same = ap length pushed in
          omega (arith, long, count, same);
      rows = λ k r at. rows_more (λ n y. IsRow M.grammar (judge_of c.args.spec.now) (prefix_of M n) y) old row inv.rows
          (subst (λ n. IsRow M.grammar (judge_of c.args.spec.now) (prefix_of M n) row)
          (sym inv.count) c.in_ok-resolve_state.ensures.row) k r
          (ap (λ w. slice_get w k) (sym pushed) ∙ at);
      told = c.in_ok-resolve_state.ensures.told;
      inside = c.in_ok-resolve_state.ensures.inside;
    }

pub invariant_of-result : goal.invariant_of-result
invariant_of-result c =
    let inv = c.loop-state.invariant in
    let count = c.states-state-end.ensures.count in
    let le = c.loop-state.auto.state-end in
    let past = c.loop-state-test.false in (
      c.requires.useful,
      all_resolved c.args.spec.now c.args.lr0.now c.loop-state.state
          (rows_from c.loop-state.rows.places.items c.loop-state.rows.kept.items) c.loop-state.told.conflicts
          c.loop-state.told.conflict_free c.states.ensures.lawful (omega (arith, count, le, past)) inv.count inv.rows
          inv.told,
      inv.inside,
    )

pub returns : goal.returns
returns c =
    let inv = c.loop-state.invariant in
    let count = c.states-state-end.ensures.count in
    let le = c.loop-state.auto.state-end in
    let past = c.loop-state-test.false in
    all_resolved c.args.spec.now c.args.lr0.now c.loop-state.state
    (rows_from c.loop-state.rows.places.items c.loop-state.rows.kept.items) c.loop-state.told.conflicts
    c.loop-state.told.conflict_free c.states.ensures.lawful (omega (arith, count, le, past)) inv.count inv.rows inv.told
