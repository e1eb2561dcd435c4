use Rattle.std.proofs.Common.{List, ℕ, map, ◌∙◌, ◌≡◌, ◌+◌, ◌<◌, ap, arith, length, slice_get, slice_index_or, subst}
use Rattle.std.proofs.Common.{sym, take, Contains, Some}
use Rattle.std.specs.List.{AllPairs}
use Rattle.std.proofs.lemmas.List.{length-map, take_all}
use Rattle.std.proofs.Math.ListN.{length-set}
use Rattle.std.specs.FinSet as set
use Rattle.ly_join.proofs.ListLemmas.{member_at}
use Rattle.ly_sets.specs.SetMatrix.{row}
use Rattle.ly_lr0.specs.Automaton.{Lr0Automaton, IsLr0Automaton}
use Rattle.ly_relate.specs.Related.{AreRelations, Relations}
use Rattle.ly_relate.specs.declared.walks.Lookback as lookback
use Rattle.ly_relate.specs.Values.{lookback_from}
use Rattle.ly_lookahead.specs.Private.Sets.{AreLookedBack}
use Rattle.ly_lookahead.proofs.LookaheadLemmas.{complete_once, complete_rising, lookback_within, place_within}
use Rattle.ly_lookahead.proofs.LookaheadLemmas.{rows_apart, rows_count}
use Rattle.ly_lookahead.proofs.SetLemmas.{lookback_seen, looked_more, looked_past, stays}
use Rattle.ly_lookahead.proofs.lookback.look_back.Goals as goal
use Rattle.ly_lookahead.proofs.lookback.look_back.Goals.{in-Some+in_ok-union_row, in_default}

-- a lookback is of a state and of a node
seen_within : (M : Lr0Automaton) → IsLr0Automaton M → (R : Relations) → AreRelations M R
    → (items : List lookback.Lookback) (i : ℕ) (x : lookback.Lookback) → map lookback_from items ≡ R.lookbacks
    → slice_get items i ≡ Some x → (x.state.0 < length M.states) × (x.node < R.includes.nodes)
seen_within M law R are items i x shown at =
    let l = lookback_from x in
    lookback_within M law R are l (member_at R.lookbacks i l (lookback_seen R.lookbacks items i x shown at))

pub complete-requires : goal.complete-requires
complete-requires c = (seen_within c.args.lr0.now c.requires.lawful c.args.relations.now c.requires.relations
    c.lookbacks-lookbacks.result.now c.loop-index.index c.get-lookback.result c.lookbacks-lookbacks.ensures
    c.get-lookback.ensures).0

pub place_of-requires : goal.place_of-requires
place_of-requires c =
    let items = c.lookbacks-lookbacks.result.now in
    let i = c.loop-index.index in
    let within = seen_within c.args.lr0.now c.requires.lawful c.args.relations.now c.requires.relations items i
    c.get-lookback.result c.lookbacks-lookbacks.ensures c.get-lookback.ensures in
    subst (AllPairs (λ p q. p < q)) (sym c.complete.ensures)
    (complete_rising c.args.lr0.now c.requires.lawful c.get-lookback.result.state.0 within.0)

pub overflow_add-row : goal.overflow_add-row
overflow_add-row c =
    let M = c.args.lr0.now in
    let R = c.args.relations.now in
    let items = c.lookbacks-lookbacks.result.now in
    let i = c.loop-index.index in
    let l = lookback_from c.get-lookback.result in
    let within = seen_within M c.requires.lawful R c.requires.relations items i
    c.get-lookback.result c.lookbacks-lookbacks.ensures c.get-lookback.ensures in
    let place = subst (λ xs. slice_get xs c.in-Some.place ≡ Some l.rule) c.complete.ensures c.in-Some.ensures in
    let lt = place_within M c.requires.lawful R c.requires.relations c.args.first.now c.requires.rows
    l.state c.in-Some.place l.rule within.0 place in
    let long = c.requires.long in
    let few = c.requires.few in
    omega (arith, lt, long, few)

pub union_row-requires-clause-to : goal.union_row-requires-clause-to
union_row-requires-clause-to c =
    let M = c.args.lr0.now in
    let R = c.args.relations.now in
    let items = c.lookbacks-lookbacks.result.now in
    let i = c.loop-index.index in
    let l = lookback_from c.get-lookback.result in
    let within = seen_within M c.requires.lawful R c.requires.relations items i
    c.get-lookback.result c.lookbacks-lookbacks.ensures c.get-lookback.ensures in
    let place = subst (λ xs. slice_get xs c.in-Some.place ≡ Some l.rule) c.complete.ensures c.in-Some.ensures in
    let lt = place_within M c.requires.lawful R c.requires.relations c.args.first.now c.requires.rows
    l.state c.in-Some.place l.rule within.0 place in
    let long = c.requires.long in
    let kept = c.loop-index.invariant.long in
    omega (arith, lt, long, kept)

pub union_row-requires-clause-from : goal.union_row-requires-clause-from
union_row-requires-clause-from c =
    let M = c.args.lr0.now in
    let R = c.args.relations.now in
    let within = seen_within M c.requires.lawful R c.requires.relations c.lookbacks-lookbacks.result.now
    c.loop-index.index c.get-lookback.result c.lookbacks-lookbacks.ensures c.get-lookback.ensures in
    let lt = within.1 in
    let most = rows_count M c.requires.lawful R c.requires.relations c.args.first.now c.requires.rows in
    let long = c.requires.long in
    let kept = c.loop-index.invariant.long in
    omega (arith, lt, most, long, kept)

pub loop-index-preserved : goal.loop-index-preserved
loop-index-preserved c =
    let items = c.lookbacks-lookbacks.result.now in
    let i = c.loop-index.index in
    let M = c.args.lr0.now in
    let R = c.args.relations.now in
    let first = c.args.first.now in
    let l = lookback_from c.get-lookback.result in
    let at = lookback_seen R.lookbacks items i c.get-lookback.result c.lookbacks-lookbacks.ensures
    c.get-lookback.ensures in
    let has = member_at R.lookbacks i l at in
    let in_state = (lookback_within M c.requires.lawful R c.requires.relations l has).0 in
    let old = c.args.sets.now.sets in
    let now = c.loop-index.sets.sets in
    let kept = c.loop-index.invariant.long in
    elim c.match-place_of.branch [
      | in-Some+in_ok-union_row w ↦
          let k = w.in-Some.place in
          let place = subst (λ xs. slice_get xs k ≡ Some l.rule) c.complete.ensures w.in-Some.ensures in
          let lt = place_within M c.requires.lawful R c.requires.relations first c.requires.rows l.state k
          l.rule in_state place in
          let long = c.requires.long in
          let to = slice_index_or first l.state 0 + k in
          let is = ap (λ m. m.sets) (w.sets-is ∙ w.in_ok-union_row.ensures.united) in
          record {
            long = ap length is ∙ (length-set now to (set.union (row now to) (row now l.node)) ∙ kept);
            united = looked_more M first R.lookbacks i l at k place
                (λ j there. complete_once M c.requires.lawful l.state j k l.rule in_state there place) old now
                c.match-place_of.sets.sets (omega (arith, lt, long, kept)) is
                (stays M first R.lookbacks i l at old now
                (λ m j other. rows_apart M c.requires.lawful R c.requires.relations first c.requires.rows l m j
                has other)
                c.loop-index.invariant.united)
                c.loop-index.invariant.united;
          }
      | in_default w ↦
          let lacks = subst (λ xs. Contains xs l.rule → ⊥) c.complete.ensures w.in_default.ensures in
          let is = ap (λ m. m.sets) w.sets-is in
          record {
            long = ap length is ∙ kept;
            united = subst (λ s. AreLookedBack M first (take (i + 1) R.lookbacks) old s) (sym is)
                (looked_past M first R.lookbacks i l at old now lacks c.loop-index.invariant.united);
          }
    ]

pub returns-clause-united : goal.returns-clause-united
returns-clause-united c =
    let R = c.args.relations.now in
    let items = c.lookbacks-lookbacks.result.now in
    let past = c.loop-index-test.false in
    let count = length-map items lookback_from in
    let shown = ap length c.lookbacks-lookbacks.ensures in
    let end = c.len-index-end.ensures in
    subst (λ xs. AreLookedBack c.args.lr0.now c.args.first.now xs c.args.sets.now.sets c.loop-index.sets.sets)
    (take_all c.loop-index.index R.lookbacks (omega (arith, past, count, shown, end)))
    c.loop-index.invariant.united
