use Rattle.std.proofs.Common.{◌≡◌, ◌≢◌, ◌<◌, ◌≤◌, ◌+◌, ◌∙◌, ℕ, ap, sym, subst, arith, length, get_or}
use Rattle.std.proofs.lemmas.List.{length_push, with_items_is}
use Rattle.ly_pack.specs.Private.Tally.{HaveDefaults, IsChosen, out_by, reductions, times}
use Rattle.ly_pack.specs.Rows.{dense_entry}
use Rattle.ly_pack.proofs.TallyLemmas.{chosen_same, counts_old, defaults_more, times_some}
use Rattle.ly_pack.proofs.defaults.take_defaults.Goals as goal

pub most_frequent-default-requires-clause-room : goal.most_frequent-default-requires-clause-room
most_frequent-default-requires-clause-room c k d lt =
    let p = get_or c.deref.result.now k d in
    let so = c.loop-state.invariant in
    let listed = ap (times p) c.deref.ensures.value ∙ c.in_ok-list_rules.ensures p
    ∙ counts_old c.args.actions.now c.loop-state.actions c.loop-state.defaults.items so.taken c.loop-state.state
    (omega (arith, so.states)) p in
    let small : c.loop-state.state < c.args.actions.now.rows = omega arith in
    let legal = c.requires c.loop-state.state p small (subst (λ n. 1 ≤ n) listed
    (times_some c.deref.result.now k d lt)) in
    omega (arith, legal, so.room, ap length c.deref_mut.ensures.value)

pub loop-state-preserved : goal.loop-state-preserved
loop-state-preserved c =
    let so = c.loop-state.invariant in
    let items = c.in_ok-push.ensures.items in
    let counts = with_items_is c.loop-state.counts c.most_frequent-default.new.counts
    (c.most_frequent-default.auto.counts ∙ ap length c.deref_mut.ensures.value ∙ sym c.loop-state.counts.ok.0) in
    record {
      states = ap length items ∙ length_push c.loop-state.defaults.items c.most_frequent-default.result
          ∙ ap (λ n. n + 1) so.states;
      taken = subst (HaveDefaults c.args.actions.now.width c.args.actions.now c.take_out.new.actions) (sym items)
          (defaults_more c.args.actions.now c.loop-state.actions c.take_out.new.actions
          c.loop-state.defaults.items c.most_frequent-default.result so.taken c.take_out.ensures.rows
          c.take_out.ensures.width
          (subst (λ s. (t : ℕ) → dense_entry c.take_out.new.actions s t
          ≡ out_by c.most_frequent-default.result (dense_entry c.loop-state.actions s t)) (sym so.states)
          c.in_ok-take_out.ensures.row)
          (subst (λ s. (r t : ℕ) → r ≢ s → dense_entry c.take_out.new.actions r t
          ≡ dense_entry c.loop-state.actions r t) (sym so.states) c.take_out.ensures.others)
          (subst (λ s. IsChosen (reductions (dense_entry c.loop-state.actions) c.loop-state.actions.width s)
          c.most_frequent-default.result) (sym so.states) (chosen_same (λ p. times p c.deref.result.now)
          (reductions (dense_entry c.loop-state.actions) c.loop-state.actions.width c.loop-state.state)
          c.most_frequent-default.result (λ p. ap (times p) c.deref.ensures.value ∙ c.in_ok-list_rules.ensures p)
          c.most_frequent-default.ensures.most)));
      room = ap length counts ∙ c.most_frequent-default.auto.counts ∙ ap length c.deref_mut.ensures.value ∙ so.room;
      clear = λ p. ap (λ xs. get_or xs p 0) counts ∙ c.most_frequent-default.ensures.clear p;
    }
