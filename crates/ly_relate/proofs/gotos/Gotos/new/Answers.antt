use Rattle.std.proofs.Common.{◌≡◌, ◌++◌, ◌∙◌, ◌∷◌, [], ◌<◌, ◌≤◌, ◌+◌, suc, arith, length, sym, ap}
use Rattle.std.proofs.lemmas.List.{length-append, length-map, take_all}
use Rattle.ly_lr0.specs.Automaton.{state_at}
use Rattle.ly_relate.specs.Private.Gotos.{gotos_from, row_gotos}
use Rattle.ly_relate.specs.Values.{goto_from}
use Rattle.ly_relate.proofs.GotoLemmas.{firsts_more, gotos_more}
use Rattle.ly_relate.proofs.gotos.Gotos.new.Goals as goal

pub loop-state-preserved : goal.loop-state-preserved
loop-state-preserved c =
    let M = c.args.lr0.now in
    let k = c.loop-state.state in
    let lt : k < length M.states = (let a = c.loop-state-test.true in let e = c.states-state-end.ensures.count in
    omega (arith, a, e)) in
    let items = c.loop-state.first.items in
    let before = c.loop-state.invariant in
    let long = before.long in
    record {
      within = omega (arith, lt);
      gotos = c.in_ok-push_row.ensures
          ∙ ap (λ xs. xs ++ row_gotos k (state_at M k).transitions) before.gotos ∙ sym (gotos_more M k lt);
      long = ap length c.in_ok-push.ensures.items ∙ length-append items (c.len.result ∷ []) ∙ ap (λ n. n + 1) long;
      first = firsts_more M k items c.push.new.self.items c.len.result c.in_ok-push.ensures.items long
          (c.len.ensures ∙ c.loop-state.gotos.ok.0 ∙ sym (length-map c.loop-state.gotos.items goto_from)
          ∙ ap length before.gotos) before.first;
    }

pub invariant_of-result : goal.invariant_of-result
invariant_of-result c =
    let M = c.args.lr0.now in
    let k = c.loop-state.state in
    let items = c.loop-state.first.items in
    let before = c.loop-state.invariant in
    let long = before.long in
    let n = c.len-2.result in
    let all : length M.states ≤ k = (let a = c.loop-state-test.false in let e = c.states-state-end.ensures.count in
    omega (arith, a, e)) in
    let bound = before.within in
    let count : k ≡ length M.states = omega (arith, all, bound) in
    let new = c.in_ok-push-2.ensures.items in
    record {
      lawful = c.states.ensures.lawful;
      gotos = before.gotos ∙ ap (gotos_from 0) (take_all k M.states all);
      long = ap length new ∙ length-append items (n ∷ []) ∙ (let e : length items + 1 ≡ suc (length M.states)
          = omega (arith, long, count) in e);
      first = λ s le. firsts_more M k items c.push-2.new.self.items n new long
          (c.len-2.ensures ∙ c.loop-state.gotos.ok.0 ∙ sym (length-map c.loop-state.gotos.items goto_from)
          ∙ ap length before.gotos) before.first s
          (omega (arith, le, count));
    }
