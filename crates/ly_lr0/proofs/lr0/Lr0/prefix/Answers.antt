use Rattle.std.proofs.Common.{◌≡◌, ◌<◌, ◌-◌, ◌∙◌, suc, ap, arith, length, map, sym, slice_index_or, [], ◌++◌}
use Rattle.std.proofs.lemmas.List.{append-nil}
use Rattle.ly_join.specs.Grammar.{symbol_of}
use Rattle.ly_lr0.specs.Private.Built.{link_of, prefixes_of}
use Rattle.ly_lr0.proofs.RowLemmas.{count_rows, prefix_by_links}
use Rattle.ly_lr0.proofs.StateLemmas.{link_back, no_links_prefix, prefix_step}
use Rattle.ly_lr0.proofs.lr0.Lr0.prefix.Goals as goal

pub loop-state-init : goal.loop-state-init
loop-state-init c =
    record {
      within = omega (arith, count_rows c.self.invariant c.self.view_is, c.self.invariant.count);
      left = ap (λ xs. map symbol_of xs
          ++ slice_index_or (prefixes_of (map link_of c.self.inside.links.items)) c.args.state.0 [])
          c.new-prefix.ensures.items;
    }

pub loop-state-smaller : goal.loop-state-smaller
loop-state-smaller c =
    let some = c.loop-state-test.true in
    let within = c.loop-state.invariant.within in
    let back = link_back c.self.inside.links.items (c.loop-state.state - 1) c.index-link.result.now
    c.index-link.result.now
    c.self.invariant.back (omega arith) c.index-link.ensures in
    omega arith

pub loop-state-preserved : goal.loop-state-preserved
loop-state-preserved c =
    let links = c.self.inside.links.items in
    let some = c.loop-state-test.true in
    let within = c.loop-state.invariant.within in
    let k = c.loop-state.state - 1 in
    let less : k < length links = omega arith in
    let state : suc k ≡ c.loop-state.state = omega arith in
    let back = link_back links k c.index-link.result.now c.index-link.result.now c.self.invariant.back less
    c.index-link.ensures in
    record {
      within = omega arith;
      left = ap (λ xs. map symbol_of xs
          ++ slice_index_or (prefixes_of (map link_of links)) c.index-link.result.now.from [])
          c.in_ok-push.ensures.items
          ∙ prefix_step links c.loop-state.prefix.items k c.index-link.result.now c.index-link.result.now
          c.self.invariant.back less c.index-link.ensures
          ∙ ap (λ n. map symbol_of c.loop-state.prefix.items ++ slice_index_or (prefixes_of (map link_of links)) n [])
          state
          ∙ c.loop-state.invariant.left;
    }

pub returns : goal.returns
returns c =
    let links = c.self.inside.links.items in
    let start : c.loop-state.state ≡ 0 = let none = c.loop-state-test.false in omega arith in
    sym (append-nil (map symbol_of c.loop-state.prefix.items))
    ∙ ap (λ w. map symbol_of c.loop-state.prefix.items ++ w) (sym (no_links_prefix links))
    ∙ ap (λ n. map symbol_of c.loop-state.prefix.items ++ slice_index_or (prefixes_of (map link_of links)) n [])
    (sym start)
    ∙ c.loop-state.invariant.left
    ∙ prefix_by_links c.self.invariant c.self.view_is c.args.state.0
