use Rattle.std.proofs.Common.{◌≡◌, ◌≤◌, ◌+◌, ◌++◌, ◌∷◌, ◌∙◌, [], ℕ, ap, arith, get_or, length, refl, subst, sym}
use Rattle.std.proofs.Common.{Vec, Global}
use Rattle.std.proofs.lemmas.List.{get_or_append_left, get_or_push, length_push}
use Rattle.std.proofs.lemmas.List.Elements.{Contains-get_or}
use Rattle.ly_subset.specs.Automaton.{next_by_class}
use Rattle.ly_minim.specs.Private.Blocks.{AreBlocks}
use Rattle.ly_minim.specs.Private.Groups.{AreChains, AreGrouped}
use Rattle.ly_minim.specs.Private.Halves.{IsByClass}
use Rattle.ly_minim.specs.Private.Partition.{IsUnion}
use Rattle.ly_minim.proofs.HalfLemmas.{apart_split, blocks_from, union_finer}
use Rattle.ly_minim.proofs.PartitionLemmas.{few}
use Rattle.ly_minim.proofs.halves.refine_by_halves.Goals as goal

pub loop-groups-init : goal.loop-groups-init
loop-groups-init c =
    let was = c.loop-half.invariant in
    let of = c.loop-half.partition.of.items in
    let rest = c.pop.new.self.items in
    let half = c.in-Some.half in
    let all : c.loop-half.halves.items ≡ rest ++ half ∷ [] = c.in-Some.ensures.items in
    record {
      laid = was.laid;
      clear = was.clear;
      count = was.count;
      halves = λ k d l. subst (λ (h : Vec ℕ Global). IsUnion of h.items)
          (ap (λ hs. get_or hs k d) all ∙ get_or_append_left rest (half ∷ []) d k l)
          (was.halves k d (omega (arith, l, ap length all, length_push rest half)));
      half = subst (λ (h : Vec ℕ Global). IsUnion of h.items)
          (ap (λ hs. get_or hs (length rest) half) all ∙ get_or_push rest half half (length rest) refl)
          (was.halves (length rest) half (omega (arith, ap length all, length_push rest half)));
      apart = was.apart;
      more = omega arith;
      balance = refl;
    }

pub split_by-requires-clause-chains : goal.split_by-requires-clause-chains
split_by-requires-clause-chains c =
    let items = c.deref-groups-items.result.now in
    let i = c.loop-groups.groups-index in
    let g = c.groups-item.result in
    let value = c.deref-groups-items.ensures.value in
    let by : IsByClass c.args.dfa.now g = subst (λ x. IsByClass c.args.dfa.now x)
    (sym (c.groups-item.is ∙ ap (λ gs. get_or gs i g) value))
    (c.in_ok-by_class.ensures i g (let less = c.loop-groups-test.true in omega (arith, ap length value))) in
    let was = c.loop-groups.invariant in
    subst (λ n. AreChains n g.last g.before) (sym was.count) by.2.chains

pub split_by-requires-clause-keys : goal.split_by-requires-clause-keys
split_by-requires-clause-keys c =
    let items = c.deref-groups-items.result.now in
    let i = c.loop-groups.groups-index in
    let g = c.groups-item.result in
    let value = c.deref-groups-items.ensures.value in
    let by : IsByClass c.args.dfa.now g = subst (λ x. IsByClass c.args.dfa.now x)
    (sym (c.groups-item.is ∙ ap (λ gs. get_or gs i g) value))
    (c.in_ok-by_class.ensures i g (let less = c.loop-groups-test.true in omega (arith, ap length value))) in
    let was = c.loop-groups.invariant in
    let half : IsUnion c.loop-groups.partition.of.items c.deref.result.now
    = subst (λ xs. IsUnion c.loop-groups.partition.of.items xs) (sym c.deref.ensures.value) was.half in
    λ k d l. omega (
      arith,
      half.inside (get_or c.deref.result.now k d) (Contains-get_or c.deref.result.now k d l),
      was.count,
      by.2.keys,
    )

pub loop-groups-preserved : goal.loop-groups-preserved
loop-groups-preserved c =
    let items = c.deref-groups-items.result.now in
    let i = c.loop-groups.groups-index in
    let g = c.groups-item.result in
    let value = c.deref-groups-items.ensures.value in
    let by : IsByClass c.args.dfa.now g = subst (λ x. IsByClass c.args.dfa.now x)
    (sym (c.groups-item.is ∙ ap (λ gs. get_or gs i g) value))
    (c.in_ok-by_class.ensures i g (let less = c.loop-groups-test.true in omega (arith, ap length value))) in
    let was = c.loop-groups.invariant in
    let half : IsUnion c.loop-groups.partition.of.items c.deref.result.now
    = subst (λ xs. IsUnion c.loop-groups.partition.of.items xs) (sym c.deref.ensures.value) was.half in
    let old = c.loop-groups.partition in
    let new = c.split_by.new.self in
    let done = c.in_ok-split_by.ensures in
    let grouped : AreGrouped (length old.of.items) (λ s. next_by_class c.args.dfa.now s by.0) g.last
    g.before
    = subst (λ n. AreGrouped n (λ s. next_by_class c.args.dfa.now s by.0) g.last g.before) (sym was.count)
    by.2.grouped in
    record {
      laid = done.laid;
      clear = done.clear;
      count = done.count ∙ was.count;
      halves = done.halves;
      half = union_finer old new c.in-Some.half.items done.count done.finer was.half;
      apart = λ is trim start. apart_split c.args.dfa.now is trim by.0 by.1 old new was.count c.deref.result.now half
          (was.apart is trim start) (done.apart (λ s. next_by_class c.args.dfa.now s by.0) grouped);
      more = let before = was.more in let after = done.more in omega arith;
      balance = let before = was.balance in let after = done.balance in omega arith;
    }

pub loop-half-smaller : goal.loop-half-smaller
loop-half-smaller c =
    let p = c.loop-groups.partition in
    let was = c.loop-groups.invariant in
    let few_blocks : length p.first.items ≤ length p.of.items = few (length p.of.items) p.states.items p.place.items
    p.of.items p.first.items p.middle.items p.end.items was.laid in
    let popped : length c.loop-half.halves.items ≡ length c.pop.new.self.items + 1 = ap length c.in-Some.ensures.items
    ∙ length_push c.pop.new.self.items c.in-Some.half in
    let balance = was.balance in let more = was.more in let count = was.count in omega arith

pub returns-clause-blocks : goal.returns-clause-blocks
returns-clause-blocks c =
    let p = c.loop-half.partition in
    let was = c.loop-half.invariant in
    let count : c.len.result ≡ length p.first.items
    = (let len = c.len.ensures in let same = p.first.ok.0 in omega arith) in
    subst (λ n. AreBlocks n p.of.items c.len.result) was.count
    (subst (λ n. AreBlocks (length p.of.items) p.of.items n) (sym count) (blocks_from p was.laid))
