use Rattle.std.proofs.Common.{◌≡◌, ◌∙◌, ◌<◌, ◌↔◌, ℕ, arith, length, map, subst, ap, Contains}
use Rattle.ly_base.proofs.MemberLemmas.{Contains-none}
use Rattle.ly_digraph.specs.Digraph.{IsEdge}
use Rattle.ly_relate.specs.Private.Walks.{BackFrom, EdgeFrom}
use Rattle.ly_relate.specs.Values.{lookback_from}
use Rattle.ly_relate.proofs.GroupLemmas.{are_gathered, are_lookbacks, below_more}
use Rattle.ly_relate.proofs.walks.Walks.walk_all.Goals as goal

pub loop-goto-init : goal.loop-goto-init
loop-goto-init c = record {
  within = omega arith;
  nodes = ap (λ g. g.nodes) c.requires.fresh;
  includes = λ i o. (
    (λ has. absurd (Contains-none (i, o) (subst (λ g. Contains g.edges (i, o)) c.requires.fresh has))),
    (λ b. absurd (let lt = b.1 in omega (arith, lt))),
  );
  lookbacks = λ s p o. (
    (λ has. absurd (Contains-none (record { state = s; rule = p; node = o })
        (subst (λ xs. Contains (map lookback_from xs) (record { state = s; rule = p; node = o })) c.requires.none
        has))),
    (λ b. absurd (let lt = b.1 in omega (arith, lt))),
  );
}

pub loop-goto-preserved : goal.loop-goto-preserved
loop-goto-preserved c =
    let n = c.args.gotos.now in
    let k = c.loop-goto.goto in
    record {
      within = (let lt = c.loop-goto-test.true in let count = c.len-goto-end.ensures.count in omega (arith, lt, count));
      nodes = c.in_ok-walk_from.ensures.nodes ∙ c.loop-goto.invariant.nodes;
      includes = λ i o. below_more (λ j. EdgeFrom n c.args.rules.now c.args.groups.now j i o) k
          (c.loop-goto.invariant.includes i o) (c.in_ok-walk_from.ensures.includes i o);
      lookbacks = λ s p o. below_more (λ j. BackFrom n c.args.rules.now c.args.groups.now j s p o) k
          (c.loop-goto.invariant.lookbacks s p o) (c.in_ok-walk_from.ensures.lookbacks s p o);
    }

pub returns-clause-includes : goal.returns-clause-includes
returns-clause-includes c =
    let n = c.args.gotos.now in
    let r = c.args.rules.now in
    let w = c.args.groups.now in
    let g = c.loop-goto.self.includes in
    let past = c.loop-goto-test.false in
    let count = c.len-goto-end.ensures.count in
    let within = c.loop-goto.invariant.within in
    let all : c.loop-goto.goto ≡ length n.gotos = omega (arith, past, count, within) in
    are_gathered n c.len-goto-end.ensures.lawful r c.requires.rules w c.requires.groups g c.loop-goto.invariant.nodes
    (subst (λ k. (i o : ℕ) → IsEdge g i o ↔ ((j : ℕ) × (j < k) × EdgeFrom n r w j i o)) all
    c.loop-goto.invariant.includes)

pub returns-clause-lookbacks : goal.returns-clause-lookbacks
returns-clause-lookbacks c =
    let n = c.args.gotos.now in
    let r = c.args.rules.now in
    let w = c.args.groups.now in
    let g = c.loop-goto.self.includes in
    let lookbacks = map lookback_from c.loop-goto.self.lookbacks in
    let past = c.loop-goto-test.false in
    let count = c.len-goto-end.ensures.count in
    let within = c.loop-goto.invariant.within in
    let all : c.loop-goto.goto ≡ length n.gotos = omega (arith, past, count, within) in
    are_lookbacks n c.len-goto-end.ensures.lawful r c.requires.rules w c.requires.groups g c.loop-goto.invariant.nodes
    (subst (λ k. (i o : ℕ) → IsEdge g i o ↔ ((j : ℕ) × (j < k) × EdgeFrom n r w j i o)) all
    c.loop-goto.invariant.includes) lookbacks
    (subst (λ k. (s p o : ℕ) → Contains lookbacks (record { state = s; rule = p; node = o })
    ↔ ((j : ℕ) × (j < k) × BackFrom n r w j s p o)) all c.loop-goto.invariant.lookbacks)
