use Rattle.std.proofs.Common.{◌≡◌, ◌≢◌, subst, arith, length, All, inl, inr}
use Rattle.std.proofs.lemmas.Bool.{cases_lt}
use Rattle.ly_digraph.specs.Digraph.{IsInside}
use Rattle.ly_digraph.specs.Walk.{place}
use Rattle.ly_digraph.specs.declared.walk.Place.TheVariants.{New}
use Rattle.ly_digraph.proofs.UnionLemmas.{continues_none, continues_on}
use Rattle.ly_digraph.proofs.LeastLemmas.{least_of}
use Rattle.ly_digraph.proofs.solution.least.Goals as goal

pub loop-root-init : goal.loop-root-init
loop-root-init c = record {
  on = continues_none (c.in_ok-walk.ensures.at c.args.sets.now.sets c.requires);
  over = c.in_ok-walk.ensures.over;
  seen = λ x lt. absurd (omega arith);
}

pub loop-root-preserved : goal.loop-root-preserved
loop-root-preserved c =
    let on = c.in_ok-visit.ensures.on in record {
      on = continues_on c.loop-root.invariant.on on;
      over = c.in_ok-visit.ensures.over;
      seen = λ x lt. elim (cases_lt x c.loop-root.root) [
        | inl below ↦ on.seen x (c.loop-root.invariant.seen x below)
        | inr here ↦ subst (λ y. place c.visit.new.self.places.items y ≢ New) (let e : c.loop-root.root ≡ x
            = omega arith in e) c.in_ok-visit.ensures.seen
      ];
    }

pub returns-clause-least : goal.returns-clause-least
returns-clause-least c =
    let nodes = c.nodes-root-end.ensures.count in
    let over : length c.loop-root.walk.path.items ≡ 0
    = (let e = c.loop-root.invariant.over in let ok = c.loop-root.walk.path.ok.0 in omega arith) in
    least_of c.loop-root.invariant.on.at over (λ x lt. c.loop-root.invariant.seen x (omega arith))
    (subst (λ n. All (IsInside n) c.args.graph.now.edges) nodes c.nodes-root-end.ensures.inside)
    c.args.sets.now.sets c.loop-root.invariant.on.between

pub returns-clause-reached : goal.returns-clause-reached
returns-clause-reached c = c.loop-root.invariant.on.between
