use Rattle.std.proofs.Common.{◌++◌, ◌∷◌, [], get_or, refl, subst, sym, take}
use Rattle.std.proofs.lemmas.List.{take_all, take_more}
use Rattle.std.proofs.lemmas.List.Elements.{Contains-get_or}
use Rattle.ly_pack.specs.Steady.{run_bound}
use Rattle.ly_loop.specs.Private.Edges.{IsBefore, IsFirstOf}
use Rattle.ly_loop.specs.Private.Known.{AreKnown}
use Rattle.ly_loop.specs.Private.Run.{EndsAs}
use Rattle.ly_loop.specs.declared.edges.Passing.{Passing}
use Rattle.ly_loop.specs.declared.known.Edge.{Edge}
use Rattle.ly_loop.specs.declared.tokens.Tokens.TheVariants.{One}
use Rattle.ly_loop.proofs.EdgeLemmas.{AreSoFar, first_ended, first_new, first_past, so_far_all, so_far_back}
use Rattle.ly_loop.proofs.EdgeLemmas.{so_far_none, so_far_onto, so_far_there}
use Rattle.ly_loop.proofs.listed.Listed.first_on.Goals as goal
use Rattle.ly_loop.proofs.listed.Listed.first_on.Goals.{then-comes_before+in_ok-ends_on+then-not-branch}
use Rattle.ly_loop.proofs.listed.Listed.first_on.Goals.{then-comes_before+in_ok-ends_on+else-not-branch}
use Rattle.ly_loop.proofs.listed.Listed.first_on.Goals.{else-comes_before}

pub loop-edge-init : goal.loop-edge-init
loop-edge-init g c = record {
  known = c.new-known.ensures c.args.self.now (One c.args.token);
  first = so_far_none c.args.self.now c.args.edges.now c.args.token.0 c.args.lower c.requires.lower;
}

pub ends_on-requires-clause-edge : goal.ends_on-requires-clause-edge
ends_on-requires-clause-edge g c =
    let none : Edge = record { below = record { 0 = 0 }; top = record { 0 = 0 } } in
    c.requires.edges _ (Contains-get_or c.args.edges.now c.loop-edge.edge-index none c.loop-edge-test.true)

pub loop-edge-preserved : goal.loop-edge-preserved
loop-edge-preserved g c =
    let m = c.args.self.now in
    let none : Edge = record { below = record { 0 = 0 }; top = record { 0 = 0 } } in
    let k = c.loop-edge.edge-index in
    let edges = c.args.edges.now in
    let t = c.args.token.0 in
    let e = get_or edges k none in
    let run : Passing = record { edge = e; token = c.args.token } in
    let was = c.loop-edge.invariant in
    let more = sym (take_more edges k none c.loop-edge-test.true) in
    let R = AreSoFar edges (take k edges) t in
    let S = AreSoFar edges (take k edges ++ e ∷ []) t in
    let onto = so_far_onto edges (take k edges) t e in
    let back = so_far_back edges (take k edges) t e run refl refl in
    let stack = e.top.0 ∷ e.below.0 ∷ [] in
    let first = c.loop-edge.first in
    elim c.if-comes_before.branch [
      | then-comes_before+in_ok-ends_on+then-not-branch w ↦ record {
        known = subst (λ (s : _). AreKnown m (One c.args.token) s.summaries) (sym w.known-is)
            w.in_ok-ends_on.ensures.known;
        first = subst (λ es. IsFirstOf m (AreSoFar edges es t) c.if-comes_before.first) more
            (subst (IsFirstOf m S) (sym w.first-is) (first_new m R S onto run back first
            (so_far_there edges (take k edges) t e)
            (subst (EndsAs m t stack run_bound) w.if-not-branch.true w.in_ok-ends_on.ensures.ends)
            (subst (IsBefore run first) w.if-comes_before.true c.comes_before.ensures) was.first));
      }
      | then-comes_before+in_ok-ends_on+else-not-branch w ↦ record {
        known = subst (λ (s : _). AreKnown m (One c.args.token) s.summaries) (sym w.known-is)
            w.in_ok-ends_on.ensures.known;
        first = subst (λ es. IsFirstOf m (AreSoFar edges es t) c.if-comes_before.first) more
            (subst (IsFirstOf m S) (sym w.first-is) (first_ended m R S onto run back first
            (subst (EndsAs m t stack run_bound) w.if-not-branch.false w.in_ok-ends_on.ensures.ends) was.first));
      }
      | else-comes_before w ↦ record {
        known = subst (λ (s : _). AreKnown m (One c.args.token) s.summaries) (sym w.known-is) was.known;
        first = subst (λ es. IsFirstOf m (AreSoFar edges es t) c.if-comes_before.first) more
            (subst (IsFirstOf m S) (sym w.first-is) (first_past m R S onto run back first
            (subst (IsBefore run first) w.if-comes_before.false c.comes_before.ensures) was.first));
      }
    ]

pub returns : goal.returns
returns g c =
    let edges = c.args.edges.now in
    so_far_all c.args.self.now edges c.args.token.0 c.loop-edge.first
    (subst (λ es. IsFirstOf c.args.self.now (AreSoFar edges es c.args.token.0) c.loop-edge.first)
    (take_all c.loop-edge.edge-index edges c.loop-edge-test.false) c.loop-edge.invariant.first)
