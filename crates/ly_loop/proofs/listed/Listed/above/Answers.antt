use Rattle.std.proofs.Common.{◌≡◌, [], ◌∷◌, ◌∙◌, None, Some, subst, sym}
use Rattle.ly_pack.specs.Machine.{goto_at}
use Rattle.ly_loop.specs.Private.Known.{IsLookup, IsWithinStates}
use Rattle.ly_loop.specs.Private.Listed.{IsListed}
use Rattle.ly_loop.specs.Private.Summary.{IsBehind, IsGone, IsSummary}
use Rattle.ly_loop.specs.declared.known.Edge.{Edge}
use Rattle.ly_loop.proofs.ByRuleLemmas.{above_is, kept_is, longer_is, longer_other, missing_is}
use Rattle.ly_loop.proofs.listed.Listed.above.Goals as goal
use Rattle.ly_loop.proofs.listed.Listed.above.Goals.{in-Known, in_default-look_up}

pub returns-in_default : goal.returns-in_default
returns-in_default g c =
    missing_is c.args.self.now c.args.tokens c.args.edge.top.0 (c.args.edge.below.0 ∷ []) c.args.left.0
    (subst (λ n. None ≡ goto_at n c.args.edge.top.0 c.args.left.0) c.self.view_is c.in_default.ensures)

pub returns : goal.returns
returns g c =
    let m = c.args.self.now in
    let below = c.args.edge.below.0 in
    let top = c.args.edge.top.0 in
    let left = c.args.left.0 in
    let next = c.in-Some.next.0 in
    let Q = IsGone m c.args.tokens top (below ∷ []) left in
    let upper : Edge = record { below = c.args.edge.top; top = c.in-Some.next } in
    let listed = subst (λ n. IsListed n c.self.inside.entries.now c.self.inside.gotos.now c.self.inside.reductions.now)
    c.self.view_is c.self.invariant in
    let led = subst (λ n. Some next ≡ goto_at n top left) c.self.view_is c.in-Some.ensures in
    let goes = listed.countable.machine.gotos top left next (sym led) in
    let within : IsWithinStates m upper = (c.requires.edge.1, goes) in
    let is = kept_is m c.args.tokens c.self.inside.reductions.now c.args.summaries.now upper c.look_up.result
    listed.reductions_are c.requires.known within c.look_up.ensures in
    elim c.match-look_up.branch [
      | in-Known w ↦
          let inner = w.in-Known.inner in
          let was = subst (IsLookup m (IsSummary m c.args.tokens top next)) w.in-Known.is is in
          longer_is m (IsBehind m c.args.tokens below inner) Q 1 c.match-look_up.found c.longer.result
          (above_is m c.args.tokens below top left next inner led was)
          (subst (IsLookup m (IsBehind m c.args.tokens below inner)) (sym w.found-is) w.above_one_more-found.ensures)
          c.longer.ensures
      | in_default-look_up w ↦
          longer_other m (IsSummary m c.args.tokens top next) Q 1 c.match-look_up.found c.longer.result
          (subst (IsLookup m (IsSummary m c.args.tokens top next)) (sym w.found-is) is)
          (λ o same. w.in_default-look_up.not-Known o (sym w.found-is ∙ same)) c.longer.ensures
    ]
