use Rattle.std.proofs.Common.{◌≡◌, [], None, Some, subst, sym}
use Rattle.ly_pack.specs.Machine.{goto_at}
use Rattle.ly_loop.specs.Private.Known.{IsWithinStates}
use Rattle.ly_loop.specs.Private.Listed.{IsListed}
use Rattle.ly_loop.specs.Private.Summary.{IsGone, IsSummary}
use Rattle.ly_loop.specs.declared.known.Edge.{Edge}
use Rattle.ly_loop.proofs.ByRuleLemmas.{beside_is, kept_is, longer_is, missing_is}
use Rattle.ly_loop.proofs.listed.Listed.beside.Goals as goal

pub returns-in-Some : goal.returns-in-Some
returns-in-Some g c =
    let m = c.args.self.now in
    let under = c.args.below.0 in
    let next = c.in-Some.top.0 in
    let edge : Edge = record { below = c.args.below; top = c.in-Some.top } in
    let listed = subst (λ n. IsListed n c.self.inside.entries.now c.self.inside.gotos.now c.self.inside.reductions.now)
    c.self.view_is c.self.invariant in
    let led = subst (λ n. Some next ≡ goto_at n under c.args.left.0) c.self.view_is c.in-Some.ensures in
    let goes = listed.countable.machine.gotos under c.args.left.0 next (sym led) in
    let within : IsWithinStates m edge = (c.requires.below, goes) in
    longer_is m (IsSummary m c.args.tokens under next) (IsGone m c.args.tokens under [] c.args.left.0) 1
    c.look_up.result c.longer.result (beside_is m c.args.tokens under c.args.left.0 next led)
    (kept_is m c.args.tokens c.self.inside.reductions.now c.args.summaries.now edge c.look_up.result
    listed.reductions_are c.requires.known within c.look_up.ensures) c.longer.ensures

pub returns-in-None : goal.returns-in-None
returns-in-None g c = missing_is c.args.self.now c.args.tokens c.args.below.0 [] c.args.left.0
    (subst (λ n. None ≡ goto_at n c.args.below.0 c.args.left.0) c.self.view_is c.in-None.ensures)
