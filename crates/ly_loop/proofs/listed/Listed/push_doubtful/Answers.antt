use Rattle.std.proofs.Common.{◌++◌, ◌∷◌, [], Option, get_or, subst, sym, take}
use Rattle.std.specs.Prelude.{IfSome}
use Rattle.std.proofs.lemmas.List.{take_more}
use Rattle.std.proofs.lemmas.List.Elements.{Contains-get_or}
use Rattle.ly_base.specs.declared.numbers.StateNo.{StateNo}
use Rattle.ly_pack.specs.Machine.{IsMachine}
use Rattle.ly_loop.specs.Private.Edges.{AreMoreDoubtful}
use Rattle.ly_loop.specs.Private.Summary.{IsSummary}
use Rattle.ly_loop.specs.declared.summary.Summary.{Summary}
use Rattle.ly_loop.specs.declared.tokens.Tokens.TheVariants.{All}
use Rattle.ly_loop.proofs.EdgeLemmas.{edge_known, more_added, more_ended, more_none}
use Rattle.ly_loop.proofs.SummaryLemmas.{summary_ends}
use Rattle.ly_loop.proofs.listed.Listed.push_doubtful.Goals as goal
use Rattle.ly_loop.proofs.listed.Listed.push_doubtful.Goals.{in-Some, in-None+in_ok-push-in-None}

pub loop-top-init : goal.loop-top-init
loop-top-init g c = record {
  known = c.turn_to.ensures c.args.self.now All c.requires.known;
  doubtful = more_none c.args.self.now c.args.below c.args.targets.now c.args.doubtful.now.items;
}

pub summary_of-requires-clause-edge : goal.summary_of-requires-clause-edge
summary_of-requires-clause-edge g c =
    let none : StateNo = record { 0 = 0 } in
    let top = get_or c.args.targets.now c.loop-top.top-index none in (
      c.requires.below,
      edge_known c.args.self.now c.args.below.0 top.0
          (subst IsMachine c.self.view_is c.self.invariant.countable.machine)
          (c.requires.targets.sound top
          (Contains-get_or c.args.targets.now c.loop-top.top-index none c.loop-top-test.true)),
    )

pub loop-top-preserved : goal.loop-top-preserved
loop-top-preserved g c =
    let m = c.args.self.now in
    let none : StateNo = record { 0 = 0 } in
    let k = c.loop-top.top-index in
    let targets = c.args.targets.now in
    let top = get_or targets k none in
    let was = c.loop-top.invariant in
    let more = sym (take_more targets k none c.loop-top-test.true) in
    let before = c.args.doubtful.now.items in
    record {
      known = c.in_ok-found.ensures.known;
      doubtful = subst (λ ts. AreMoreDoubtful m c.args.below ts before c.match-found.doubtful.items) more
          (elim c.match-found.branch [
            | in-Some w ↦
                subst (λ (v : _). AreMoreDoubtful m c.args.below (take k targets ++ top ∷ []) before v.items)
                (sym w.doubtful-is) (more_ended m c.args.below (take k targets) before c.loop-top.doubtful.items top
                was.doubtful (summary_ends m All c.args.below.0 top.0 _ (subst
                (λ (x : Option Summary). IfSome x (IsSummary m All c.args.below.0 top.0)) w.in-Some.is
                c.in_ok-found.ensures.summary)))
            | in-None+in_ok-push-in-None w ↦
                subst (λ (v : _). AreMoreDoubtful m c.args.below (take k targets ++ top ∷ []) before v.items)
                (sym w.doubtful-is) (subst (AreMoreDoubtful m c.args.below (take k targets ++ top ∷ []) before)
                (sym w.in_ok-push-in-None.ensures.items)
                (more_added m c.args.below (take k targets) before c.loop-top.doubtful.items top was.doubtful))
          ]);
    }
