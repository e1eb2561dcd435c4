use Rattle.std.proofs.Common.{◌≤◌, arith, length, refl, slice_index_or}
use Rattle.std.proofs.lemmas.List.Elements.{Contains-get_or}
use Rattle.std.proofs.lemmas.Option.{slice_get-get_or, slice_get_within}
use Rattle.ly_conflicts.proofs.ToldLemmas.{terminal_more}
use Rattle.ly_conflicts.proofs.conflicts.Reporter.terminals.Goals as goal

pub conflict-requires : goal.conflict-requires
conflict-requires c =
    c.requires _ (Contains-get_or c.args.group.now c.loop-index.index-index 0 c.loop-index-test.true)

pub loop-index-preserved : goal.loop-index-preserved
loop-index-preserved c =
    let group = c.args.group.now in
    let n = c.loop-index.index-index in
    terminal_more c.args.self.now.examples.now group n c.loop-index.terminals.items c.push.new.self.items _
    (slice_index_or group n 0) c.conflict.result (slice_get-get_or group n 0 c.loop-index-test.true) c.conflict.ensures
    refl c.in_ok-push.ensures.items c.loop-index.invariant.0 c.loop-index.invariant.1

pub returns : goal.returns
returns c =
    let group = c.args.group.now in
    let all : length group ≤ c.loop-index.index-index = c.loop-index-test.false in (
      omega (arith, c.loop-index.invariant.0, all, c.loop-index.auto.index-index-end),
      λ p i conflict at is.
          c.loop-index.invariant.1 p i conflict (omega (arith, all, slice_get_within group p i at)) at is,
    )
