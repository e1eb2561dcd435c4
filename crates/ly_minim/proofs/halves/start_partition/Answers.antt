use Rattle.std.proofs.Common.{◌∙◌, ◌∷◌, [], subst, sym, Some}
use Rattle.ly_minim.specs.Private.Groups.{AreGrouped}
use Rattle.ly_minim.specs.Private.Signature.{block_of}
use Rattle.ly_minim.proofs.HalfLemmas.{within_more}
use Rattle.ly_minim.proofs.halves.start_partition.Goals as goal

pub loop-block-preserved : goal.loop-block-preserved
loop-block-preserved c =
    let start = c.args.start.now.of.items in
    let was = c.loop-block.invariant in
    let done = c.in_ok-split_by.ensures in
    let groups = c.in_ok-groups.groups in
    record {
      laid = done.laid;
      clear = done.clear;
      count = done.count ∙ was.count;
      within = within_more c.args.states start (c.loop-block.block ∷ []) c.loop-block.partition
          c.split_by.new.self was.count was.within
          (done.apart (λ s. Some (block_of start s)) (subst
          (λ n. AreGrouped n (λ s. Some (block_of start s)) groups.last groups.before) (sym was.count)
          c.in_ok-groups.ensures.grouped));
      halves = done.halves;
    }
