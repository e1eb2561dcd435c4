use Rattle.std.proofs.Common.{arith}
use Rattle.ly_tree.proofs.PickLemmas.{picked_more}
use Rattle.ly_tree.proofs.forest.pick.Goals as goal

pub loop-place-preserved : goal.loop-place-preserved
loop-place-preserved g c = record {
  picked = picked_more g.R.Refers.referred c.args.body.now c.args.places.now c.loop-place.place-index
      c.index-body-place.result c.term.result c.args.children.now.items c.loop-place.children.items
      c.push_reserved.new.self.items (omega arith) c.requires c.loop-place.invariant.picked c.index-body-place.is
      c.term.ensures c.push_reserved.ensures.items;
  room = let room = c.loop-place.invariant.room in omega arith;
}
