use Rattle.std.proofs.Common.{◌∙◌, arith, map, take}
use Rattle.ly_pack.specs.Values.{rule_from}
use Rattle.ly_places.proofs.MeasureLemmas.{child_known, child_seen, child_within, one_measured}
use Rattle.ly_parse.specs.Deriving.{shape_of_rule}
use Rattle.ly_places.proofs.measure.measure_children.Goals as goal

pub look-requires : goal.look-requires
look-requires c =
    child_known c.args.forest.now c.children-children.result.now c.loop-child.child-index _ c.children-children.ensures
    c.loop-child-test.true

pub measured-requires : goal.measured-requires
measured-requires c =
    let f = c.args.forest.now in
    let k = c.loop-child.child-index in
    child_within (shape_of_rule (map rule_from c.args.rules.now)) (take k f.children) _ c.look.result c.deref.result.now
    (child_seen f c.children-children.result.now k _ c.look.result c.children-children.ensures c.loop-child-test.true
    c.look.ensures)
    (c.deref.ensures.value ∙ c.loop-child.invariant.measured)

pub loop-child-preserved : goal.loop-child-preserved
loop-child-preserved c =
    let f = c.args.forest.now in
    let k = c.loop-child.child-index in
    let shape = shape_of_rule (map rule_from c.args.rules.now) in
    let seen = child_seen f c.children-children.result.now k _ c.look.result c.children-children.ensures
    c.loop-child-test.true c.look.ensures in
    let done = c.deref.ensures.value ∙ c.loop-child.invariant.measured in record {
      measured = one_measured shape f.children k c.loop-child.measures.items c.push_reserved.new.self.items
          c.in_ok-measure.measure (omega (arith, c.loop-child-test.true, c.children-children.ensures.count))
          c.loop-child.invariant.measured (c.in_ok-measure.ensures (take k f.children) _ seen done)
          c.push_reserved.ensures.items;
      room = let room = c.loop-child.invariant.room in omega arith;
    }
