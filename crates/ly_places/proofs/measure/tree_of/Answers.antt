use Rattle.ly_places.proofs.MeasureLemmas.{shape_there}
use Rattle.ly_places.proofs.measure.tree_of.Goals as goal

pub returns : goal.returns
returns c =
    shape_there c.args.rules.now c.args.rule.0 c.saturating_sub-place.result c.in_ok-rule.rule.now
    c.saturating_sub-place.ensures c.in_ok-rule.ensures.lookup.3.0 c.in_ok-rule.ensures.lookup.1
