use Rattle.std.proofs.Common.{◌≡◌, ◌∙◌, ◌+◌, ◌-◌, ap, arith, drop, map, subst, take, Some}
use Rattle.ly_pack.specs.Values.{rule_from}
use Rattle.ly_places.proofs.MeasureLemmas.{node_measured}
use Rattle.ly_places.specs.Private.Measured.{parts_made}
use Rattle.ly_parse.specs.Deriving.{shape_of_rule}
use Rattle.ly_tree.specs.Look.{IsSeen}
use Rattle.ly_places.proofs.measure.measured.Goals as goal

pub returns-in_ok-parts_by-in-Node : goal.returns-in_ok-parts_by-in-Node
returns-in_ok-parts_by-in-Node c children t seen measured =
    let span = c.in-Node.span in
    let ms = c.args.measures.now in
    let size : span.start + span.count - span.start ≡ span.count = omega arith in
    let body = take (span.start + span.count - span.start) (drop span.start ms) in
    node_measured (shape_of_rule (map rule_from c.args.rules.now)) span children t ms body
    (record { tokens = c.in_ok-tokens_of-in-Node.field-0; parts = c.in_ok-parts_by-in-Node.field-0 })
    (subst (λ l. IsSeen children l (Some t)) c.in-Node.is seen) measured
    (ap (λ n. take n (drop span.start ms)) size) c.in_ok-tokens_of-in-Node.ensures
    (c.in_ok-parts_by-in-Node.ensures ∙ ap (λ shape. parts_made shape body) c.tree_of.ensures)
