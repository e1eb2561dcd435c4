use Rattle.std.proofs.Common.{◌∙◌, ◌++◌, Err, Ok, append_assoc, codes}
use Rattle.ly_feed.specs.NameMembers.{vocabulary_in}
use Rattle.ly_print.proofs.TextWriterLemmas.{appended_twice, failed_before, same_bytes}
use Rattle.ly_spans.specs.Spans.{json_span}
use Rattle.ly_places.proofs.NotationLemmas.{node_opening}
use Rattle.ly_places.proofs.part_notation.PartNotation.push_node.Goals as goal

pub returns-in_err-push_label-clause-text : goal.returns-in_err-push_label-clause-text
returns-in_err-push_label-clause-text g c =
    let n = c.args.self.now in
    failed_before c.args.out.now c.push_label.new.self _ _ _ c.node.result.now
    (json_span n.lines c.args.extent ++ codes ",\"children\":[") _ _ c.in_err-push_label.field-0.0
    (node_opening (vocabulary_in n.names) n.lines c.args.rule c.args.extent c.node.result.now c.node.ensures)
    c.from_residual.ensures.1 c.in_err-push_label.ensures.text

pub returns-in_err-push_extent-clause-text : goal.returns-in_err-push_extent-clause-text
returns-in_err-push_extent-clause-text g c =
    let n = c.args.self.now in
    let extent = json_span n.lines c.args.extent in
    let label = c.node.result.now in
    failed_before c.args.out.now c.push_extent.new.out _ _ _ (label ++ extent) (codes ",\"children\":[") _ _
    c.in_err-push_extent.field-0.0
    (append_assoc label extent (codes ",\"children\":[")
    ∙ node_opening (vocabulary_in n.names) n.lines c.args.rule c.args.extent label c.node.ensures)
    c.from_residual-in_err-push_extent.ensures.1
    (appended_twice c.args.out.now c.push_label.new.self c.push_extent.new.out _ _ _ label extent tt
    (Err c.in_err-push_extent.field-0.0) c.in_ok-push_label.ensures.text c.in_err-push_extent.ensures.text)

pub returns-clause-text : goal.returns-clause-text
returns-clause-text g c =
    let n = c.args.self.now in
    let extent = json_span n.lines c.args.extent in
    let label = c.node.result.now in
    let out = c.args.out.now in
    same_bytes out c.push_bytes.new.self _ _ _ _ c.push_bytes.result
    (append_assoc label extent (codes ",\"children\":[")
    ∙ node_opening (vocabulary_in n.names) n.lines c.args.rule c.args.extent label c.node.ensures)
    (appended_twice out c.push_extent.new.out c.push_bytes.new.self _ _ _ (label ++ extent) (codes ",\"children\":[")
    tt c.push_bytes.result
    (appended_twice out c.push_label.new.self c.push_extent.new.out _ _ _ label extent tt (Ok tt)
    c.in_ok-push_label.ensures.text c.in_ok-push_extent.ensures.text)
    c.push_bytes.ensures.text)
