use Rattle.std.proofs.Common.{◌∙◌, ◌++◌, Err, Ok, ap₂, append_assoc, codes}
use Rattle.ly_feed.specs.NameMembers.{vocabulary_in}
use Rattle.ly_print.specs.Json.{json_content}
use Rattle.ly_print.proofs.TextWriterLemmas.{appended_twice, failed_before, same_bytes}
use Rattle.ly_spans.specs.Spans.{bytes_at, json_span}
use Rattle.ly_places.proofs.NotationLemmas.{token_opening}
use Rattle.ly_places.proofs.part_notation.PartNotation.push_token.Goals as goal

pub returns-in_err-push_label-clause-text : goal.returns-in_err-push_label-clause-text
returns-in_err-push_label-clause-text g c =
    let n = c.args.self.now in
    let content = codes "," ++ (json_content (bytes_at n.lines c.args.extent) ++ codes "}") in
    failed_before c.args.out.now c.push_label.new.self _ _ _ c.leaf.result.now
    (json_span n.lines c.args.extent ++ content) _ _ c.in_err-push_label.field-0.0
    (token_opening (vocabulary_in n.names) n.lines c.args.terminal c.args.extent c.leaf.result.now c.leaf.ensures)
    c.from_residual.ensures.1 c.in_err-push_label.ensures.text

pub returns-in_err-push_extent-clause-text : goal.returns-in_err-push_extent-clause-text
returns-in_err-push_extent-clause-text g c =
    let n = c.args.self.now in
    let extent = json_span n.lines c.args.extent in
    let content = codes "," ++ (json_content (bytes_at n.lines c.args.extent) ++ codes "}") in
    let label = c.leaf.result.now in
    failed_before c.args.out.now c.push_extent.new.out _ _ _ (label ++ extent) content _ _
    c.in_err-push_extent.field-0.0
    (append_assoc label extent content
    ∙ token_opening (vocabulary_in n.names) n.lines c.args.terminal c.args.extent label c.leaf.ensures)
    c.from_residual-in_err-push_extent.ensures.1
    (appended_twice c.args.out.now c.push_label.new.self c.push_extent.new.out _ _ _ label extent tt
    (Err c.in_err-push_extent.field-0.0) c.in_ok-push_label.ensures.text c.in_err-push_extent.ensures.text)

pub returns-clause-text : goal.returns-clause-text
returns-clause-text g c =
    let n = c.args.self.now in
    let extent = json_span n.lines c.args.extent in
    let label = c.leaf.result.now in
    let out = c.args.out.now in
    let content = codes "," ++ (json_content (bytes_at n.lines c.args.extent) ++ codes "}") in
    let leaf = c.push_json_leaf in
    same_bytes out leaf.new.self _ _ _ _ leaf.result
    (append_assoc label extent content
    ∙ token_opening (vocabulary_in n.names) n.lines c.args.terminal c.args.extent label c.leaf.ensures)
    (appended_twice out c.push_extent.new.out leaf.new.self _ _ _ (label ++ extent) content tt leaf.result
    (appended_twice out c.push_label.new.self c.push_extent.new.out _ _ _ label extent tt (Ok tt)
    c.in_ok-push_label.ensures.text c.in_ok-push_extent.ensures.text)
    (same_bytes c.push_extent.new.out leaf.new.self _ _ _ _ leaf.result
    (ap₂ (λ comma bytes. comma ++ (json_content bytes ++ codes "}")) n.is_comma c.bytes_at.ensures)
    leaf.ensures.text))
