use Rattle.std.proofs.Common.{◌+◌, ◌++◌, Ok, Err, ap, append_assoc, codes, length, refl}
use Rattle.ly_listing.specs.Labels.{before_end, before_text}
use Rattle.ly_print.specs.Json.{json_content}
use Rattle.ly_print.proofs.TextWriterLemmas.{appended_twice, failed_before, same_bytes}
use Rattle.ly_listing.proofs.printer.JsonLinesLineForm.push_line.Goals as goal

pub returns-in_err-push_label-clause-text : goal.returns-in_err-push_label-clause-text
returns-in_err-push_label-clause-text g c =
    let text = c.args.printer.now.spot.text in
    let token = c.args.token.now in
    let span = before_end text c.args.at ++ before_text text (c.args.at + length token) in
    failed_before c.args.printer.now.lines c.push_label.new.self c.push_label.new.self _ _ c.args.label.now
    (span ++ (json_content token ++ codes "}\n")) _ c.from_residual.result c.in_err-push_label.field-0.0 refl
    c.from_residual.ensures.1 c.in_err-push_label.ensures.text

pub returns-in_err-push_span-clause-text : goal.returns-in_err-push_span-clause-text
returns-in_err-push_span-clause-text g c =
    let text = c.args.printer.now.spot.text in
    let token = c.args.token.now in
    let span = before_end text c.args.at ++ before_text text (c.args.at + length token) in
    let content = json_content token ++ codes "}\n" in
    let fault = c.in_err-push_span.field-0.0 in
    failed_before c.args.printer.now.lines c.push_span.new.self.lines c.push_span.new.self.lines _ _ _ content _
    c.from_residual-in_err-push_span.result fault (append_assoc c.args.label.now span content)
    c.from_residual-in_err-push_span.ensures.1
    (appended_twice c.args.printer.now.lines c.push_label.new.self c.push_span.new.self.lines _ _ _ c.args.label.now
    span tt (Err fault) c.in_ok-push_label.ensures.text (same_bytes c.push_label.new.self c.push_span.new.self.lines _ _ _
    span (Err fault) (ap (λ n. before_end text c.args.at ++ before_text text (c.args.at + n)) c.len.ensures)
    c.in_err-push_span.ensures.text))

pub returns-clause-text : goal.returns-clause-text
returns-clause-text g c =
    let text = c.args.printer.now.spot.text in
    let token = c.args.token.now in
    let span = before_end text c.args.at ++ before_text text (c.args.at + length token) in
    let content = json_content token ++ codes "}\n" in
    let old = c.args.printer.now.lines in
    same_bytes old c.push_content.new.self.lines _ _ _ _ c.push_content.result
    (append_assoc c.args.label.now span content)
    (appended_twice old c.push_span.new.self.lines c.push_content.new.self.lines _ _ _ _ content tt
    c.push_content.result (appended_twice old c.push_label.new.self c.push_span.new.self.lines _ _ _ c.args.label.now
    span tt (Ok tt) c.in_ok-push_label.ensures.text (same_bytes c.push_label.new.self c.push_span.new.self.lines _ _ _
    span (Ok tt) (ap (λ n. before_end text c.args.at ++ before_text text (c.args.at + n)) c.len.ensures)
    c.in_ok-push_span.ensures.text)) c.push_content.ensures.text)
