use Rattle.std.proofs.Common.{◌++◌, Ok, Err, append_assoc, codes, refl}
use Rattle.ly_print.specs.Json.{json_content}
use Rattle.ly_print.proofs.TextWriterLemmas.{appended_twice, failed_before, same_bytes}
use Rattle.ly_print.proofs.text_writer.TextWriter.push_json_leaf.Goals as goal

pub returns-in_err-push_long_label-clause-text : goal.returns-in_err-push_long_label-clause-text
returns-in_err-push_long_label-clause-text g c =
    failed_before c.args.self.now c.push_long_label.new.self _ _ _ c.args.label.now
    (json_content c.args.text.now ++ codes "}") _ _ c.in_err-push_long_label.field-0.0 refl c.from_residual.ensures.1
    c.in_err-push_long_label.ensures.text

pub returns-in_err-push_json_content-clause-text : goal.returns-in_err-push_json_content-clause-text
returns-in_err-push_json_content-clause-text g c =
    let self = c.args.self.now in
    let fault = c.in_err-push_json_content.field-0.0 in
    failed_before self c.push_json_content.new.self _ _ _ _ (codes "}") _ _ fault
    (append_assoc c.args.label.now (json_content c.args.text.now) (codes "}"))
    c.from_residual-in_err-push_json_content.ensures.1
    (appended_twice self c.push_long_label.new.self c.push_json_content.new.self _ _ _ _ _ tt (Err fault)
    c.in_ok-push_long_label.ensures.text c.in_err-push_json_content.ensures.text)

pub returns-clause-text : goal.returns-clause-text
returns-clause-text g c =
    let self = c.args.self.now in
    same_bytes self c.push.new.self _ _ _ _ c.push.result
    (append_assoc c.args.label.now (json_content c.args.text.now) (codes "}"))
    (appended_twice self c.push_json_content.new.self c.push.new.self _ _ _ _ _ tt c.push.result
    (appended_twice self c.push_long_label.new.self c.push_json_content.new.self _ _ _ _ _ tt (Ok tt)
    c.in_ok-push_long_label.ensures.text c.in_ok-push_json_content.ensures.text)
    c.push.ensures.text)
