use Rattle.std.proofs.Common.{◌++◌, Ok, Err, append_assoc, codes, refl}
use Rattle.ly_print.specs.Json.{numbers}
use Rattle.ly_print.proofs.TextWriterLemmas.{appended_twice, failed_before, same_bytes}
use Rattle.ly_print.proofs.text_writer.TextWriter.push_json_bytes.Goals as goal

pub returns-in_err-push_bytes-clause-text : goal.returns-in_err-push_bytes-clause-text
returns-in_err-push_bytes-clause-text g c =
    failed_before c.args.self.now c.push_bytes.new.self _ _ _ (codes "\"bytes\":[")
    (numbers c.args.bytes.now ++ codes "]") _ _ c.in_err-push_bytes.field-0.0 refl c.from_residual.ensures.1
    c.in_err-push_bytes.ensures.text

pub returns-in_err-push_numbers-clause-text : goal.returns-in_err-push_numbers-clause-text
returns-in_err-push_numbers-clause-text g c =
    let self = c.args.self.now in
    let fault = c.in_err-push_numbers.field-0.0 in
    failed_before self c.push_numbers.new.self _ _ _ _ (codes "]") _ _ fault
    (append_assoc (codes "\"bytes\":[") (numbers c.args.bytes.now) (codes "]"))
    c.from_residual-in_err-push_numbers.ensures.1
    (appended_twice self c.push_bytes.new.self c.push_numbers.new.self _ _ _ _ _ tt (Err fault)
    c.in_ok-push_bytes.ensures.text c.in_err-push_numbers.ensures.text)

pub returns-clause-text : goal.returns-clause-text
returns-clause-text g c =
    let self = c.args.self.now in
    same_bytes self c.push.new.self _ _ _ _ c.push.result
    (append_assoc (codes "\"bytes\":[") (numbers c.args.bytes.now) (codes "]"))
    (appended_twice self c.push_numbers.new.self c.push.new.self _ _ _ _ _ tt c.push.result
    (appended_twice self c.push_bytes.new.self c.push_numbers.new.self _ _ _ _ _ tt (Ok tt)
    c.in_ok-push_bytes.ensures.text c.in_ok-push_numbers.ensures.text)
    c.push.ensures.text)
