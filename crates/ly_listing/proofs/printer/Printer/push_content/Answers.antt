use Rattle.std.proofs.Common.{codes, refl}
use Rattle.ly_print.proofs.TextWriterLemmas.{appended_twice, failed_before}
use Rattle.ly_listing.proofs.printer.Printer.push_content.Goals as goal

pub returns-in_err-push_json_content-clause-text : goal.returns-in_err-push_json_content-clause-text
returns-in_err-push_json_content-clause-text g c =
    failed_before c.args.self.now.lines c.push_json_content.new.self c.push_json_content.new.self _ _ _ (codes "}\n") _ _
    c.in_err-push_json_content.field-0.0 refl c.from_residual.ensures.1 c.in_err-push_json_content.ensures.text

pub returns-clause-text : goal.returns-clause-text
returns-clause-text g c =
    appended_twice c.args.self.now.lines c.push_json_content.new.self c.push_bytes.new.self _ _ _ _ _ tt
    c.push_bytes.result c.in_ok-push_json_content.ensures.text c.push_bytes.ensures.text
