use Rattle.std.proofs.Common.{◌++◌, ◌∷◌, [], Ok, Err, append_assoc, refl}
use Rattle.ly_base.specs.Bytes.{double_quote}
use Rattle.ly_print.specs.Text.{escaped}
use Rattle.ly_print.proofs.TextWriterLemmas.{appended_twice, failed_before, same_bytes}
use Rattle.ly_print.proofs.text_writer.TextWriter.push_quoted_behind.Goals as goal

pub returns-in_err-push_behind-clause-text : goal.returns-in_err-push_behind-clause-text
returns-in_err-push_behind-clause-text g c =
    failed_before c.args.self.now c.push_behind.new.self _ _ _ c.args.label.now
    (escaped double_quote c.args.text.now ++ double_quote ∷ []) _ _ c.in_err-push_behind.field-0.0 refl
    c.from_residual.ensures.1 c.in_err-push_behind.ensures.text

pub returns-in_err-push_each-clause-text : goal.returns-in_err-push_each-clause-text
returns-in_err-push_each-clause-text g c =
    let self = c.args.self.now in
    let fault = c.in_err-push_each.field-0.0 in
    failed_before self c.push_each.new.self _ _ _ _ (double_quote ∷ []) _ _ fault
    (append_assoc c.args.label.now (escaped double_quote c.args.text.now) (double_quote ∷ []))
    c.from_residual-in_err-push_each.ensures.1
    (appended_twice self c.push_behind.new.self c.push_each.new.self _ _ _ _ _ tt (Err fault)
    c.in_ok-push_behind.ensures.text c.in_err-push_each.ensures.text)

pub returns-clause-text : goal.returns-clause-text
returns-clause-text g c =
    let self = c.args.self.now in
    same_bytes self c.push.new.self _ _ _ _ c.push.result
    (append_assoc c.args.label.now (escaped double_quote c.args.text.now) (double_quote ∷ []))
    (appended_twice self c.push_each.new.self c.push.new.self _ _ _ _ _ tt c.push.result
    (appended_twice self c.push_behind.new.self c.push_each.new.self _ _ _ _ _ tt (Ok tt)
    c.in_ok-push_behind.ensures.text c.in_ok-push_each.ensures.text)
    c.push.ensures.text)
