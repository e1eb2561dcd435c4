use Rattle.std.proofs.Common.{◌≡◌, ◌∙◌, ◌+◌, Err, Ok, ap, refl}
use Rattle.ly_listing.specs.Labels.{before_end, before_text}
use Rattle.ly_listing.specs.Private.Spot.{Spot}
use Rattle.ly_print.proofs.TextWriterLemmas.{appended_twice, failed_before, same_bytes}
use Rattle.ly_listing.proofs.printer.Printer.push_span.Goals as goal

pub returns-in_err-push_bytes-clause-text : goal.returns-in_err-push_bytes-clause-text
returns-in_err-push_bytes-clause-text g c =
    let text = c.args.self.now.spot.text in
    let first : c.before_end.result.now ≡ before_end text c.args.at
    = c.before_end.ensures.is ∙ ap (λ (v : Spot). before_end v.text v.at) c.move_to.ensures in
    let fault = c.in_err-push_bytes.field-0.0 in
    failed_before c.args.self.now.lines c.push_bytes.new.self c.push_bytes.new.self _ _ (before_end text c.args.at)
    (before_text text (c.args.at + c.args.count)) _ c.from_residual.result fault refl c.from_residual.ensures.1
    (same_bytes c.args.self.now.lines c.push_bytes.new.self _ _ _ _ (Err fault) first c.in_err-push_bytes.ensures.text)

pub returns-clause-text : goal.returns-clause-text
returns-clause-text g c =
    let text = c.args.self.now.spot.text in
    let first : c.before_end.result.now ≡ before_end text c.args.at
    = c.before_end.ensures.is ∙ ap (λ (v : Spot). before_end v.text v.at) c.move_to.ensures in
    let second : c.before_text.result.now ≡ before_text text (c.args.at + c.args.count)
    = c.before_text.ensures ∙ ap (λ (v : Spot). before_text v.text v.at) (c.move_on.ensures
    ∙ ap (λ (v : Spot). record { text = v.text; at = v.at + c.args.count }) c.move_to.ensures) in
    appended_twice c.args.self.now.lines c.push_bytes.new.self c.push_bytes-2.new.self _ _ _
    (before_end text c.args.at) (before_text text (c.args.at + c.args.count)) tt
    c.push_bytes-2.result
    (same_bytes c.args.self.now.lines c.push_bytes.new.self _ _ _ _ (Ok tt) first c.in_ok-push_bytes.ensures.text)
    (same_bytes c.push_bytes.new.self c.push_bytes-2.new.self _ _ _ _ c.push_bytes-2.result second c.push_bytes-2.ensures.text)
