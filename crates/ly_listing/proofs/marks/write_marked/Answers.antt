use Rattle.std.proofs.Common.{◌≡◌, ◌∙◌, ◌+◌, ◌-◌, Err, Ok, ap, arith, drop, length-drop, refl}
use Rattle.std.proofs.Common.{get_or, length}
use Rattle.ly_listing.specs.Labels.{labelled_lines}
use Rattle.ly_listing.specs.Private.Marks.{label_of, marked_tokens}
use Rattle.ly_listing.specs.declared.marks.Mark.{Mark}
use Rattle.ly_listing.proofs.MarkLemmas.{step}
use Rattle.ly_listing.proofs.WritingLemmas.{line_told}
use Rattle.ly_print.proofs.TextWriterLemmas.{appended_twice, failed_before, same_bytes}
use Rattle.ly_listing.proofs.marks.write_marked.Goals as goal

pub returns-in_err-push_if-clause-told : goal.returns-in_err-push_if-clause-told
returns-in_err-push_if-clause-told g c =
    let form = g.F.LineForm.form in
    let none : Mark = record { label = 0; gap = 0; taken = 0 } in
    let text = c.args.text.now in
    let labels = c.args.labels.now.labels.items in
    let marks = c.args.marks.now in
    let now = c.loop-mark in
    let so_far = now.invariant.so_far in
    let there = c.behind-there.result.now in
    let taken = c.taken-taken.result in
    let token = c.new.result in
    let next = drop taken there in
    let at = length text - length there in
    let on = step form text labels marks now.mark-index none at now.rest.now there next token c.gap.result taken
    c.loop-mark-test.true c.gap.ensures c.behind-there.ensures c.taken-taken.ensures refl c.new.ensures refl
    now.invariant.within in
    let line = line_told form _ text _ (label_of labels (get_or marks now.mark-index none)) _ at token now.invariant.same
    (c.label-label.ensures ∙ ap (λ ls. label_of ls (get_or marks now.mark-index none)) c.deref.ensures.value) refl in
    let fault = c.in_err-push_if.field-0.0 in
    failed_before c.args.printer.now.lines c.push_if.new.printer.lines c.push_if.new.printer.lines _ _ _
    (labelled_lines form text (marked_tokens labels (length text) (drop (now.mark-index + 1) marks) next))
    (labelled_lines form text (marked_tokens labels (length text) marks text))
    c.from_residual.result fault (on.line so_far.0 ∙ so_far.1) c.from_residual.ensures.1
    (appended_twice c.args.printer.now.lines now.printer.lines c.push_if.new.printer.lines _ _ _ so_far.0 _ tt
    (Err fault) so_far.2 (same_bytes now.printer.lines c.push_if.new.printer.lines _ _ _ _ (Err fault) line
    c.in_err-push_if.ensures.text))

pub loop-mark-preserved : goal.loop-mark-preserved
loop-mark-preserved g c =
    let form = g.F.LineForm.form in
    let none : Mark = record { label = 0; gap = 0; taken = 0 } in
    let text = c.args.text.now in
    let labels = c.args.labels.now.labels.items in
    let marks = c.args.marks.now in
    let now = c.loop-mark in
    let so_far = now.invariant.so_far in
    let there = c.behind-there.result.now in
    let next = c.behind-rest.result.now in
    let at = length text - length there in
    let on = step form text labels marks now.mark-index none at now.rest.now there next c.new.result
    c.gap.result c.taken-taken.result c.loop-mark-test.true c.gap.ensures c.behind-there.ensures c.taken-taken.ensures
    refl c.new.ensures c.behind-rest.ensures now.invariant.within in
    let line = line_told form _ text _ (label_of labels (get_or marks now.mark-index none)) _ at c.new.result
    now.invariant.same
    (c.label-label.ensures ∙ ap (λ ls. label_of ls (get_or marks now.mark-index none)) c.deref.ensures.value) refl in
    let from : there ≡ drop c.gap.result now.rest.now = c.behind-there.ensures in
    let on_from : next ≡ drop c.taken-taken.result there = c.behind-rest.ensures in record {
      so_far = (
        _,
        on.line so_far.0 ∙ so_far.1,
        appended_twice c.args.printer.now.lines now.printer.lines c.push_if.new.printer.lines _ _ _ so_far.0 _ tt
            (Ok tt) so_far.2 (same_bytes now.printer.lines c.push_if.new.printer.lines _ _ _ _ (Ok tt) line
            c.in_ok-push_if.ensures.text),
        omega (arith, so_far.3, c.in_ok-push_if.ensures.counted, ap length line, on.grows so_far.0),
      );
      within = on.within;
      fewer = omega (
        arith,
        ap length on_from,
        length-drop c.taken-taken.result there,
        ap length from,
        length-drop c.gap.result now.rest.now,
        now.invariant.fewer,
      );
      same = c.in_ok-push_if.ensures.same ∙ now.invariant.same;
      no_failure = c.in_ok-push_if.ensures.no_failure ∙ now.invariant.no_failure;
    }
