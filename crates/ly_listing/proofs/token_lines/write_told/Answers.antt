use Rattle.std.proofs.Common.{◌≡◌, ◌∙◌, ◌*◌, ◌++◌, [], Err, None, Ok, ap, append-nil, arith, drop, length}
use Rattle.std.proofs.Common.{length-drop, length-take-le, refl, sym, subst, take}
use Rattle.std.proofs.Math.Nat.{mul-le-mul_right}
use Rattle.std.specs.Prelude.{map, slice_index}
use Rattle.ly_base.specs.Lexed.{Place, moved, token_if}
use Rattle.ly_listing.specs.Labels.{fact_of, labelled_lines, labelling}
use Rattle.ly_listing.specs.Private.Room.{bytes_each}
use Rattle.ly_listing.specs.Private.SoFar.{StandsIn}
use Rattle.ly_listing.proofs.RoomLemmas.{line_left}
use Rattle.ly_listing.proofs.TokenLemmas.{leads_nowhere, leads_over, leads_told, none_set, stands_moved, stands_there}
use Rattle.ly_listing.proofs.TokenLemmas.{told_label}
use Rattle.ly_listing.proofs.WritingLemmas.{line_told, lines_twice}
use Rattle.ly_print.proofs.TextWriterLemmas.{err_is, same_bytes}
use Rattle.ly_print.specs.TextWriter.{IsUnderway}
use Rattle.ly_scan.specs.Lexers.{scanner_of}
use Rattle.ly_listing.proofs.token_lines.write_told.Goals as goal

pub loop-told-init : goal.loop-told-init
loop-told-init g c = record {
  so_far = (
    [],
    leads_nowhere c.args.labels.now (scanner_of c.args.lexer.now.scanner) c.args.start,
    λ before text underway. subst (IsUnderway before _ c.args.printer.now.lines) (sym (append-nil text)) underway,
  );
  counted = λ longest named. omega arith;
  stands = c.requires.stands;
  same = refl;
  no_failure = refl;
}

pub first_of-first-requires : goal.first_of-first-requires
first_of-first-requires g c =
    let is = c.in-Some.ensures.told (map fact_of c.args.labels.now.rules.items) c.requires.facts in
    omega (arith, is.stands.some, is.stands.within, ap length c.rest-rest.ensures)

pub new-token-requires : goal.new-token-requires
new-token-requires g c =
    let is = c.in-Some.ensures.told (map fact_of c.args.labels.now.rules.items) c.requires.facts in
    omega (arith, is.stands.within, is.taken, ap length c.rest-rest.ensures)

pub advance-requires : goal.advance-requires
advance-requires g c =
    let is = c.in-Some.ensures.told (map fact_of c.args.labels.now.rules.items) c.requires.facts in
    omega (arith, is.stands.within, is.taken)

pub push_if-requires-clause-within : goal.push_if-requires-clause-within
push_if-requires-clause-within g c =
    let form = g.F.LineForm.form in
    let l = c.args.labels.now in
    let s = scanner_of c.args.lexer.now.scanner in
    let text = c.args.printer.now.spot.text in
    let now = c.loop-told in
    let so_far = now.invariant.so_far in
    let here = c.tell.new.place in
    let told = c.in-Some.told in
    let is = c.in-Some.ensures.told (map fact_of l.rules.items) c.requires.facts in
    let rule = is.lexeme.rule.0 in
    let token = c.new-token.result in
    let by : token ≡ take told.taken here.rest = c.new-token.ensures ∙ ap (take told.taken) c.rest-rest.ensures in
    let over = leads_over l s c.args.lexer.now.passed c.args.start now.place here so_far.0 c.requires.passed so_far.1
    c.tell.ensures.passed c.tell.ensures.left in
    let stands = stands_there text l s c.args.start here so_far.0 over.so_far c.requires.stands in
    omega (
      arith,
      c.at.ensures,
      ap length by,
      length-take-le told.taken here.rest (omega (arith, is.stands.within, is.taken)),
      is.stands.within,
      is.taken,
      stands.whole,
      ap length now.invariant.same,
    )

pub push_if-requires-clause-countable : goal.push_if-requires-clause-countable
push_if-requires-clause-countable g c =
    let form = g.F.LineForm.form in
    let l = c.args.labels.now in
    let s = scanner_of c.args.lexer.now.scanner in
    let text = c.args.printer.now.spot.text in
    let now = c.loop-told in
    let so_far = now.invariant.so_far in
    let here = c.tell.new.place in
    let told = c.in-Some.told in
    let is = c.in-Some.ensures.told (map fact_of l.rules.items) c.requires.facts in
    let rule = is.lexeme.rule.0 in
    let token = c.new-token.result in
    let by : token ≡ take told.taken here.rest = c.new-token.ensures ∙ ap (take told.taken) c.rest-rest.ensures in
    let over = leads_over l s c.args.lexer.now.passed c.args.start now.place here so_far.0 c.requires.passed so_far.1
    c.tell.ensures.passed c.tell.ensures.left in
    let stands = stands_there text l s c.args.start here so_far.0 over.so_far c.requires.stands in
    let label = told_label l rule told.fact c.first_of-first.result told.taken here.rest token is.fact is.some by
    (omega (arith, is.stands.some, is.taken))
    (c.first_of-first.ensures ∙ ap (λ xs. slice_index xs 0) c.rest-rest.ensures) in
    let line = line_told form _ text _ (labelling l rule token) _ here.at token now.invariant.same
    (c.numbered-label.ensures ∙ label) c.at.ensures in
    let countable = c.requires.countable in
    omega (
      arith,
      now.invariant.counted countable.0 countable.1,
      line_left form text l countable.0 rule is.lexeme.taken here token countable.1 c.requires.few stands is.stands.some
          is.stands.within (by ∙ ap (λ n. take n here.rest) (sym is.taken)),
      ap length line,
      countable.2,
      mul-le-mul_right (bytes_each countable.0) c.tell.ensures.left,
    )

pub loop-told-preserved : goal.loop-told-preserved
loop-told-preserved g c =
    let form = g.F.LineForm.form in
    let l = c.args.labels.now in
    let s = scanner_of c.args.lexer.now.scanner in
    let text = c.args.printer.now.spot.text in
    let now = c.loop-told in
    let so_far = now.invariant.so_far in
    let here = c.tell.new.place in
    let told = c.in-Some.told in
    let is = c.in-Some.ensures.told (map fact_of l.rules.items) c.requires.facts in
    let rule = is.lexeme.rule.0 in
    let token = c.new-token.result in
    let by : token ≡ take told.taken here.rest = c.new-token.ensures ∙ ap (take told.taken) c.rest-rest.ensures in
    let over = leads_over l s c.args.lexer.now.passed c.args.start now.place here so_far.0 c.requires.passed so_far.1
    c.tell.ensures.passed c.tell.ensures.left in
    let stands = stands_there text l s c.args.start here so_far.0 over.so_far c.requires.stands in
    let label = told_label l rule told.fact c.first_of-first.result told.taken here.rest token is.fact is.some by
    (omega (arith, is.stands.some, is.taken))
    (c.first_of-first.ensures ∙ ap (λ xs. slice_index xs 0) c.rest-rest.ensures) in
    let line = line_told form _ text _ (labelling l rule token) _ here.at token now.invariant.same
    (c.numbered-label.ensures ∙ label) c.at.ensures in
    let at = c.advance.ensures in
    let one = token_if (labelling l rule token) here.at token in record {
      so_far = (
        so_far.0 ++ one,
        leads_told l s c.args.lexer.now.passed c.args.start now.place here c.advance.new.self is.lexeme told.taken
            token so_far.0 (so_far.0 ++ one) c.requires.passed so_far.1 c.tell.ensures.passed c.tell.ensures.left
            is.stands is.taken (none_set l rule told.fact is.fact is.some) at by refl,
        lines_twice form text l s c.args.printer.now.lines now.printer.lines c.push_if.new.printer.lines _ _ _ so_far.0
            one (Ok tt) so_far.2 (same_bytes now.printer.lines c.push_if.new.printer.lines _ _ _ _ (Ok tt) line
            c.in_ok-push_if.ensures.text),
      );
      counted = λ longest most. omega (
        arith,
        now.invariant.counted longest most,
        line_left form text l longest rule is.lexeme.taken here token most c.requires.few stands is.stands.some
            is.stands.within (by ∙ ap (λ n. take n here.rest) (sym is.taken)),
        ap length line,
        is.taken,
        ap (λ (p : Place). length p.rest * bytes_each longest) at,
        ap (λ n. length (drop n here.rest) * bytes_each longest) is.taken,
        c.in_ok-push_if.ensures.counted,
        mul-le-mul_right (bytes_each longest) c.tell.ensures.left,
      );
      stands = subst (StandsIn text) (sym at)
          (stands_moved text here told.taken None (omega (arith, is.stands.within, is.taken)) stands);
      same = c.in_ok-push_if.ensures.same ∙ now.invariant.same;
      no_failure = c.in_ok-push_if.ensures.no_failure ∙ now.invariant.no_failure;
    }

pub loop-told-smaller : goal.loop-told-smaller
loop-told-smaller g c =
    let here = c.tell.new.place in
    let is = c.in-Some.ensures.told (map fact_of c.args.labels.now.rules.items) c.requires.facts in
    omega (
      arith,
      is.stands.some,
      is.stands.within,
      is.taken,
      c.tell.ensures.left,
      ap (λ p. length p.rest) c.advance.ensures,
      length-drop c.in-Some.told.taken here.rest,
    )

pub returns-in_err-push_if-clause-cut_short : goal.returns-in_err-push_if-clause-cut_short
returns-in_err-push_if-clause-cut_short g c =
    let form = g.F.LineForm.form in
    let l = c.args.labels.now in
    let s = scanner_of c.args.lexer.now.scanner in
    let text = c.args.printer.now.spot.text in
    let now = c.loop-told in
    let so_far = now.invariant.so_far in
    let here = c.tell.new.place in
    let told = c.in-Some.told in
    let is = c.in-Some.ensures.told (map fact_of l.rules.items) c.requires.facts in
    let rule = is.lexeme.rule.0 in
    let token = c.new-token.result in
    let by : token ≡ take told.taken here.rest = c.new-token.ensures ∙ ap (take told.taken) c.rest-rest.ensures in
    let over = leads_over l s c.args.lexer.now.passed c.args.start now.place here so_far.0 c.requires.passed so_far.1
    c.tell.ensures.passed c.tell.ensures.left in
    let stands = stands_there text l s c.args.start here so_far.0 over.so_far c.requires.stands in
    let label = told_label l rule told.fact c.first_of-first.result told.taken here.rest token is.fact is.some by
    (omega (arith, is.stands.some, is.taken))
    (c.first_of-first.ensures ∙ ap (λ xs. slice_index xs 0) c.rest-rest.ensures) in
    let line = line_told form _ text _ (labelling l rule token) _ here.at token now.invariant.same
    (c.numbered-label.ensures ∙ label) c.at.ensures in
    let one = token_if (labelling l rule token) here.at token in
    let on = leads_told l s c.args.lexer.now.passed c.args.start now.place here (moved here told.taken None)
    is.lexeme told.taken token so_far.0 (so_far.0 ++ one) c.requires.passed so_far.1 c.tell.ensures.passed
    c.tell.ensures.left is.stands is.taken (none_set l rule told.fact is.fact is.some) refl by refl in
    let fault = c.in_err-push_if.field-0.0 in
    err_is c.from_residual.result fault _ c.from_residual.ensures.1 (
      moved here told.taken None,
      (
        so_far.0 ++ one,
        on.so_far,
        lines_twice form text l s c.args.printer.now.lines now.printer.lines c.push_if.new.printer.lines _ _ _ so_far.0
            one (Err fault) so_far.2 (same_bytes now.printer.lines c.push_if.new.printer.lines _ _ _ _ (Err fault) line
            c.in_err-push_if.ensures.text),
      ),
    )

pub returns-in_default-clause-told : goal.returns-in_default-clause-told
returns-in_default-clause-told g c =
    let so_far = c.loop-told.invariant.so_far in (
      so_far.0,
      leads_over c.args.labels.now (scanner_of c.args.lexer.now.scanner) c.args.lexer.now.passed
          c.args.start c.loop-told.place c.tell.new.place so_far.0 c.requires.passed so_far.1 c.tell.ensures.passed
          c.tell.ensures.left,
      so_far.2,
    )

pub returns-in_default-clause-counted : goal.returns-in_default-clause-counted
returns-in_default-clause-counted g c = λ longest most. omega (
  arith,
  c.loop-told.invariant.counted longest most,
  mul-le-mul_right (bytes_each longest) c.tell.ensures.left,
)
