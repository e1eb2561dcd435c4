use Rattle.std.proofs.Common.{◌≡◌, ◌∙◌, ◌<◌, ◌*◌, ◌++◌, [], ℕ, List, Err, Ok, ap, arith, length, length-drop, refl, subst}
use Rattle.std.proofs.Common.{length-take-le, sym, take}
use Rattle.std.proofs.Math.Nat.{mul-le-mul_right}
use Rattle.std.specs.Prelude.{true}
use Rattle.ly_base.specs.Lexed.{Place, Token, moved, start_of, token_if}
use Rattle.ly_listing.specs.Labels.{begin_by, labelled_lines, labelling}
use Rattle.ly_listing.specs.Listings.{end_line}
use Rattle.ly_listing.specs.Private.Marks.{AreWithin, marked_tokens}
use Rattle.ly_base.specs.declared.lexeme.End.TheVariants.{Stuck}
use Rattle.ly_listing.specs.Private.Room.{bytes_each}
use Rattle.ly_listing.specs.Private.SoFar.{StandsIn}
use Rattle.ly_listing.proofs.RoomLemmas.{few_bytes, line_left, lines_left}
use Rattle.ly_listing.proofs.TokenLemmas.{one_more, passes_tokens, so_far_on, stands_at_start, stands_there, stuck_known}
use Rattle.ly_listing.proofs.WritingLemmas.{all_known, end_fits, fails_at, line_told, lines_twice, on_its_way}
use Rattle.ly_print.proofs.TextWriterLemmas.{appended_twice, cut_from, err_is, same_bytes, underway_from}
use Rattle.ly_print.specs.TextWriter.{IsAppended, Outgoing, bytes_of}
use Rattle.ly_scan.proofs.PieceLemmas.{answered, end_at, lexeme_at}
use Rattle.ly_scan.specs.KnownWalks.{AreKnown}
use Rattle.ly_scan.specs.Lexers.{scanner_of}
use Rattle.ly_scan.specs.StateTable.{ahead_in}
use Rattle.ly_listing.proofs.token_lines.write_token_lines.Goals as goal

pub new-printer-requires : goal.new-printer-requires
new-printer-requires g c = few_bytes (length c.args.listing.now.text.now) c.requires.countable.0 c.requires.countable.2

pub write_marked-requires : goal.write_marked-requires
write_marked-requires g c =
    let form = g.F.LineForm.form in
    let text = c.args.listing.now.text.now in
    let l = c.args.listing.now.labels.now in
    let s = scanner_of c.args.listing.now.lexer.now.scanner in
    let start = stands_at_start text (start_of text) refl c.requires.bytes in
    let few = few_bytes (length text) c.requires.countable.0 c.requires.countable.2 in
    let marked = c.requires.marked in
    let tokens = marked_tokens l.labels.items (length text) c.args.walked.marks.items text in
    let is = c.deref.ensures.value in record {
      text = c.new-printer.ensures.text;
      within = subst (λ ms. AreWithin ms text) (sym is) marked.within;
      countable = omega (
        arith,
        ap bytes_of (c.new-printer.ensures.lines ∙ c.requires.none),
        ap (λ ms. length (labelled_lines form text (marked_tokens l.labels.items (length text) ms text))) is,
        lines_left form text l c.requires.countable.0 s (start_of text) c.args.walked.place tokens
            c.requires.countable.1 few start marked.so_far,
        c.requires.countable.2,
      );
    }

pub returns-in_err-write_marked-clause-cut_short : goal.returns-in_err-write_marked-clause-cut_short
returns-in_err-write_marked-clause-cut_short g c =
    let form = g.F.LineForm.form in
    let text = c.args.listing.now.text.now in
    let l = c.args.listing.now.labels.now in
    let s = scanner_of c.args.listing.now.lexer.now.scanner in
    let marked = c.requires.marked in
    let fault = c.in_err-write_marked.field-0.0 in
    let lines = labelled_lines form text in
    let tokens = marked_tokens l.labels.items (length text) c.args.walked.marks.items text in
    err_is c.from_residual.result fault _ c.from_residual.ensures.1 (fails_at form text l s c.args.walked.place tokens
    c.args.walked.end c.args.empty c.write_marked.new.printer.lines _ _ fault c.requires.ends c.requires.none
    marked.so_far
    (subst (λ (o : Outgoing). IsAppended o c.write_marked.new.printer.lines (g.W.Sink.contents c.args.writer.now)
    (g.W.Sink.contents c.write_marked.new.writer) (lines tokens) (Err fault)) c.new-printer.ensures.lines
    (subst (λ ms. IsAppended c.new-printer.result.lines c.write_marked.new.printer.lines
    (g.W.Sink.contents c.args.writer.now) (g.W.Sink.contents c.write_marked.new.writer)
    (lines (marked_tokens l.labels.items (length text) ms text)) (Err fault)) c.deref.ensures.value
    c.in_err-write_marked.ensures.told)))

pub loop-known-init : goal.loop-known-init
loop-known-init g c =
    let form = g.F.LineForm.form in
    let text = c.args.listing.now.text.now in
    let l = c.args.listing.now.labels.now in
    let s = scanner_of c.args.listing.now.lexer.now.scanner in
    let start = stands_at_start text (start_of text) refl c.requires.bytes in
    let few = few_bytes (length text) c.requires.countable.0 c.requires.countable.2 in
    let marked = c.requires.marked in
    let lines = labelled_lines form text in
    let tokens = marked_tokens l.labels.items (length text) c.args.walked.marks.items text in
    let is = c.deref.ensures.value in record {
      so_far = (
        tokens,
        marked.so_far,
        subst (λ (o : Outgoing). IsAppended o c.write_marked.new.printer.lines (g.W.Sink.contents c.args.writer.now)
            (g.W.Sink.contents c.write_marked.new.writer) (lines tokens) (Ok tt)) c.new-printer.ensures.lines
            (subst (λ ms. IsAppended c.new-printer.result.lines c.write_marked.new.printer.lines
            (g.W.Sink.contents c.args.writer.now) (g.W.Sink.contents c.write_marked.new.writer)
            (lines (marked_tokens l.labels.items (length text) ms text)) (Ok tt)) is
            c.in_ok-write_marked.ensures.told),
      );
      counted = λ longest most. omega (
        arith,
        ap bytes_of (c.new-printer.ensures.lines ∙ c.requires.none),
        c.in_ok-write_marked.ensures.counted,
        ap (λ ms. length (lines (marked_tokens l.labels.items (length text) ms text))) is,
        lines_left form text l longest s (start_of text) c.args.walked.place tokens most few start marked.so_far,
      );
      same = c.in_ok-write_marked.ensures.text;
      no_failure = c.in_ok-write_marked.ensures.no_failure;
      known = c.new-known.ensures (ahead_in c.args.listing.now.lexer.now.scanner) true c.args.walked.place.rest;
    }

pub write_told-requires : goal.write_told-requires
write_told-requires g c =
    let form = g.F.LineForm.form in
    let text = c.args.listing.now.text.now in
    let l = c.args.listing.now.labels.now in
    let s = scanner_of c.args.listing.now.lexer.now.scanner in
    let start = stands_at_start text (start_of text) refl c.requires.bytes in
    let few = few_bytes (length text) c.requires.countable.0 c.requires.countable.2 in
    let now = c.loop-known in
    let countable = c.requires.countable in record {
      passed = c.requires.passed;
      facts = c.requires.facts;
      few = omega (arith, few, ap length now.invariant.same);
      stands = subst (λ t. StandsIn t now.place) (sym now.invariant.same) (stands_there text l s (start_of text)
          now.place now.invariant.so_far.0 now.invariant.so_far.1 start);
      countable = (
        countable.0,
        countable.1,
        omega (arith, now.invariant.counted countable.0 countable.1, countable.2),
      );
    }

pub returns-in_err-here-clause-cut_short : goal.returns-in_err-here-clause-cut_short
returns-in_err-here-clause-cut_short g c =
    let form = g.F.LineForm.form in
    let text = c.args.listing.now.text.now in
    let l = c.args.listing.now.labels.now in
    let s = scanner_of c.args.listing.now.lexer.now.scanner in
    let now = c.loop-known in
    let so_far = now.invariant.so_far in
    let cut = c.in_err-here.ensures.cut_short in
    let fault = c.in_err-here.field-0.0 in
    err_is c.from_residual-in_err-here.result fault _ c.from_residual-in_err-here.ensures.1 (fails_at form text l s
    cut.0 (so_far.0 ++ cut.1.0) c.args.walked.end c.args.empty c.write_told.new.printer.lines _ _ fault
    c.requires.ends c.requires.none
    (so_far_on l s (start_of text) now.place cut.0 so_far.0 cut.1.0 so_far.1 cut.1.1)
    (lines_twice form text l s c.args.empty now.printer.lines c.write_told.new.printer.lines _ _ _ so_far.0 cut.1.0
    (Err fault) so_far.2 (same_bytes now.printer.lines c.write_told.new.printer.lines _ _ _ _ (Err fault)
    (ap (λ t. labelled_lines form t cut.1.0) now.invariant.same) cut.1.2)))

pub next-requires : goal.next-requires
next-requires g c = record {
  known = c.in_ok-here.ensures.told.1.known (ahead_in c.args.listing.now.lexer.now.scanner) c.loop-known.known
      c.loop-known.invariant.known;
}

pub push_token-requires : goal.push_token-requires
push_token-requires g c =
    let form = g.F.LineForm.form in
    let text = c.args.listing.now.text.now in
    let l = c.args.listing.now.labels.now in
    let s = scanner_of c.args.listing.now.lexer.now.scanner in
    let start = stands_at_start text (start_of text) refl c.requires.bytes in
    let few = few_bytes (length text) c.requires.countable.0 c.requires.countable.2 in
    let now = c.loop-known in
    let there = c.in_ok-here.here in
    let same = now.invariant.same in
    let line_same = λ (told : List (Token (List ℕ))). ap (λ t. labelled_lines form t told) same in
    let here = c.next.new.place in
    let so_far = on_its_way form text l s (start_of text) now.place there c.args.empty now.printer.lines
    c.write_told.new.printer.lines _ _ _ now.invariant.so_far (
      c.in_ok-here.ensures.told.0,
      c.in_ok-here.ensures.told.1,
      same_bytes now.printer.lines c.write_told.new.printer.lines _ _ _ _ (Ok tt)
          (line_same c.in_ok-here.ensures.told.0) c.in_ok-here.ensures.told.2,
    ) in
    let led = passes_tokens l s c.args.listing.now.lexer.now.passed (start_of text) there so_far.0 c.requires.passed
    so_far.1 c.next.ensures.passed in
    let lexeme = c.in-Ok-Some.lexeme in
    let fast = answered true s here c.in-Ok-Some.field-0 lexeme c.in-Ok-Some.field-0-is c.in-Ok-Some.ensures.found in
    let token = c.new-token.result in
    let by = c.new-token.ensures ∙ ap (take lexeme.taken) c.rest.ensures in
    let one = token_if (labelling l lexeme.rule.0 token) here.at token in
    let stands = stands_there text l s (start_of text) here so_far.0 led start in
    let countable = c.requires.countable in
    let line = line_told form _ text _ (labelling l lexeme.rule.0 token) _ here.at token
    (c.in_ok-here.ensures.same ∙ same) refl c.at-at.ensures in record {
      some = omega (arith, ap length by, length-take-le lexeme.taken here.rest fast.within, fast.some);
      within = omega (
        arith,
        c.at-at.ensures,
        ap length by,
        length-take-le lexeme.taken here.rest fast.within,
        fast.within,
        stands.whole,
        ap length (c.in_ok-here.ensures.same ∙ same),
      );
      countable = omega (
        arith,
        now.invariant.counted countable.0 countable.1,
        c.in_ok-here.ensures.counted countable.0 countable.1,
        line_left form text l countable.0 lexeme.rule.0 lexeme.taken here token countable.1 few stands fast.some
            fast.within by,
        ap length line,
        countable.2,
        mul-le-mul_right (bytes_each countable.0) c.next.ensures.left,
      );
    }

pub returns-in_err-push_token-in-Ok-Some-clause-cut_short : goal.returns-in_err-push_token-in-Ok-Some-clause-cut_short
returns-in_err-push_token-in-Ok-Some-clause-cut_short g c =
    let form = g.F.LineForm.form in
    let text = c.args.listing.now.text.now in
    let l = c.args.listing.now.labels.now in
    let s = scanner_of c.args.listing.now.lexer.now.scanner in
    let now = c.loop-known in
    let there = c.in_ok-here.here in
    let same = now.invariant.same in
    let line_same = λ (told : List (Token (List ℕ))). ap (λ t. labelled_lines form t told) same in
    let here = c.next.new.place in
    let so_far = on_its_way form text l s (start_of text) now.place there c.args.empty now.printer.lines
    c.write_told.new.printer.lines _ _ _ now.invariant.so_far (
      c.in_ok-here.ensures.told.0,
      c.in_ok-here.ensures.told.1,
      same_bytes now.printer.lines c.write_told.new.printer.lines _ _ _ _ (Ok tt)
          (line_same c.in_ok-here.ensures.told.0) c.in_ok-here.ensures.told.2,
    ) in
    let led = passes_tokens l s c.args.listing.now.lexer.now.passed (start_of text) there so_far.0 c.requires.passed
    so_far.1 c.next.ensures.passed in
    let lexeme = c.in-Ok-Some.lexeme in
    let fast = answered true s here c.in-Ok-Some.field-0 lexeme c.in-Ok-Some.field-0-is c.in-Ok-Some.ensures.found in
    let token = c.new-token.result in
    let by = c.new-token.ensures ∙ ap (take lexeme.taken) c.rest.ensures in
    let one = token_if (labelling l lexeme.rule.0 token) here.at token in
    let line = line_told form _ text _ (labelling l lexeme.rule.0 token) _ here.at token
    (c.in_ok-here.ensures.same ∙ same) refl c.at-at.ensures in
    let begin = begin_by l lexeme.rule.0 in
    let fault = c.in_err-push_token-in-Ok-Some.field-0.0 in
    err_is c.from_residual-in_err-push_token-in-Ok-Some.result fault _
    c.from_residual-in_err-push_token-in-Ok-Some.ensures.1 (fails_at form text l s (moved here lexeme.taken begin)
    (so_far.0 ++ one) c.args.walked.end c.args.empty c.push_token.new.printer.lines _ _ fault
    c.requires.ends c.requires.none
    (one_more l s (start_of text) here (moved here lexeme.taken begin) lexeme begin token so_far.0
    (so_far.0 ++ one) (lexeme_at s here true lexeme fast) refl refl by refl led)
    (lines_twice form text l s c.args.empty c.write_told.new.printer.lines c.push_token.new.printer.lines _ _ _
    so_far.0 one (Err fault) so_far.2 (same_bytes c.write_told.new.printer.lines c.push_token.new.printer.lines _ _ _ _
    (Err fault) line c.in_err-push_token-in-Ok-Some.ensures.text)))

pub loop-known-preserved : goal.loop-known-preserved
loop-known-preserved g c =
    let form = g.F.LineForm.form in
    let text = c.args.listing.now.text.now in
    let l = c.args.listing.now.labels.now in
    let s = scanner_of c.args.listing.now.lexer.now.scanner in
    let start = stands_at_start text (start_of text) refl c.requires.bytes in
    let few = few_bytes (length text) c.requires.countable.0 c.requires.countable.2 in
    let now = c.loop-known in
    let there = c.in_ok-here.here in
    let same = now.invariant.same in
    let line_same = λ (told : List (Token (List ℕ))). ap (λ t. labelled_lines form t told) same in
    let here = c.next.new.place in
    let so_far = on_its_way form text l s (start_of text) now.place there c.args.empty now.printer.lines
    c.write_told.new.printer.lines _ _ _ now.invariant.so_far (
      c.in_ok-here.ensures.told.0,
      c.in_ok-here.ensures.told.1,
      same_bytes now.printer.lines c.write_told.new.printer.lines _ _ _ _ (Ok tt)
          (line_same c.in_ok-here.ensures.told.0) c.in_ok-here.ensures.told.2,
    ) in
    let led = passes_tokens l s c.args.listing.now.lexer.now.passed (start_of text) there so_far.0 c.requires.passed
    so_far.1 c.next.ensures.passed in
    let lexeme = c.in-Ok-Some.lexeme in
    let fast = answered true s here c.in-Ok-Some.field-0 lexeme c.in-Ok-Some.field-0-is c.in-Ok-Some.ensures.found in
    let token = c.new-token.result in
    let by = c.new-token.ensures ∙ ap (take lexeme.taken) c.rest.ensures in
    let one = token_if (labelling l lexeme.rule.0 token) here.at token in
    let stands = stands_there text l s (start_of text) here so_far.0 led start in
    let line = line_told form _ text _ (labelling l lexeme.rule.0 token) _ here.at token
    (c.in_ok-here.ensures.same ∙ same) refl c.at-at.ensures in
    let at = c.advance.ensures in record {
      so_far = (
        so_far.0 ++ one,
        one_more l s (start_of text) here c.advance.new.self lexeme c.begin.result token
            so_far.0 (so_far.0 ++ one) (lexeme_at s here true lexeme fast) c.begin.ensures at by refl led,
        lines_twice form text l s c.args.empty c.write_told.new.printer.lines c.push_token.new.printer.lines _ _ _
            so_far.0 one (Ok tt) so_far.2 (same_bytes c.write_told.new.printer.lines c.push_token.new.printer.lines
            _ _ _ _ (Ok tt) line c.in_ok-push_token-in-Ok-Some.ensures.text),
      );
      counted = λ longest most. omega (
        arith,
        now.invariant.counted longest most,
        c.in_ok-here.ensures.counted longest most,
        line_left form text l longest lexeme.rule.0 lexeme.taken here token most few stands fast.some fast.within by,
        ap length line,
        ap (λ (p : Place). length p.rest * bytes_each longest) at,
        c.in_ok-push_token-in-Ok-Some.ensures.counted,
        mul-le-mul_right (bytes_each longest) c.next.ensures.left,
      );
      same = c.in_ok-push_token-in-Ok-Some.ensures.same ∙ c.in_ok-here.ensures.same ∙ same;
      no_failure = c.in_ok-push_token-in-Ok-Some.ensures.no_failure ∙ c.in_ok-here.ensures.no_failure
          ∙ now.invariant.no_failure;
      known = subst (λ (x : Place). AreKnown (ahead_in c.args.listing.now.lexer.now.scanner) true x.rest
          c.next.new.known) (sym at) (c.next.ensures.known lexeme.taken fast.within);
    }

pub loop-known-smaller : goal.loop-known-smaller
loop-known-smaller g c =
    let here = c.next.new.place in
    let lexeme = c.in-Ok-Some.lexeme in
    let s = scanner_of c.args.listing.now.lexer.now.scanner in
    let fast = answered true s here c.in-Ok-Some.field-0 lexeme c.in-Ok-Some.field-0-is c.in-Ok-Some.ensures.found in
    omega (
      arith,
      fast.some,
      fast.within,
      c.in_ok-here.ensures.told.1.fewer,
      c.next.ensures.left,
      ap (λ p. length p.rest) c.advance.ensures,
      length-drop lexeme.taken here.rest,
    )

pub push_end-requires : goal.push_end-requires
push_end-requires g c =
    let form = g.F.LineForm.form in
    let text = c.args.listing.now.text.now in
    let l = c.args.listing.now.labels.now in
    let s = scanner_of c.args.listing.now.lexer.now.scanner in
    let start = stands_at_start text (start_of text) refl c.requires.bytes in
    let few = few_bytes (length text) c.requires.countable.0 c.requires.countable.2 in
    let now = c.loop-known in
    let there = c.in_ok-here.here in
    let same = now.invariant.same in
    let line_same = λ (told : List (Token (List ℕ))). ap (λ t. labelled_lines form t told) same in
    let here = c.next.new.place in
    let so_far = on_its_way form text l s (start_of text) now.place there c.args.empty now.printer.lines
    c.write_told.new.printer.lines _ _ _ now.invariant.so_far (
      c.in_ok-here.ensures.told.0,
      c.in_ok-here.ensures.told.1,
      same_bytes now.printer.lines c.write_told.new.printer.lines _ _ _ _ (Ok tt)
          (line_same c.in_ok-here.ensures.told.0) c.in_ok-here.ensures.told.2,
    ) in
    let led = passes_tokens l s c.args.listing.now.lexer.now.passed (start_of text) there so_far.0 c.requires.passed
    so_far.1 c.next.ensures.passed in
    let countable = c.requires.countable in
    let stands = stands_there text l s (start_of text) here so_far.0 led start in
    let text_same = c.in_ok-here.ensures.same ∙ same in
    let at_end = λ (byte : ℕ) (is : c.args.walked.end ≡ Stuck byte). stuck_known l s text here c.in-Err.field-0
    c.args.walked.end so_far.0 byte (end_at s here true c.in-Err.field-0 c.in-Err.ensures.end) c.requires.ends led
    stands is in record {
      within = λ byte is. omega (arith, at_end byte is, ap length text_same);
      countable = omega (
        arith,
        now.invariant.counted countable.0 countable.1,
        c.in_ok-here.ensures.counted countable.0 countable.1,
        countable.2,
        ap (λ t. length (end_line form t c.args.walked.end)) text_same,
        end_fits form text c.args.walked.end at_end few,
      );
    }

pub returns-in_err-push_end-in-Err-clause-cut_short : goal.returns-in_err-push_end-in-Err-clause-cut_short
returns-in_err-push_end-in-Err-clause-cut_short g c =
    let form = g.F.LineForm.form in
    let text = c.args.listing.now.text.now in
    let l = c.args.listing.now.labels.now in
    let s = scanner_of c.args.listing.now.lexer.now.scanner in
    let now = c.loop-known in
    let there = c.in_ok-here.here in
    let same = now.invariant.same in
    let line_same = λ (told : List (Token (List ℕ))). ap (λ t. labelled_lines form t told) same in
    let here = c.next.new.place in
    let so_far = on_its_way form text l s (start_of text) now.place there c.args.empty now.printer.lines
    c.write_told.new.printer.lines _ _ _ now.invariant.so_far (
      c.in_ok-here.ensures.told.0,
      c.in_ok-here.ensures.told.1,
      same_bytes now.printer.lines c.write_told.new.printer.lines _ _ _ _ (Ok tt)
          (line_same c.in_ok-here.ensures.told.0) c.in_ok-here.ensures.told.2,
    ) in
    let led = passes_tokens l s c.args.listing.now.lexer.now.passed (start_of text) there so_far.0 c.requires.passed
    so_far.1 c.next.ensures.passed in
    let last = end_line form text c.args.walked.end in
    let lines = labelled_lines form text so_far.0 ++ last in
    let fault = c.in_err-push_end-in-Err.field-0.0 in
    err_is c.from_residual-in_err-push_end-in-Err.result fault _ c.from_residual-in_err-push_end-in-Err.ensures.1 (
      lines,
      all_known form text l s here c.in-Err.field-0 c.args.walked.end so_far.0 lines c.requires.ends
          (end_at s here true c.in-Err.field-0 c.in-Err.ensures.end) refl led,
      cut_from c.args.empty c.push_end.new.printer.lines _ _ lines c.requires.none fault
          (appended_twice c.args.empty c.write_told.new.printer.lines c.push_end.new.printer.lines _ _ _
          (labelled_lines form text so_far.0) last tt (Err fault) so_far.2
          (same_bytes c.write_told.new.printer.lines c.push_end.new.printer.lines _ _ _ _ (Err fault)
          (ap (λ t. end_line form t c.args.walked.end) (c.in_ok-here.ensures.same ∙ same))
          c.in_err-push_end-in-Err.ensures.text)),
    )

pub finish-requires : goal.finish-requires
finish-requires g c =
    let form = g.F.LineForm.form in
    let text = c.args.listing.now.text.now in
    let l = c.args.listing.now.labels.now in
    let s = scanner_of c.args.listing.now.lexer.now.scanner in
    let start = stands_at_start text (start_of text) refl c.requires.bytes in
    let few = few_bytes (length text) c.requires.countable.0 c.requires.countable.2 in
    let now = c.loop-known in
    let there = c.in_ok-here.here in
    let same = now.invariant.same in
    let line_same = λ (told : List (Token (List ℕ))). ap (λ t. labelled_lines form t told) same in
    let here = c.next.new.place in
    let so_far = on_its_way form text l s (start_of text) now.place there c.args.empty now.printer.lines
    c.write_told.new.printer.lines _ _ _ now.invariant.so_far (
      c.in_ok-here.ensures.told.0,
      c.in_ok-here.ensures.told.1,
      same_bytes now.printer.lines c.write_told.new.printer.lines _ _ _ _ (Ok tt)
          (line_same c.in_ok-here.ensures.told.0) c.in_ok-here.ensures.told.2,
    ) in
    let led = passes_tokens l s c.args.listing.now.lexer.now.passed (start_of text) there so_far.0 c.requires.passed
    so_far.1 c.next.ensures.passed in
    let countable = c.requires.countable in
    let stands = stands_there text l s (start_of text) here so_far.0 led start in
    let text_same = c.in_ok-here.ensures.same ∙ same in
    let at_end = λ (byte : ℕ) (is : c.args.walked.end ≡ Stuck byte). stuck_known l s text here c.in-Err.field-0
    c.args.walked.end so_far.0 byte (end_at s here true c.in-Err.field-0 c.in-Err.ensures.end) c.requires.ends led
    stands is in record {
      countable = omega (
        arith,
        now.invariant.counted countable.0 countable.1,
        c.in_ok-here.ensures.counted countable.0 countable.1,
        countable.2,
        c.in_ok-push_end-in-Err.ensures.counted,
        ap (λ t. length (end_line form t c.args.walked.end)) text_same,
        end_fits form text c.args.walked.end at_end few,
      );
    }

pub returns-in_err-finish-in-Err-clause-cut_short : goal.returns-in_err-finish-in-Err-clause-cut_short
returns-in_err-finish-in-Err-clause-cut_short g c =
    let form = g.F.LineForm.form in
    let text = c.args.listing.now.text.now in
    let l = c.args.listing.now.labels.now in
    let s = scanner_of c.args.listing.now.lexer.now.scanner in
    let now = c.loop-known in
    let there = c.in_ok-here.here in
    let same = now.invariant.same in
    let line_same = λ (told : List (Token (List ℕ))). ap (λ t. labelled_lines form t told) same in
    let here = c.next.new.place in
    let so_far = on_its_way form text l s (start_of text) now.place there c.args.empty now.printer.lines
    c.write_told.new.printer.lines _ _ _ now.invariant.so_far (
      c.in_ok-here.ensures.told.0,
      c.in_ok-here.ensures.told.1,
      same_bytes now.printer.lines c.write_told.new.printer.lines _ _ _ _ (Ok tt)
          (line_same c.in_ok-here.ensures.told.0) c.in_ok-here.ensures.told.2,
    ) in
    let led = passes_tokens l s c.args.listing.now.lexer.now.passed (start_of text) there so_far.0 c.requires.passed
    so_far.1 c.next.ensures.passed in
    let last = end_line form text c.args.walked.end in
    let lines = labelled_lines form text so_far.0 ++ last in
    let fault = c.in_err-finish-in-Err.field-0.0 in
    err_is c.from_residual-in_err-finish-in-Err.result fault _ c.from_residual-in_err-finish-in-Err.ensures.1 (
      lines,
      all_known form text l s here c.in-Err.field-0 c.args.walked.end so_far.0 lines c.requires.ends
          (end_at s here true c.in-Err.field-0 c.in-Err.ensures.end) refl led,
      c.in_err-finish-in-Err.ensures.text _ lines (underway_from c.args.empty c.push_end.new.printer.lines _ _ lines
          c.requires.none (appended_twice c.args.empty c.write_told.new.printer.lines c.push_end.new.printer.lines _ _ _
          (labelled_lines form text so_far.0) last tt (Ok tt) so_far.2
          (same_bytes c.write_told.new.printer.lines c.push_end.new.printer.lines _ _ _ _ (Ok tt)
          (ap (λ t. end_line form t c.args.walked.end) (c.in_ok-here.ensures.same ∙ same))
          c.in_ok-push_end-in-Err.ensures.text))),
    )

pub returns-in-Err-clause-told : goal.returns-in-Err-clause-told
returns-in-Err-clause-told g c =
    let form = g.F.LineForm.form in
    let text = c.args.listing.now.text.now in
    let l = c.args.listing.now.labels.now in
    let s = scanner_of c.args.listing.now.lexer.now.scanner in
    let now = c.loop-known in
    let there = c.in_ok-here.here in
    let same = now.invariant.same in
    let line_same = λ (told : List (Token (List ℕ))). ap (λ t. labelled_lines form t told) same in
    let here = c.next.new.place in
    let so_far = on_its_way form text l s (start_of text) now.place there c.args.empty now.printer.lines
    c.write_told.new.printer.lines _ _ _ now.invariant.so_far (
      c.in_ok-here.ensures.told.0,
      c.in_ok-here.ensures.told.1,
      same_bytes now.printer.lines c.write_told.new.printer.lines _ _ _ _ (Ok tt)
          (line_same c.in_ok-here.ensures.told.0) c.in_ok-here.ensures.told.2,
    ) in
    let led = passes_tokens l s c.args.listing.now.lexer.now.passed (start_of text) there so_far.0 c.requires.passed
    so_far.1 c.next.ensures.passed in
    let last = end_line form text c.args.walked.end in
    let lines = labelled_lines form text so_far.0 ++ last in (
      lines,
      all_known form text l s here c.in-Err.field-0 c.args.walked.end so_far.0 lines c.requires.ends
          (end_at s here true c.in-Err.field-0 c.in-Err.ensures.end) refl led,
      c.in_ok-finish-in-Err.ensures.text _ lines (underway_from c.args.empty c.push_end.new.printer.lines _ _ lines
          c.requires.none (appended_twice c.args.empty c.write_told.new.printer.lines c.push_end.new.printer.lines _ _ _
          (labelled_lines form text so_far.0) last tt (Ok tt) so_far.2
          (same_bytes c.write_told.new.printer.lines c.push_end.new.printer.lines _ _ _ _ (Ok tt)
          (ap (λ t. end_line form t c.args.walked.end) (c.in_ok-here.ensures.same ∙ same))
          c.in_ok-push_end-in-Err.ensures.text))),
    )
