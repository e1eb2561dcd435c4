use Rattle.std.proofs.Common.{◌≡◌, ◌∙◌, ap, arith, length, length-drop, refl, subst, sym, take}
use Rattle.std.specs.Prelude.{option_and_then, slice_get, true}
use Rattle.ly_listing.specs.Labels.{labelling}
use Rattle.ly_listing.specs.Private.Marks.{IsNotedIf, marked_tokens}
use Rattle.ly_listing.proofs.MarkLemmas.{counted_there, left_behind, marked_on, marked_over, marked_to, none_marked}
use Rattle.ly_listing.proofs.MarkLemmas.{same_marks}
use Rattle.ly_listing.proofs.TokenLemmas.{ends_on, ends_there}
use Rattle.ly_scan.proofs.PieceLemmas.{answered, end_at, lexeme_at}
use Rattle.ly_scan.specs.KnownWalks.{AreKnown}
use Rattle.ly_scan.specs.Lexers.{scanner_of}
use Rattle.ly_scan.specs.StateTable.{ahead_in}
use Rattle.ly_listing.proofs.run_end.walked_end.Goals as goal

pub loop-lexeme-init : goal.loop-lexeme-init
loop-lexeme-init c =
    let labels = c.args.labels.now in
    let left = c.new-marks.ensures.left in record {
      marked = none_marked labels (scanner_of c.args.lexer.now.scanner) c.args.text.now
          c.start-place.result c.new-marks.result.marks.items c.new-marks.result.left c.start-place.ensures
          c.new-marks.ensures.none left;
      behind = omega (arith, ap (λ p. length p.rest) c.start-place.ensures, left);
      known = c.new-known.ensures (ahead_in c.args.lexer.now.scanner) true c.start-place.result.rest;
    }

pub next-requires : goal.next-requires
next-requires c = record {
  known = c.mark_told-place.ensures.leads.1.known (ahead_in c.args.lexer.now.scanner) c.loop-lexeme.known
      c.loop-lexeme.invariant.known;
}

pub loop-lexeme-preserved : goal.loop-lexeme-preserved
loop-lexeme-preserved c =
    let labels = c.args.labels.now in
    let s = scanner_of c.args.lexer.now.scanner in
    let now = c.loop-lexeme in
    let told = c.mark_told-place in
    let here = c.next.new.place in
    let next = c.advance.new.self in
    let lexeme = c.in-Ok-Some.lexeme in
    let fast = answered true s here c.in-Ok-Some.field-0 lexeme c.in-Ok-Some.field-0-is c.in-Ok-Some.ensures.found in
    let token = take lexeme.taken here.rest in
    let old = told.new.marks in
    let new = c.note_if.new.self in
    let o = c.place-label.result in
    let left : length c.rest-rest.result.now ≡ length here.rest = ap length c.rest-rest.ensures in
    let noted = c.note_if.ensures.noted c.if-not-note_if.false in
    let by_label : option_and_then (slice_get labels.labels.items) o ≡ labelling labels lexeme.rule.0 token
    = sym c.place-label.ensures ∙ ap (λ xs. labelling labels lexeme.rule.0 (take lexeme.taken xs)) c.rest-rest.ensures
    in record {
      marked = marked_on labels s c.args.lexer.now.passed c.args.text.now told.result here next
          old.marks.items new.marks.items old.left new.left lexeme lexeme.taken c.begin.result o
          c.requires.passed (told.ensures.marked c.args.text.now now.invariant.marked) c.next.ensures.passed
          (omega (arith, told.ensures.behind, c.next.ensures.left)) (lexeme_at s here true lexeme fast) refl
          fast.within c.begin.ensures c.advance.ensures
          (subst (λ n. IsNotedIf old.marks.items old.left new.marks.items new.left n o lexeme.taken) left noted)
          by_label;
      behind = omega (
        arith,
        left_behind old.marks.items new.marks.items old.left new.left (length c.rest-rest.result.now) lexeme.taken o
            (omega (arith, left, told.ensures.behind, c.next.ensures.left)) noted,
        left,
        ap (λ p. length p.rest) c.advance.ensures,
        length-drop lexeme.taken here.rest,
      );
      known = subst (λ x. AreKnown (ahead_in c.args.lexer.now.scanner) true x.rest c.next.new.known)
          (sym c.advance.ensures) (c.next.ensures.known lexeme.taken fast.within);
    }

pub loop-lexeme-smaller : goal.loop-lexeme-smaller
loop-lexeme-smaller c =
    let s = scanner_of c.args.lexer.now.scanner in
    let here = c.next.new.place in
    let lexeme = c.in-Ok-Some.lexeme in
    let fast = answered true s here c.in-Ok-Some.field-0 lexeme c.in-Ok-Some.field-0-is c.in-Ok-Some.ensures.found in
    omega (
      arith,
      fast.some,
      fast.within,
      c.mark_told-place.ensures.leads.1.fewer,
      c.next.ensures.left,
      ap (λ p. length p.rest) c.advance.ensures,
      length-drop lexeme.taken here.rest,
    )

pub without_marks-requires-clause-countable : goal.without_marks-requires-clause-countable
without_marks-requires-clause-countable c =
    let labels = c.args.labels.now in
    let s = scanner_of c.args.lexer.now.scanner in
    let told = c.mark_told-place in
    let there = marked_over labels s c.args.lexer.now.passed c.args.text.now told.result
    c.next.new.place told.new.marks.marks.items told.new.marks.left c.requires.passed
    (told.ensures.marked c.args.text.now c.loop-lexeme.invariant.marked) c.next.ensures.passed in
    omega (
      arith,
      counted_there labels s c.args.text.now c.next.new.place
          (marked_tokens labels.labels.items (length c.args.text.now) told.new.marks.marks.items c.args.text.now) there.so_far,
    )

pub returns-then-not-note_if-clause-ends : goal.returns-then-not-note_if-clause-ends
returns-then-not-note_if-clause-ends c =
    let labels = c.args.labels.now in
    let s = scanner_of c.args.lexer.now.scanner in
    let told = c.mark_told-place in
    let there = marked_over labels s c.args.lexer.now.passed c.args.text.now told.result
    c.next.new.place told.new.marks.marks.items told.new.marks.left c.requires.passed
    (told.ensures.marked c.args.text.now c.loop-lexeme.invariant.marked) c.next.ensures.passed in
    ends_on labels s c.args.text.now
    (marked_tokens labels.labels.items (length c.args.text.now) told.new.marks.marks.items c.args.text.now) c.next.new.place
    c.without_marks.result.end c.without_marks.ensures.end there.so_far

pub returns-then-not-note_if-clause-marked : goal.returns-then-not-note_if-clause-marked
returns-then-not-note_if-clause-marked c =
    let labels = c.args.labels.now in
    let s = scanner_of c.args.lexer.now.scanner in
    let told = c.mark_told-place in
    let there = marked_over labels s c.args.lexer.now.passed c.args.text.now told.result
    c.next.new.place told.new.marks.marks.items told.new.marks.left c.requires.passed
    (told.ensures.marked c.args.text.now c.loop-lexeme.invariant.marked) c.next.ensures.passed in
    marked_to labels s c.args.text.now c.next.new.place c.without_marks.result.place
    told.new.marks.marks.items c.without_marks.result.marks.items told.new.marks.left c.without_marks.ensures.place
    (c.without_marks.ensures.marks ∙ c.note_if.ensures.same c.if-not-note_if.true) there

pub returns-in-Err-clause-ends : goal.returns-in-Err-clause-ends
returns-in-Err-clause-ends c =
    let labels = c.args.labels.now in
    let s = scanner_of c.args.lexer.now.scanner in
    let told = c.mark_told-place in
    let there = marked_over labels s c.args.lexer.now.passed c.args.text.now told.result
    c.next.new.place told.new.marks.marks.items told.new.marks.left c.requires.passed
    (told.ensures.marked c.args.text.now c.loop-lexeme.invariant.marked) c.next.ensures.passed in
    ends_there labels s c.args.text.now
    (marked_tokens labels.labels.items (length c.args.text.now) told.new.marks.marks.items c.args.text.now) c.next.new.place c.in-Err.end
    (end_at s c.next.new.place true c.in-Err.end c.in-Err.ensures.end) there.so_far

pub returns-in-Err-clause-marked : goal.returns-in-Err-clause-marked
returns-in-Err-clause-marked c =
    let labels = c.args.labels.now in
    let s = scanner_of c.args.lexer.now.scanner in
    let told = c.mark_told-place in
    marked_to labels s c.args.text.now c.next.new.place c.next.new.place
    told.new.marks.marks.items told.new.marks.marks.items told.new.marks.left refl refl
    (marked_over labels s c.args.lexer.now.passed c.args.text.now told.result
    c.next.new.place told.new.marks.marks.items told.new.marks.left c.requires.passed
    (told.ensures.marked c.args.text.now c.loop-lexeme.invariant.marked) c.next.ensures.passed)
