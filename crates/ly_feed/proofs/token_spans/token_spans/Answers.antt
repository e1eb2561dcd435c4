use Rattle.std.proofs.Common.{[], ◌∷◌, ◌∙◌, ◌++◌, ap, subst, sym, take}
use Rattle.std.specs.Prelude.{true}
use Rattle.ly_base.specs.Lexed.{moved, place_after, start_of}
use Rattle.ly_feed.proofs.OnwardLemmas.{stands_here}
use Rattle.ly_feed.proofs.RunLemmas.{fast_there}
use Rattle.ly_feed.specs.ScanPart.{condition_in, scan_part_of, scanner_in, terminal_in}
use Rattle.ly_feed.proofs.SpanListLemmas.{all_listed, always_decided, listed_behind, listed_over}
use Rattle.ly_feed.proofs.SpanListLemmas.{listed_with, none_listed, none_terminal, some_terminal}
use Rattle.ly_feed.specs.Private.TokenSpans.{AreListed}
use Rattle.ly_feed.proofs.token_spans.token_spans.Goals as goal
use Rattle.ly_scan.specs.KnownWalks.{AreKnown}
use Rattle.ly_scan.specs.StateTable.{ahead_in}

pub loop-spans-init : goal.loop-spans-init
loop-spans-init c =
    let p = scan_part_of c.args.set.now in
    let start = start_of c.args.text.now in record {
      listed = subst (AreListed p start c.new-spans.result.items) (sym c.start-place.ensures)
          (subst (λ xs. AreListed p start xs start) (sym c.new-spans.ensures.items) (none_listed p start));
      known = c.new-known.ensures (ahead_in c.args.lexer.now.scanner) true c.start-place.result.rest;
    }

pub returns-in-Err : goal.returns-in-Err
returns-in-Err c =
    let p = scan_part_of c.args.set.now in
    let l = c.args.lexer.now in
    let start = start_of c.args.text.now in
    all_listed p l c.args.text.now c.told_spans.new.spans.items c.next.new.place c.in-Err.field-0 c.requires.lexer
    (listed_over p l start c.told_spans.new.place c.next.new.place c.told_spans.new.spans.items c.requires.lexer
    (c.in_ok-told_spans.ensures.listed start c.loop-spans.invariant.listed) c.next.ensures.passed) c.in-Err.ensures.end

pub unreachable-requires : goal.unreachable-requires
unreachable-requires c =
    always_decided c.in-Ok-None.field-0 _ _ c.in-Ok-None.ensures.found c.in-Ok-None.field-0-is

pub loop-spans-preserved-then-not-has_token : goal.loop-spans-preserved-then-not-has_token
loop-spans-preserved-then-not-has_token c =
    let p = scan_part_of c.args.set.now in
    let l = c.args.lexer.now in
    let start = start_of c.args.text.now in
    let q = c.next.new.place in
    let t = c.in-Ok-Some.lexeme in
    let extents = c.told_spans.new.spans.items in
    let fast = fast_there true p l q c.in-Ok-Some.field-0 t c.requires.lexer c.in-Ok-Some.ensures.found
    c.in-Ok-Some.field-0-is in
    let there = c.advance.ensures ∙ ap (moved q t.taken) c.action-begin.ensures.begin in
    let terminal = c.terminal.ensures ∙ (c.action-begin.ensures.emits (take t.taken c.rest.result.now)
    ∙ ap (λ rest. terminal_in p t.rule.0 (take t.taken rest)) c.rest.ensures) in
    let none = none_terminal c.terminal.result (terminal_in p t.rule.0 (take t.taken q.rest)) terminal
    (sym c.is_some-has_token.ensures ∙ c.if-not-has_token.true) in record {
      listed = subst (AreListed p start extents) (sym there)
          (listed_behind p start q extents t (stands_here true (scanner_in p) q t fast) none
          (listed_over p l start c.told_spans.new.place q extents c.requires.lexer (c.in_ok-told_spans.ensures.listed start c.loop-spans.invariant.listed)
          c.next.ensures.passed));
      known = subst (λ x. AreKnown (ahead_in l.scanner) true x.rest c.next.new.known) (sym there)
          (c.next.ensures.known t.taken fast.within);
    }

pub loop-spans-preserved : goal.loop-spans-preserved
loop-spans-preserved c =
    let p = scan_part_of c.args.set.now in
    let l = c.args.lexer.now in
    let start = start_of c.args.text.now in
    let q = c.next.new.place in
    let t = c.in-Ok-Some.lexeme in
    let extents = c.told_spans.new.spans.items in
    let fast = fast_there true p l q c.in-Ok-Some.field-0 t c.requires.lexer c.in-Ok-Some.ensures.found
    c.in-Ok-Some.field-0-is in
    let there = c.advance.ensures ∙ ap (moved q t.taken) c.action-begin.ensures.begin in
    let terminal = c.terminal.ensures ∙ (c.action-begin.ensures.emits (take t.taken c.rest.result.now)
    ∙ ap (λ rest. terminal_in p t.rule.0 (take t.taken rest)) c.rest.ensures) in
    let some = some_terminal c.terminal.result (terminal_in p t.rule.0 (take t.taken q.rest)) terminal
    (sym c.is_some-has_token.ensures ∙ c.if-not-has_token.false) in
    let end = c.at-end.ensures ∙ ap (λ x. x.at) there in
    let items = c.in_ok-push.ensures.items
    ∙ (λ i. extents ++ record { start = c.at-start.ensures i; end = end i } ∷ []) in record {
      listed = subst (AreListed p start c.push.new.self.items) (sym there)
          (subst (λ xs. AreListed p start xs (place_after (condition_in p) q t)) (sym items)
          (listed_with p start q extents t some.0 (stands_here true (scanner_in p) q t fast) fast.within some.1
          (listed_over p l start c.told_spans.new.place q extents c.requires.lexer (c.in_ok-told_spans.ensures.listed start c.loop-spans.invariant.listed)
          c.next.ensures.passed)));
      known = subst (λ x. AreKnown (ahead_in l.scanner) true x.rest c.next.new.known) (sym there)
          (c.next.ensures.known t.taken fast.within);
    }

pub next-requires : goal.next-requires
next-requires c = record {
  known = c.in_ok-told_spans.ensures.ahead.known (ahead_in c.args.lexer.now.scanner) c.loop-spans.known true
      c.loop-spans.invariant.known;
}
