use Rattle.std.proofs.Common.{arith, length, refl}
use Rattle.ly_yaccread.proofs.SpanLemmas.{gap_less, one_span, word_less}
use Rattle.ly_yaccread.proofs.spans.word_spans.Goals as goal

pub overflow_sub-front : goal.overflow_sub-front
overflow_sub-front c =
    let front = c.word-front.result in
    let shorter = word_less c.loop-rest.part c.loop-rest.rest.now front.from.now front.behind.now front.word
    c.if-is_end.ensures c.if-is_other.ensures c.word-front.ensures.from c.word-front.ensures.word in
    omega arith

pub overflow_sub-text : goal.overflow_sub-text
overflow_sub-text c =
    let front = c.word-front.result in
    let less = gap_less c.loop-rest.rest.now front.from.now c.word-front.ensures.from.0 in
    omega arith

pub loop-rest-smaller : goal.loop-rest-smaller
loop-rest-smaller c =
    let front = c.word-front.result in
    let shorter = word_less c.loop-rest.part c.loop-rest.rest.now front.from.now front.behind.now front.word
    c.if-is_end.ensures c.if-is_other.ensures c.word-front.ensures.from c.word-front.ensures.word in
    let less = gap_less c.loop-rest.rest.now front.from.now c.word-front.ensures.from.0 in
    omega arith

pub loop-rest-preserved : goal.loop-rest-preserved
loop-rest-preserved c =
    let front = c.word-front.result in
    one_span (length c.args.text.now) (length c.loop-rest.rest.now) (length front.from.now)
    (length front.behind.now) c.loop-rest.spans.items c.push.new.self.items _ c.loop-rest.invariant
    (gap_less c.loop-rest.rest.now front.from.now c.word-front.ensures.from.0)
    (word_less c.loop-rest.part c.loop-rest.rest.now front.from.now front.behind.now front.word
    c.if-is_end.ensures c.if-is_other.ensures c.word-front.ensures.from c.word-front.ensures.word) refl refl
    c.in_ok-push.ensures.items
