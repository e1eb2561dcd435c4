use Rattle.std.proofs.Common.{arith, sym, subst}
use Rattle.ly_yaccread.specs.Private.Words.{IsPartWord, word_of}
use Rattle.ly_yaccread.proofs.PartLemmas.{taken, takes_shorter}
use Rattle.ly_yaccread.proofs.SpanLemmas.{gap_less}
use Rattle.ly_yaccread.proofs.WordingLemmas.{at_end, at_programs, begins, one_last, one_more, GoesOn}
use Rattle.ly_yaccread.proofs.wording.words.Goals as goal

pub returns-then-is_end : goal.returns-then-is_end
returns-then-is_end c =
    let front = c.word-front.result in
    at_end c.args.text.now c.loop-rest.rest.now c.loop-rest.words.items c.loop-rest.part c.loop-rest.invariant.goes_on
    (subst (λ w. IsPartWord c.loop-rest.part c.loop-rest.rest.now w front.behind.now) c.if-is_end.ensures
    c.word-front.ensures.word)

pub overflow_sub-text : goal.overflow_sub-text
overflow_sub-text c =
    let front = c.word-front.result in
    let less = gap_less c.loop-rest.rest.now front.from.now c.word-front.ensures.from.0 in
    let within = c.loop-rest.invariant.within in
    omega arith

pub returns-then-is_other : goal.returns-then-is_other
returns-then-is_other c = one_last c.args.text.now c.loop-rest.rest.now c.word-front.result.behind.now
    c.loop-rest.words.items c.push.new.self.items c.loop-rest.part _ c.loop-rest.invariant.goes_on
    c.loop-rest-test.ensures c.in_ok-push.ensures.items c.word-front.ensures.word
    (begins c.args.text.now c.loop-rest.rest.now c.word-front.result.from.now c.word-front.ensures.from
    c.loop-rest.invariant.within) c.if-is_other.ensures

pub loop-rest-smaller : goal.loop-rest-smaller
loop-rest-smaller c =
    let front = c.word-front.result in
    takes_shorter c.loop-rest.part c.loop-rest.rest.now (word_of front.word) front.behind.now
    (taken c.loop-rest.part c.loop-rest.rest.now front.behind.now front.word c.if-is_end.ensures
    c.if-is_other.ensures c.word-front.ensures.word)

pub loop-rest-preserved : goal.loop-rest-preserved
loop-rest-preserved c =
    let front = c.word-front.result in
    let shorter = takes_shorter c.loop-rest.part c.loop-rest.rest.now (word_of front.word) front.behind.now
    (taken c.loop-rest.part c.loop-rest.rest.now front.behind.now front.word c.if-is_end.ensures
    c.if-is_other.ensures c.word-front.ensures.word) in
    let within = c.loop-rest.invariant.within in
    record {
      goes_on = subst (λ p. GoesOn c.args.text.now c.push.new.self.items p front.behind.now)
          (sym c.behind-part.ensures)
          (one_more c.args.text.now c.loop-rest.rest.now front.behind.now c.loop-rest.words.items
          c.push.new.self.items c.loop-rest.part _ c.loop-rest.invariant.goes_on c.loop-rest-test.ensures
          c.in_ok-push.ensures.items c.word-front.ensures.word
          (begins c.args.text.now c.loop-rest.rest.now c.word-front.result.from.now c.word-front.ensures.from
          c.loop-rest.invariant.within) c.if-is_end.ensures c.if-is_other.ensures);
      within = omega arith;
    }

pub returns : goal.returns
returns c = at_programs c.args.text.now c.loop-rest.rest.now c.loop-rest.words.items c.loop-rest.part
    c.loop-rest.invariant.goes_on c.loop-rest-test.ensures
