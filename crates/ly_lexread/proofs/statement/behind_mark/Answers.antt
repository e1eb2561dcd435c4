use Rattle.std.proofs.Common.{arith, sym}
use Rattle.ly_base.proofs.WordBeforeLemmas.{word_shorter}
use Rattle.ly_lexread.specs.Words.{mark}
use Rattle.ly_lexread.proofs.WordLemmas.{front_is, mark_front, words}
use Rattle.ly_lexread.proofs.statement.behind_mark.Goals as goal

pub returns-then-is-clause-these : goal.returns-then-is-clause-these
returns-then-is-clause-these c = mark_front c.args.gaps c.args.text.now c.next_word.result.0 c.next_word.result.1.now
    c.args.mark c.next_word.ensures.front c.if-is.ensures c.requires

pub returns-then-is-clause-within : goal.returns-then-is-clause-within
returns-then-is-clause-within c =
    let less = word_shorter words c.args.gaps c.args.text.now (mark c.args.mark) c.next_word.result.1.now
    (mark_front c.args.gaps c.args.text.now c.next_word.result.0 c.next_word.result.1.now c.args.mark
    c.next_word.ensures.front c.if-is.ensures c.requires) in
    omega (arith, less)

pub returns-else-is-clause-these : goal.returns-else-is-clause-these
returns-else-is-clause-these c = λ rest f. c.if-is.ensures
    (sym (front_is c.args.gaps c.args.text.now c.next_word.result.0 c.next_word.result.1.now (mark c.args.mark) rest
    c.next_word.ensures.front f).0)
