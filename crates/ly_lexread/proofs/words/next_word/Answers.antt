use Rattle.std.proofs.Common.{sym, subst}
use Rattle.ly_base.specs.Literals.{Literal}
use Rattle.ly_base.proofs.GapLemmas.{at_none}
use Rattle.ly_base.proofs.WordBeforeLemmas.{word_shorter}
use Rattle.ly_lexread.specs.Words.{literal}
use Rattle.ly_lexread.proofs.WordLemmas.{other_front, words}
use Rattle.ly_lexread.proofs.words.next_word.Goals as goal

pub returns-in-Some-clause-shorter : goal.returns-in-Some-clause-shorter
returns-in-Some-clause-shorter c = λ _.
    word_shorter words c.args.gaps c.args.text.now (literal c.in-Some.byte) c.split_at.result.1.now (
      c.after_gap-text.result.now,
      c.after_gap-text.ensures.before,
      subst (Literal c.after_gap-text.result.now c.in-Some.byte)
          (sym c.split_at.ensures.back) c.in-Some.ensures.literal,
    )

pub returns-in-Some-2-clause-front : goal.returns-in-Some-2-clause-front
returns-in-Some-2-clause-front c =
    let word = c.after_gap-text.result.now in
    other_front c.args.gaps c.args.text.now word c.after_gap-text.ensures.before c.after_gap-text.ensures.stops
    (at_none c.literal.result _ _ c.in_default.not-Some c.literal.ensures.none)
    (at_none c.leading_name.result _ _ c.in_default-leading_name.not-Some c.leading_name.ensures)
    (at_none c.behind_text_byte.result _ _ c.in_default-behind_text_byte.not-Some c.behind_text_byte.ensures)
    c.in-Some-split_first.first.now c.in-Some-split_first.rest.now c.in-Some-split_first.ensures.cases.0
    (sym c.if-is_mark.ensures)
