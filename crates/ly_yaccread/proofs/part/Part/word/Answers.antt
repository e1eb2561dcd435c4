use Rattle.std.proofs.Common.{subst}
use Rattle.ly_yaccread.specs.Private.Words.{IsFront}
use Rattle.ly_yaccread.specs.declared.words.NextWord.TheVariants as next
use Rattle.ly_yaccread.proofs.PartLemmas.{no_mark, open_block, open_brace}
use Rattle.ly_yaccread.proofs.part.Part.word.Goals as goal

pub returns-in_default-clause-word : goal.returns-in_default-clause-word
returns-in_default-clause-word c = no_mark c.args.self c.args.text.now c.next_word-front.result.behind.now
    c.next_word-front.result.word c.next_word-front.ensures.word c.in_default.not-Mark

pub returns-in-Some-clause-word : goal.returns-in-Some-clause-word
returns-in-Some-clause-word c =
    let behind = c.next_word-front.result.behind.now in (
      c.if-not-has_blocks.ensures,
      behind,
      subst (λ m. IsFront c.args.text.now (next.Mark m) behind) c.in-Block.is
          (subst (λ w. IsFront c.args.text.now w behind) c.in-Mark.is c.next_word-front.ensures.word),
      c.in-Some.ensures,
    )

pub returns-in-None-clause-word : goal.returns-in-None-clause-word
returns-in-None-clause-word c =
    let behind = c.next_word-front.result.behind.now in
    open_block c.args.self c.args.text.now behind
    (subst (λ m. IsFront c.args.text.now (next.Mark m) behind) c.in-Block.is
    (subst (λ w. IsFront c.args.text.now w behind) c.in-Mark.is c.next_word-front.ensures.word))
    c.if-not-has_blocks.ensures c.in-None.ensures

pub returns-in-None-after_braces-clause-word : goal.returns-in-None-after_braces-clause-word
returns-in-None-after_braces-clause-word c =
    let behind = c.next_word-front.result.behind.now in
    open_brace c.args.self c.args.text.now behind
    (subst (λ m. IsFront c.args.text.now (next.Mark m) behind) c.in-OpenBrace.is
    (subst (λ w. IsFront c.args.text.now w behind) c.in-Mark.is c.next_word-front.ensures.word))
    c.if-not-has_blocks.ensures c.in-None-after_braces.ensures
