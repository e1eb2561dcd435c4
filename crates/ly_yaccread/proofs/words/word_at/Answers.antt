use Rattle.std.proofs.Common.{ℕ, List}
use Rattle.ly_base.specs.Language.{NameBefore, DigitsBefore}
use Rattle.ly_base.specs.Literals.{Literal}
use Rattle.ly_base.specs.declared.language.Language.TheVariants.{Yacc}
use Rattle.ly_base.proofs.GapLemmas.{at_none}
use Rattle.ly_base.proofs.ListLemmas.{not_empty}
use Rattle.ly_yaccread.specs.Words.{DirectiveBefore, MarkBefore, Word, mark}
use Rattle.ly_yaccread.specs.Words.{directive, name, number, literal, block, braces}
use Rattle.ly_yaccread.specs.Words.{other, Begins}
use Rattle.ly_yaccread.specs.declared.words.Mark.{Mark}
use Rattle.ly_yaccread.proofs.words.word_at.Goals as goal

none_at : (text : List ℕ) → ((m : Mark) (r : List ℕ) → MarkBefore text m r → ⊥)
    → ((n r : List ℕ) → DirectiveBefore text n r → ⊥) → ((n r : List ℕ) → NameBefore Yacc text n r → ⊥)
    → ((n r : List ℕ) → DigitsBefore text n r → ⊥) → ((b : ℕ) (r : List ℕ) → Literal text b r → ⊥)
    → (x : Word) (s : List ℕ) → Begins text x s → ⊥
none_at text a b c d e (mark m) s h = a m s h
none_at text a b c d e (directive n) s h = b n s h
none_at text a b c d e (name n) s h = c n s h
none_at text a b c d e (number n) s h = d n s h
none_at text a b c d e (literal v) s h = e v s h
none_at text a b c d e block s h = absurd h
none_at text a b c d e braces s h = absurd h
none_at text a b c d e other s h = absurd h

pub returns-in-None : goal.returns-in-None
returns-in-None c = (
  not_empty c.is_empty.result c.args.text.now c.is_empty.ensures c.if-is_empty.false,
  none_at c.args.text.now (at_none c.leading_mark.result _ _ c.in_default.not-Some c.leading_mark.ensures)
      (at_none c.leading_directive.result _ _ c.in_default-leading_directive.not-Some c.leading_directive.ensures)
      (at_none c.leading_name.result _ _ c.in_default-leading_name.not-Some c.leading_name.ensures)
      (at_none c.leading_digits.result _ _ c.in_default-leading_digits.not-Some c.leading_digits.ensures)
      c.in-None.ensures.none,
)
