use Rattle.ly_base.specs.declared.language.Language.TheVariants.{Lex}
use Rattle.ly_lexread.proofs.StatementLemmas.{gap_test}
use Rattle.ly_lexread.proofs.action.is_gap.Goals as goal

pub returns : goal.returns
returns c = gap_test Lex c.args.text.now c.next_word.result.0 c.next_word.result.1.now c.is_end.result
    c.next_word.ensures.front c.is_end.ensures
