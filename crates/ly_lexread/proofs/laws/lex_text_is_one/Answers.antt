use Rattle.ly_lexread.proofs.FileLemmas.{lex_text_one}
use Rattle.ly_lexread.proofs.laws.lex_text_is_one.Goals as goal

pub returns : goal.returns
returns c = lex_text_one
