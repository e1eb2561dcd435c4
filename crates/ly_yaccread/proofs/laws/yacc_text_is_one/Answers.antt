use Rattle.ly_yaccread.proofs.TextLemmas.{text_one}
use Rattle.ly_yaccread.proofs.laws.yacc_text_is_one.Goals as goal

pub returns : goal.returns
returns c = text_one
