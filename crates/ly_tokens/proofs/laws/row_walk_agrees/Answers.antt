use Rattle.ly_tokens.proofs.RowAgreementLemmas.{same_rules_agree}
use Rattle.ly_tokens.proofs.laws.row_walk_agrees.Goals as goal

pub returns : goal.returns
returns c = λ lex file nfa A B text are so same. same_rules_agree lex file text nfa A are so B same
