use Rattle.ly_tokens.proofs.AnswerLaws.{answer_one}
use Rattle.ly_tokens.proofs.laws.answer_is_one.Goals as goal

pub returns : goal.returns
returns c = answer_one
