use Rattle.ly_generate.proofs.HeadlineLemmas.{answers_follow, tables_answer}
use Rattle.ly_generate.proofs.laws.tables_answer_as_specified.Goals as goal

pub returns-clause-verdicts : goal.returns-clause-verdicts
returns-clause-verdicts c = tables_answer

pub returns-clause-answers : goal.returns-clause-answers
returns-clause-answers c = answers_follow
