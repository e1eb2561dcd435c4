use Rattle.ly_generate.proofs.SentenceLemmas.{answers_sentences}
use Rattle.ly_generate.proofs.laws.sentences_are_answered.Goals as goal

pub returns : goal.returns
returns c = answers_sentences c.a_text_has_one_verdict.ensures c.a_text_has_a_verdict.ensures
