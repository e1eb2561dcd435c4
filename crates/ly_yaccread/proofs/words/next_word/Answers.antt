use Rattle.ly_yaccread.proofs.WordLemmas.{behind_gap}
use Rattle.ly_yaccread.proofs.words.next_word.Goals as goal

pub returns-clause-word : goal.returns-clause-word
returns-clause-word c = behind_gap c.args.text.now c.after_gap-from.result.now c.word_at.result.1.now
    c.word_at.result.0 c.after_gap-from.ensures.before c.after_gap-from.ensures.stops c.word_at.ensures
