use Rattle.std.proofs.Common.{arith, sym, ◌∙◌}
use Rattle.ly_lexread.proofs.BlankLemmas.{blanks_begin, no_blanks}
use Rattle.ly_lexread.proofs.blanks.behind_blanks.Goals as goal

pub returns-then-length-eq0-clause-these : goal.returns-then-length-eq0-clause-these
returns-then-length-eq0-clause-these c = λ rest.
    no_blanks c.args.text.now rest (sym c.blanks_length-length.ensures.value ∙ omega arith)

pub returns-clause-these : goal.returns-clause-these
returns-clause-these c = blanks_begin c.args.text.now c.split_at.result.1.now c.blanks_length-length.result
    c.blanks_length-length.ensures.value (omega arith) c.blanks_length-length.ensures.within c.split_at.ensures.back
