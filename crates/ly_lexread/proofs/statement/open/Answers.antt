use Rattle.std.proofs.Common.{refl, sym}
use Rattle.ly_lexread.specs.Words.{open_parenthesis}
use Rattle.ly_lexread.proofs.WordLemmas.{front_is}
use Rattle.ly_lexread.proofs.statement.open.Goals as goal

pub returns-else-is-clause-these : goal.returns-else-is-clause-these
returns-else-is-clause-these c = (
  refl,
  λ s f. c.if-is.ensures (sym (front_is c.args.gaps c.args.text.now c.next_word.result.0 c.next_word.result.1.now
      open_parenthesis s c.next_word.ensures.front f).0),
)
