use Rattle.std.proofs.Common.{subst}
use Rattle.std.proofs.lemmas.Result.{err_from_is_err_and}
use Rattle.ly_lexread.specs.Private.Words.{word_of}
use Rattle.ly_lexread.specs.Statements.{NamesCondition}
use Rattle.ly_lexread.proofs.StatementLemmas.{given_of, given_word, names_found}
use Rattle.ly_lexread.proofs.statement.read_condition.Goals as goal

pub returns-in_default-clause-these : goal.returns-in_default-clause-these
returns-in_default-clause-these c = λ x rest n g h.
    let e = given_word c.args.gaps c.args.text.now c.open-is_open.result.1.now c.next_word.result.1.now rest
    c.open-is_open.result.0 c.next_word.result.0 x c.open-is_open.ensures.these c.next_word.ensures.front g in
    c.in_default.ensures n (subst (λ i. NamesCondition c.args.conditions.now i n) e.0 h)

pub returns-in_err-rest-clause-these : goal.returns-in_err-rest-clause-these
returns-in_err-rest-clause-these c =
    let p = err_from_is_err_and c.from_residual.result c.from_residual.ensures.1 in
    rw p.1 (λ x rest n g h.
    let e = given_word c.args.gaps c.args.text.now c.open-is_open.result.1.now c.next_word.result.1.now rest
    c.open-is_open.result.0 c.next_word.result.0 x c.open-is_open.ensures.these c.next_word.ensures.front g in
    c.in_err-rest.ensures.these rest e.1)

pub returns-clause-these : goal.returns-clause-these
returns-clause-these c = (
  word_of c.next_word.result.0,
  given_of c.args.gaps c.args.text.now c.open-is_open.result.1.now c.next_word.result.1.now c.in_ok-rest.rest.now
      c.open-is_open.result.0 c.next_word.result.0 c.open-is_open.ensures.these c.next_word.ensures.front
      (names_found c.args.conditions.now c.next_word.result.0 c.in-Some.condition c.in-Some.ensures)
      c.in_ok-rest.ensures.these,
  c.in-Some.ensures,
)
