use Rattle.std.proofs.Common.{subst, sym}
use Rattle.std.proofs.lemmas.Result.{err_from_is_err_and}
use Rattle.std.specs.Prelude.{codes}
use Rattle.ly_lexread.specs.Private.Words.{IsFront}
use Rattle.ly_lexread.specs.Statements.{gaps, Given}
use Rattle.ly_lexread.proofs.StatementLemmas.{begin_first, return_first, statement_none}
use Rattle.ly_lexread.proofs.WordLemmas.{name_front}
use Rattle.ly_lexread.proofs.statement.read_statement.Goals as goal

pub returns-in_err-condition-clause-these : goal.returns-in_err-condition-clause-these
returns-in_err-condition-clause-these c =
    let p = err_from_is_err_and c.from_residual.result c.from_residual.ensures.1 in
    let front : IsFront (gaps c.args.extent) c.args.text.now c.next_word.result.0 c.next_word.result.1.now
    = subst (λ l. IsFront l c.args.text.now c.next_word.result.0 c.next_word.result.1.now) c.gaps-spaces.ensures
    c.next_word.ensures.front in
    let key = name_front (gaps c.args.extent) c.args.text.now c.next_word.result.0 c.next_word.result.1.now
    (codes "BEGIN") front c.if-is_name.ensures in
    rw p.1 (λ s rest h.
    let b = begin_first c.args.conditions.now c.args.extent c.args.text.now c.next_word.result.1.now rest s key h in
    c.in_err-condition.ensures.these b.word rest b.condition
    (subst (λ l. Given l c.next_word.result.1.now b.word rest) (sym c.gaps-spaces.ensures) b.given) b.named)

pub returns-in_err-value-clause-these : goal.returns-in_err-value-clause-these
returns-in_err-value-clause-these c =
    let p = err_from_is_err_and c.from_residual-in_err-value.result c.from_residual-in_err-value.ensures.1 in
    let front : IsFront (gaps c.args.extent) c.args.text.now c.next_word.result.0 c.next_word.result.1.now
    = subst (λ l. IsFront l c.args.text.now c.next_word.result.0 c.next_word.result.1.now) c.gaps-spaces.ensures
    c.next_word.ensures.front in
    let key = name_front (gaps c.args.extent) c.args.text.now c.next_word.result.0 c.next_word.result.1.now
    (codes "return") front c.if-is_name-2.ensures in
    rw p.1 (λ s rest h.
    let b = return_first c.args.conditions.now c.args.extent c.args.text.now c.next_word.result.1.now rest s key h in
    c.in_err-value.ensures.these b.word rest b.meaning
    (subst (λ l. Given l c.next_word.result.1.now b.word rest) (sym c.gaps-spaces.ensures) b.given) b.stands)

pub returns-clause-these : goal.returns-clause-these
returns-clause-these c =
    let front : IsFront (gaps c.args.extent) c.args.text.now c.next_word.result.0 c.next_word.result.1.now
    = subst (λ l. IsFront l c.args.text.now c.next_word.result.0 c.next_word.result.1.now) c.gaps-spaces.ensures
    c.next_word.ensures.front in
    statement_none c.args.conditions.now c.args.extent c.args.text.now c.next_word.result.0 c.next_word.result.1.now
    front c.if-is_ended_by.ensures c.if-is.ensures c.if-is_name.ensures c.if-is_name-2.ensures
