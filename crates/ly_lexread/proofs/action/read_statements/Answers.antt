use Rattle.std.proofs.Common.{subst}
use Rattle.std.specs.Option.{MatchOption}
use Rattle.std.proofs.lemmas.Result.{err_from_is_err_and}
use Rattle.ly_base.proofs.GapLemmas.{at_none}
use Rattle.ly_lexread.specs.Action.{Effect, effect_of}
use Rattle.ly_lexread.specs.Private.Statements.{statement_of}
use Rattle.ly_lexread.specs.Statements.{HasEffect, done, more}
use Rattle.ly_lexread.proofs.StatementLemmas.{ends_first, no_statements, none_first, not_ends, statements_behind}
use Rattle.ly_lexread.proofs.action.read_statements.Goals as goal

pub returns-in_err-statement-clause-refused : goal.returns-in_err-statement-clause-refused
returns-in_err-statement-clause-refused c =
    let p = err_from_is_err_and c.from_residual.result c.from_residual.ensures.1 in
    rw p.1 (λ _ e rest h. none_first c.args.conditions.now c.args.extent (effect_of c.loop-action.action) e
    c.loop-action.left.now rest c.in_err-statement.ensures.these (c.loop-action.invariant.complete e rest h))

pub returns-then-is_end-clause-ok : goal.returns-then-is_end-clause-ok
returns-then-is_end-clause-ok c =
    let e = effect_of c.loop-action.action in
    c.loop-action.invariant.sound e c.in_ok-statement.behind.now
    (done e c.loop-action.left.now c.in_ok-statement.behind.now
    (ends_first c.args.conditions.now c.args.extent c.loop-action.left.now c.in_ok-statement.behind.now
    c.in_ok-statement.statement c.if-is_end.ensures c.in_ok-statement.ensures.these))

pub returns-in_default-clause-refused : goal.returns-in_default-clause-refused
returns-in_default-clause-refused c = λ _ e rest h.
    let d = effect_of c.loop-action.action in
    no_statements c.args.conditions.now c.args.extent d e (statement_of c.in_ok-statement.statement)
    c.loop-action.left.now c.in_ok-statement.behind.now rest c.in_ok-statement.ensures.these
    (not_ends c.in_ok-statement.statement c.if-is_end.ensures)
    (at_none c.in_ok-longer.field-0 _ _ c.in_default.not-Some c.in_ok-longer.ensures)
    (c.loop-action.invariant.complete e rest h)

pub loop-action-preserved : goal.loop-action-preserved
loop-action-preserved c =
    let cs = c.args.conditions.now in
    let d = effect_of c.loop-action.action in
    let f = effect_of c.in-Some.longer in
    let s = statement_of c.in_ok-statement.statement in
    let left = c.loop-action.left.now in
    let behind = c.in_ok-statement.behind.now in
    let follows : HasEffect d s f = subst (λ o. MatchOption o ((e : Effect) → HasEffect d s e → ⊥)
    (λ a. HasEffect d s (effect_of a))) c.in-Some.is c.in_ok-longer.ensures in
    record {
      sound = λ e rest h. c.loop-action.invariant.sound e rest
          (more d f e s left behind rest c.in_ok-statement.ensures.these follows h);
      complete = λ e rest h. statements_behind cs c.args.extent d f e s left behind rest
          c.in_ok-statement.ensures.these follows (c.loop-action.invariant.complete e rest h);
    }
