use Rattle.std.proofs.Common.{subst, sym}
use Rattle.std.specs.Prelude.{MatchOption}
use Rattle.ly_lr0.specs.Private.Closing.{IsAtEnd, IsMove}
use Rattle.ly_lr0.proofs.ClosingLemmas.{at_end, is_move}
use Rattle.ly_lr0.proofs.closing.move_of.Goals as goal

pub returns-in_err-symbol-clause-behind : goal.returns-in_err-symbol-clause-behind
returns-in_err-symbol-clause-behind c =
    let long = c.in_err-symbol.ensures.lookup.3 in
    subst (λ o. MatchOption o (IsAtEnd c.args.reduced.now.grammar c.args.item)
    (IsMove c.args.reduced.now.grammar c.args.item)) (sym c.from_residual.ensures)
    (at_end c.grammar.result.now c.args.reduced.now c.args.item c.rule.result.now c.body-body.result.now
    c.grammar.ensures c.requires c.rule.ensures.there c.body-body.ensures long)

pub returns-clause-behind : goal.returns-clause-behind
returns-clause-behind c =
    let found = c.in_ok-symbol.ensures.lookup in
    is_move c.grammar.result.now c.args.reduced.now c.args.item c.rule.result.now c.body-body.result.now
    c.grammar.ensures c.requires c.rule.ensures.there c.body-body.ensures c.in_ok-symbol.field-0.now found.3.0 found.1
