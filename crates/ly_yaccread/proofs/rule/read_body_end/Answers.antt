use Rattle.std.proofs.Common.{Option, ◌∙◌, ap, not}
use Rattle.std.specs.Option.{option_map}
use Rattle.std.proofs.lemmas.Result.{err_from_is_err_and}
use Rattle.ly_yaccread.specs.Actions.{Making}
use Rattle.ly_yaccread.specs.File.{making_of, symbol_word}
use Rattle.ly_yaccread.specs.Private.Read.{left}
use Rattle.ly_yaccread.specs.Rules.{BodyEnd}
use Rattle.ly_yaccread.specs.Words.{Word}
use Rattle.ly_yaccread.proofs.ReadLemmas.{refused}
use Rattle.ly_yaccread.proofs.RuleLemmas.{end_behind, no_late_action, some_kept}
use Rattle.ly_yaccread.proofs.rule.read_body_end.Goals as goal

pub returns-in_err-early : goal.returns-in_err-early
returns-in_err-early c =
    let ws = left c.args.words in
    let p = err_from_is_err_and c.from_residual.result c.from_residual.ensures.1 in
    refused (λ (x : Option Word × Making). BodyEnd c.args.symbols ws x.0 x.1) _ _ _ _ _ p.1 p.2
    (λ n x rest e. c.in_err-early.ensures n e.early e.behind e.action)

pub returns-in_err-precedence : goal.returns-in_err-precedence
returns-in_err-precedence c =
    let ws = left c.args.words in
    let p = err_from_is_err_and c.from_residual-in_err-precedence.result
    c.from_residual-in_err-precedence.ensures.1 in
    refused (λ (x : Option Word × Making). BodyEnd c.args.symbols ws x.0 x.1) _ _ _ _ _ p.1 p.2
    (λ n x rest e.
    let d = end_behind c.args.symbols ws (left c.in_ok-early.behind) (making_of c.in_ok-early.early) x.0 x.1 rest
    c.in_ok-early.ensures e in
    c.in_err-precedence.ensures n x.0 d.0 d.1)

pub returns-in_err-action : goal.returns-in_err-action
returns-in_err-action c =
    let ws = left c.args.words in
    let precedence = option_map (λ x. symbol_word x.value) c.in_ok-precedence.precedence in
    let p = err_from_is_err_and c.from_residual-in_err-action.result c.from_residual-in_err-action.ensures.1 in
    refused (λ (x : Option Word × Making). BodyEnd c.args.symbols ws x.0 x.1) _ _ _ _ _ p.1 p.2
    (λ n x rest e. no_late_action c.args.symbols ws (left c.in_ok-early.behind) (left c.in_ok-precedence.left)
    (making_of c.in_ok-early.early) precedence c.in_ok-early.ensures c.in_ok-precedence.ensures
    (some_kept (λ x. symbol_word x.value) c.in_ok-precedence.precedence (c.is_none.ensures ∙ ap not c.if-is_none.false))
    c.if-not-is_default.ensures (c.in_err-action.ensures n) x.0 x.1 rest e)
