use Rattle.std.proofs.Common.{arith, length, subst, ◌≡◌}
use Rattle.std.specs.Rc.{rc_slice_items}
use Rattle.std.proofs.lemmas.List.{length-map}
use Rattle.std.proofs.lemmas.Result.{err_from_is_err_and}
use Rattle.ly_yaccread.specs.File.{symbol_word, symbol_words}
use Rattle.ly_yaccread.specs.Private.Read.{left}
use Rattle.ly_yaccread.specs.Rules.{Body, BodyEnd}
use Rattle.ly_yaccread.proofs.ReadLemmas.{refused}
use Rattle.ly_yaccread.proofs.RuleLemmas.{body_behind}
use Rattle.ly_yaccread.proofs.rule.read_rule.Goals as goal

pub returns-in_err-end : goal.returns-in_err-end
returns-in_err-end c =
    let ws = left c.args.words in
    let behind = left c.in_ok-body.behind in
    let body = c.in_ok-body.body.items in
    let p = err_from_is_err_and c.from_residual-in_err-end.result c.from_residual-in_err-end.ensures.1 in
    let count : length (symbol_words body) ≡ c.len.result
    = omega (arith, length-map body symbol_word, c.in_ok-body.body.ok)
    in
    refused (Body (rc_slice_items c.args.left) ws) _ _ _ _ _ p.1 p.2
    (λ n r rest b.
    let d = body_behind (rc_slice_items c.args.left) ws (symbol_words body) behind r rest c.in_ok-body.ensures b in
    c.in_err-end.ensures n (r.precedence, r.making) rest
    (subst (λ k. BodyEnd k behind r.precedence r.making rest) count d.1))
