use Rattle.std.proofs.Common.{◌∙◌, ℕ, List, ap, arith, eqb}
use Rattle.std.proofs.lemmas.Result.{err_from_is_err_and}
use Rattle.ly_yaccread.specs.Private.Read.{left}
use Rattle.ly_yaccread.specs.Symbols.{SymbolList}
use Rattle.ly_yaccread.specs.Words.{Word}
use Rattle.ly_yaccread.proofs.ReadLemmas.{refused}
use Rattle.ly_yaccread.proofs.SymbolLemmas.{empty_list, no_list}
use Rattle.ly_yaccread.proofs.symbols.read_symbol_list.Goals as goal

pub returns-in_err-behind : goal.returns-in_err-behind
returns-in_err-behind c =
    let p = err_from_is_err_and c.from_residual.result c.from_residual.ensures.1 in
    refused (λ (x : List Word × List ℕ). SymbolList c.args.listing (left c.args.words) x.0 x.1) _ _ _ _ _ p.1 p.2
    (λ n xs s l. c.in_err-behind.ensures l.behind l.tag)

pub returns-then-is_empty : goal.returns-then-is_empty
returns-then-is_empty c = λ n xs s l.
    no_list c.args.listing (left c.args.words) (left c.in_ok-behind.behind) (left c.in_ok-listed.rest)
    c.in_ok-listed.listed.symbols.items c.in_ok-listed.listed.left.items c.in_ok-behind.ensures c.in_ok-listed.ensures
    (empty_list c.is_empty.result c.in_ok-listed.listed.symbols.items
    (c.is_empty.ensures ∙ ap (λ n. eqb n 0) (omega (arith, c.in_ok-listed.listed.symbols.ok))) c.if-is_empty.true)
    xs.0 xs.1 s l
