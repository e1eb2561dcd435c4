use Rattle.std.proofs.Common.{◌∙◌, ap, ap₂, sym, map, max, take}
use Rattle.ly_join.specs.Counts.{greatest, token_length}
use Rattle.ly_join.specs.Private.Tables.{terminal_of}
use Rattle.ly_join.proofs.CountLemmas.{greatest_push}
use Rattle.ly_join.proofs.ListLemmas.{twice_more}
use Rattle.ly_join.proofs.limit.longest_token.Goals as goal

pub loop-symbol-preserved : goal.loop-symbol-preserved
loop-symbol-preserved c =
    let symbol = c.symbol-item.result in
    let at = c.loop-symbol.symbol-index in
    let sizes = map token_length (map terminal_of c.args.symbols.now) in
    c.max-longest.ensures ∙ (ap₂ max c.token_length.ensures c.loop-symbol.invariant
    ∙ sym (ap greatest (twice_more token_length terminal_of c.args.symbols.now at symbol c.loop-symbol-test.true
    c.symbol-item.is) ∙ greatest_push (take at sizes) (token_length (terminal_of symbol))))
