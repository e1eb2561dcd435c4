use Rattle.std.proofs.Common.{◌∙◌, ap, map, sym, take}
use Rattle.ly_join.specs.Private.Numbering.{with_all, with_one}
use Rattle.ly_join.specs.Private.Tables.{terminal_of}
use Rattle.ly_join.specs.Terminals.{same_terminal}
use Rattle.ly_join.proofs.ListLemmas.{mapped_more}
use Rattle.ly_join.proofs.NumberingLemmas.{all_push}
use Rattle.ly_join.proofs.numbering.with_symbols.Goals as goal

pub loop-symbol-preserved : goal.loop-symbol-preserved
loop-symbol-preserved c =
    let symbol = c.symbol-item.result in
    let at = c.loop-symbol.symbol-index in
    let all = c.args.symbols.now in
    c.in_ok-terminals.ensures
    ∙ (ap (λ ts. with_one same_terminal ts (terminal_of symbol)) c.loop-symbol.invariant
    ∙ sym (ap (with_all same_terminal c.args.terminals)
    (mapped_more terminal_of all at symbol c.loop-symbol-test.true c.symbol-item.is)
    ∙ all_push same_terminal c.args.terminals (take at (map terminal_of all)) (terminal_of symbol)))
