use Rattle.ly_yaccread.specs.Private.Read.{left, next_symbol}
use Rattle.ly_yaccread.proofs.SymbolLemmas.{symbols_end, symbols_more}
use Rattle.ly_yaccread.proofs.symbols.read_symbols.Goals as goal

pub loop-symbol-preserved : goal.loop-symbol-preserved
loop-symbol-preserved c
    = symbols_more (left c.args.words) (left c.loop-symbol.rest) (left c.in-Some.behind)
    c.loop-symbol.symbols.items c.push.new.self.items c.in_ok-owned.field-0
    (next_symbol c.in-Some.symbol) c.loop-symbol.invariant c.in-Some.ensures c.in_ok-owned.ensures
    c.in_ok-push.ensures.items

pub returns : goal.returns
returns c = symbols_end (left c.args.words) (left c.loop-symbol.rest) c.loop-symbol.symbols.items
    c.loop-symbol.invariant c.in_default.ensures
