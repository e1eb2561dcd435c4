use Rattle.std.proofs.Common.{length}
use Rattle.ly_yaccread.proofs.SymbolLemmas.{SymbolsGoOn}
use Rattle.ly_yaccread.specs.Private.Words.{words_of}
use Rattle.ly_yaccread.proofs.symbols.read_symbols.Given as goal

abbrev pub invariant-loop-symbol : goal.invariant-loop-symbol
invariant-loop-symbol l = SymbolsGoOn (words_of l.words.left.now) l.symbols.items (words_of l.rest.left.now)

abbrev pub decreases-loop-symbol : goal.decreases-loop-symbol
decreases-loop-symbol l = length (words_of l.rest.left.now)
