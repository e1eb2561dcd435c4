use Rattle.std.proofs.Common.{length}
use Rattle.ly_yaccread.proofs.SymbolLemmas.{ListedGoOn}
use Rattle.ly_yaccread.specs.Private.Words.{words_of}
use Rattle.ly_yaccread.proofs.symbols.read_listed.Given as goal

abbrev pub invariant-loop-symbol : goal.invariant-loop-symbol
invariant-loop-symbol l = ListedGoOn l.listing (words_of l.words.left.now) l.symbols.items l.left.items
    (words_of l.rest.left.now)

abbrev pub decreases-loop-symbol : goal.decreases-loop-symbol
decreases-loop-symbol l = length (words_of l.rest.left.now)
