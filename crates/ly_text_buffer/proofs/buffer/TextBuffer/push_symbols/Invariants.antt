use Rattle.std.proofs.Common.{map, take}
use Rattle.ly_join.specs.Grammar.{symbol_of}
use Rattle.ly_text_buffer.specs.TextBuffer.{Says, spaced_words}
use Rattle.ly_text_buffer.proofs.buffer.TextBuffer.push_symbols.Given as goal

-- the symbols so far are said
abbrev pub invariant-loop-symbol : goal.invariant-loop-symbol
invariant-loop-symbol l =
    Says l.initial.self (spaced_words l.spec (map symbol_of (take l.symbol-index l.symbols))) l.self
