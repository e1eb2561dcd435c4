-- The greatest of numbers.
use Rattle.std.proofs.Common.{◌≡◌, ℕ, List, [], ◌∷◌, ◌++◌, refl, ap, arith, max, map}
use Rattle.std.specs.List.{filter_map}
use Rattle.ly_yaccread.specs.File.{symbol_word}
use Rattle.ly_yaccread.specs.declared.file.SymbolName as yacc
use Rattle.ly_yaccread.specs.declared.file.SymbolName.TheVariants.{Name, Literal}
use Rattle.ly_join.specs.Counts.{greatest}
use Rattle.ly_join.specs.Terminals.{terminal_in}
use Rattle.ly_join.specs.Private.Tables.{terminal_of}

pub greatest_append : (ms ns : List ℕ) → greatest (ms ++ ns) ≡ max (greatest ms) (greatest ns)
greatest_append [] ns = omega arith
greatest_append (m ∷ ms) ns = omega (arith, greatest_append ms ns)

pub greatest_push : (ns : List ℕ) (n : ℕ) → greatest (ns ++ n ∷ []) ≡ max n (greatest ns)
greatest_push ns n = omega (arith, greatest_append ns (n ∷ []))

-- the symbols of a declaration are terminals, each of them
pub declared_words : (xs : List yacc.SymbolName) → filter_map terminal_in (map symbol_word xs) ≡ map terminal_of xs
declared_words [] = refl
declared_words (Name n ∷ xs) = ap (λ ts. terminal_of (Name n) ∷ ts) (declared_words xs)
declared_words (Literal b ∷ xs) = ap (λ ts. terminal_of (Literal b) ∷ ts) (declared_words xs)
