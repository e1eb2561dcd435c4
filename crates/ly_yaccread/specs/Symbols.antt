-- The symbols of a declaration and of a body, and tags (POSIX, XCU yacc).
use Rattle.std.specs.Prelude.{◌≡◌, ◌≢◌, ◌⊎◌, ℕ, List, [], ◌∷◌, codes, length}
use Rattle.ly_yaccread.specs.Words.{Word, mark, name, number, literal}
use Rattle.ly_yaccread.specs.declared.listing.Listing.{Listing}
use Rattle.ly_yaccread.specs.declared.listing.Listing.TheVariants.{Plain, Numbered}
use Rattle.ly_yaccread.specs.declared.words.Mark.{Mark}
use Rattle.ly_yaccread.specs.declared.words.Mark.TheVariants.{Colon, OpenTag, CloseTag}

-- no such mark comes first
abbrev pub NoMark : Mark → List Word → Type 0
NoMark m ws = (rest : List Word) → ws ≢ mark m ∷ rest

-- a name comes first; `error` isn't one
abbrev pub NameFirst : List Word → List ℕ → List Word → Type 0
NameFirst ws n rest = (ws ≡ name n ∷ rest) × (n ≢ codes "error")

-- a symbol comes first: a literal, or a name without a `:` after it
abbrev pub SymbolFirst : List Word → Word → List Word → Type 0
SymbolFirst ws (name n) rest = NameFirst ws n rest × NoMark Colon rest
SymbolFirst ws (literal b) rest = ws ≡ literal b ∷ rest
SymbolFirst ws _ rest = ⊥

-- no symbol comes first
abbrev pub NoSymbol : List Word → Type 0
NoSymbol ws = (x : Word) (rest : List Word) → SymbolFirst ws x rest → ⊥

-- symbols, as many as there are, and the rest
pub data Symbols : List Word → List Word → List Word → Type 0 where
  end : (ws : List Word) → NoSymbol ws → Symbols ws [] ws
  more : (ws behind rest : List Word) (x : Word) (xs : List Word) → SymbolFirst ws x behind
      → Symbols behind xs rest → Symbols ws (x ∷ xs) rest

-- in a list with numbers: the words after the number that comes first, or all words if none does
abbrev pub NumberPassed : Listing → List Word → List Word → Type 0
NumberPassed Plain ws rest = ws ≡ rest
NumberPassed Numbered ws rest = ((ds : List ℕ) × (ws ≡ number ds ∷ rest))
    ⊎ (((ds : List ℕ) (s : List Word) → ws ≢ number ds ∷ s) × (ws ≡ rest))

-- Symbols of a declaration, as many as there are, the number of words left from each of them on, and the rest.
pub data Listed (l : Listing) : List Word → List Word → List ℕ → List Word → Type 0 where
  none : (ws : List Word) → NoSymbol ws → Listed l ws [] [] ws
  one : (ws behind left rest : List Word) (x : Word) (xs : List Word) (ns : List ℕ) → SymbolFirst ws x behind
      → NumberPassed l behind left → Listed l left xs ns rest → Listed l ws (x ∷ xs) (length ws ∷ ns) rest

-- the words after the tag `<name>` that comes first, or all words if no `<` does
abbrev pub TagPassed : List Word → List Word → Type 0
TagPassed ws rest
    = ((n : List ℕ) × (ws ≡ mark OpenTag ∷ name n ∷ mark CloseTag ∷ rest) × (n ≢ codes "error"))
    ⊎ (NoMark OpenTag ws × (ws ≡ rest))

-- An optional tag, then one or more symbols, the number of words left from each of them on, and the rest.
pub record SymbolList (l : Listing) (ws xs : List Word) (ns : List ℕ) (rest : List Word) : Type 0 where
  pub behind : List Word
  pub tag : TagPassed ws behind
  pub symbols : Listed l behind xs ns rest
  pub some : xs ≢ []
