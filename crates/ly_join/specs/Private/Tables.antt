-- What the tables of terminals hold.
use Rattle.std.specs.Prelude.{◌≡◌, ◌<◌, ◌^◌, ℕ, List, Option, None, Some, MatchOption, Contains, length}
use Rattle.std.specs.Prelude.{slice_get, slice_index_or}
use Rattle.std.specs.Map.{lookup}
use Rattle.std.specs.Str.{bytes_eq}
use Rattle.ly_base.specs.declared.numbers.Sym.{Sym}
use Rattle.ly_yaccread.specs.declared.file.SymbolName as yacc
use Rattle.ly_yaccread.specs.declared.file.SymbolName.TheVariants.{Name, Literal}
use Rattle.ly_join.specs.Terminals.{TerminalName, token, byte}

-- the terminal that a symbol is, where it is one
abbrev pub terminal_of : yacc.SymbolName → TerminalName
terminal_of (Name n) = token n.items
terminal_of (Literal b) = byte b

-- the number of a symbol among some, or none where it isn't there
abbrev pub IsFoundAs : {X : Type 0} → List X → X → Option Sym → Type 0
IsFoundAs all x found = MatchOption found (Contains all x → ⊥) (λ s. slice_get all s.0 ≡ Some x)

-- the numbers by name of the symbols that have one: each is found among all
abbrev pub AreFoundByName : {K X : Type 0} → (K → List ℕ) → (List ℕ → X) → List X → List (K × Sym) → Type 0
AreFoundByName name_of symbol all by_name
    = (n : List ℕ) → IsFoundAs all (symbol n) (lookup (λ k. bytes_eq n (name_of k)) by_name)

-- The numbers of the literals by byte.
pub record AreLiterals (terminals : List TerminalName) (by_byte : List (Option Sym)) : Type 0 where
  pub bytes : length by_byte ≡ 256
  pub numbers : (b : ℕ) → b < 256 → IsFoundAs terminals (byte b) (slice_index_or by_byte b None)

-- The numbers of the tokens by name and of the literals by byte, of terminals that a u32 counts.
pub record AreTables {K : Type 0} (name_of : K → List ℕ) (terminals : List TerminalName) (by_name : List (K × Sym))
    (by_byte : List (Option Sym)) : Type 0 where
  pub count : length terminals < 2 ^ 32
  pub tokens : AreFoundByName name_of token terminals by_name
  pub literals : AreLiterals terminals by_byte
