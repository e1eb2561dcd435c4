-- Terminals and their numbers.
use Rattle.std.specs.Prelude.{◌≡◌, ℕ, ◌⊎◌, List, Option, Some, None, Bool, true, false, slice_get, Contains}
use Rattle.std.specs.Prelude.{nat_eq}
use Rattle.std.specs.Str.{bytes_eq}
use Rattle.ly_yaccread.specs.Words.{Word, name, literal}
use Rattle.ly_join.specs.declared.terminal.TerminalName as code
use Rattle.ly_join.specs.declared.terminal.TerminalName.TheVariants.{End, Undefined, Token, Literal}

-- A terminal: the end of the text, `$undef` for every byte that the grammar doesn't name, the token with a name, or the
-- literal of a byte.
pub data TerminalName : Type 0 where
  end : TerminalName
  undefined : TerminalName
  token : List ℕ → TerminalName
  byte : ℕ → TerminalName

-- the terminal, whatever the capacity of its name
abbrev pub terminal_from : code.TerminalName → TerminalName
terminal_from End = end
terminal_from Undefined = undefined
terminal_from (Token n) = token n.items
terminal_from (Literal b) = byte b

-- whether two terminals are the same
abbrev pub same_terminal : TerminalName → TerminalName → Bool
same_terminal end end = true
same_terminal undefined undefined = true
same_terminal (token m) (token n) = bytes_eq m n
same_terminal (byte b) (byte c) = nat_eq b c
same_terminal _ _ = false

-- the token or literal of a symbol in a declaration
abbrev pub terminal_in : Word → Option TerminalName
terminal_in (name n) = Some (token n)
terminal_in (literal b) = Some (byte b)
terminal_in _ = None

-- the literal of a symbol in a rule, if it is one
abbrev pub literal_in : Word → Option TerminalName
literal_in (literal b) = Some (byte b)
literal_in _ = None

-- the number of a terminal is its index in the list
abbrev pub IsNumbered : List TerminalName → TerminalName → ℕ → Type 0
IsNumbered terminals x t = slice_get terminals t ≡ Some x

-- the terminal of a byte that is returned as itself: its literal, or 1 if the grammar doesn't name it
abbrev pub IsOfByte : List TerminalName → ℕ → ℕ → Type 0
IsOfByte terminals b t = IsNumbered terminals (byte b) t ⊎ ((Contains terminals (byte b) → ⊥) × (t ≡ 1))
