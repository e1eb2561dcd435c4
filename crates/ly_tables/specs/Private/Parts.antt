-- Parts of a table file: which bytes are those of a kind, and what their beginnings are.
use Rattle.std.specs.Prelude.{◌≡◌, ◌≢◌, ℕ, zero, suc, List, [], ◌∷◌, ◌++◌, length, All}
use Rattle.std.specs.Int.{Width}
use Rattle.ly_tables.specs.RawSet.{Fits, IsByte, IsString, RuleFits, ScanRuleFits, StartsFit}
use Rattle.ly_tables.specs.RawSet.{CombFits, raw_comb, raw_rule, raw_scan_rule, raw_starts}
use Rattle.ly_tables.specs.Spelling.{number, string}
use Rattle.ly_tables.specs.declared.fault.TableFault.{TableFault}
use Rattle.ly_tables.specs.declared.fault.TableFault.TheVariants.{BadMagic, BadVersion, Endless, OutOfMemory}
use Rattle.ly_tables.specs.declared.fault.TableFault.TheVariants.{OutOfRange, Trailing, Truncated}

-- the bytes of some value that fits
pub record Spells {V : Type 0} (fits : V → Type 0) (spelled : V → List ℕ) (bytes : List ℕ) : Type 0 where
  pub value : V
  pub fit : fits value
  pub is : bytes ≡ spelled value

-- a proper beginning of bytes of a kind
pub record IsBeginning (whole : List ℕ → Type 0) (bytes : List ℕ) : Type 0 where
  pub missing : List ℕ
  pub some : missing ≢ []
  pub all : whole (bytes ++ missing)

-- the bytes of a value that fits, and behind them bytes of the kind that follows this value
pub record Then {V : Type 0} (fits : V → Type 0) (spelled : V → List ℕ) (behind : V → List ℕ → Type 0)
    (bytes : List ℕ) : Type 0 where
  pub value : V
  pub rest : List ℕ
  pub fit : fits value
  pub follows : behind value rest
  pub is : bytes ≡ spelled value ++ rest

-- so many parts of a kind, one behind another
abbrev pub Repeated : (List ℕ → Type 0) → ℕ → List ℕ → Type 0
Repeated part zero bytes = bytes ≡ []
Repeated part (suc n) bytes = (first rest : List ℕ) × part first × Repeated part n rest × (bytes ≡ first ++ rest)

-- how many parts there are, in a number of the width, and these
abbrev pub Counted : Width → (List ℕ → Type 0) → List ℕ → Type 0
Counted w part = Then (Fits w) (number w) (Repeated part)

-- why a part isn't read: it is only begun, or memory ran out
abbrev pub Stops : Type 0 → TableFault → Type 0
Stops begun Truncated = begun
Stops begun OutOfMemory = Unit {0}
Stops begun BadMagic = ⊥
Stops begun BadVersion = ⊥
Stops begun Trailing = ⊥
Stops begun (OutOfRange section) = ⊥
Stops begun Endless = ⊥

-- a byte by itself
abbrev pub single : ℕ → List ℕ
single byte = byte ∷ []

-- so many bytes
abbrev pub AreBytes : ℕ → List ℕ → Type 0
AreBytes count bytes = (length bytes ≡ count) × All IsByte bytes

-- the bytes of numbers, of one byte and of a width
abbrev pub IsByteText : List ℕ → Type 0
IsByteText = Spells IsByte single

abbrev pub IsNumberText : Width → List ℕ → Type 0
IsNumberText w = Spells (Fits w) (number w)

-- those of a text
abbrev pub IsStringText : List ℕ → Type 0
IsStringText = Spells IsString string

-- those of a rule of the scanner, of the states of a condition, and of a rule of the parser
abbrev pub IsScanRuleText : Width → List ℕ → Type 0
IsScanRuleText w = Spells (ScanRuleFits w) (raw_scan_rule w)

abbrev pub AreStartsText : Width → List ℕ → Type 0
AreStartsText w = Spells (StartsFit w) (raw_starts w)

abbrev pub IsRuleText : Width → List ℕ → Type 0
IsRuleText w = Spells (RuleFits w) (raw_rule w)

-- those of the rows of so many states
abbrev pub IsCombText : Width → ℕ → List ℕ → Type 0
IsCombText w states = Spells (CombFits w states) (raw_comb w)

-- a fault that comes before ranges are looked at
abbrev pub IsEarly : TableFault → Type 0
IsEarly BadMagic = Unit {0}
IsEarly BadVersion = Unit {0}
IsEarly Truncated = Unit {0}
IsEarly Trailing = Unit {0}
IsEarly OutOfMemory = Unit {0}
IsEarly (OutOfRange section) = ⊥
IsEarly Endless = ⊥
