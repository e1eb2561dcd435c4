-- A table file as numbers, before it is known whether they are valid: the fields of its sections, and their bytes.
-- Counts and the lengths of strings alone determine the position of a field.
use Rattle.std.specs.Prelude.{◌≡◌, ℕ, ◌<◌, ◌*◌, ◌^◌, List, ◌∷◌, ◌++◌, All, length, codes}
use Rattle.std.specs.List.{flat_map}
use Rattle.std.specs.Int.{Width, w16, w32, byte_len, to_be_bytes}
use Rattle.ly_tables.specs.Spelling.{number, string}

-- A rule of the scanner: the kind of its return value and its terminal, its condition, the kind and the length of its
-- trailing context.
pub record RawScanRule : Type 0 where
  pub kind : ℕ
  pub terminal : ℕ
  pub begin : ℕ
  pub cut : ℕ
  pub len : ℕ

-- The initial states of a condition.
pub record RawStarts : Type 0 where
  pub elsewhere : ℕ
  pub at_line : ℕ

-- A comb: the bases of its rows, and the entries and the rows of its slots.
pub record RawComb : Type 0 where
  pub bases : List ℕ
  pub entries : List ℕ
  pub rows : List ℕ

-- A rule of the parser: its left side, the length of its body, the kind of its tree, a name, and places.
pub record RawRule : Type 0 where
  pub left : ℕ
  pub body_length : ℕ
  pub kind : ℕ
  pub name : List ℕ
  pub places : List ℕ

-- The content of the sections, from the second on.
pub record RawSet : Type 0 where
  pub nonterminals : ℕ
  pub terminals : List (List ℕ)
  pub literals : List ℕ
  pub scan_rules : List RawScanRule
  pub conditions : List RawStarts
  pub class_count : ℕ
  pub classes : List ℕ
  pub accepted : List ℕ
  pub scan_rows : RawComb
  pub rules : List RawRule
  pub defaults : List ℕ
  pub actions : RawComb
  pub gotos : RawComb

abbrev pub raw_scan_rule : Width → RawScanRule → List ℕ
raw_scan_rule w r = r.kind ∷ number w r.terminal ++ number w r.begin ++ r.cut ∷ number w r.len

abbrev pub raw_starts : Width → RawStarts → List ℕ
raw_starts w c = number w c.elsewhere ++ number w c.at_line

abbrev pub raw_comb : Width → RawComb → List ℕ
raw_comb w c = flat_map (to_be_bytes w32) c.bases ++ to_be_bytes w32 (length c.entries)
    ++ flat_map (number w) c.entries ++ flat_map (number w) c.rows

abbrev pub raw_rule : Width → RawRule → List ℕ
raw_rule w r = number w r.left ++ r.body_length ∷ r.kind ∷ string r.name ++ length r.places ∷ r.places

abbrev pub raw_symbol_sections : Width → RawSet → List ℕ
raw_symbol_sections w r = number w (length r.terminals) ++ number w r.nonterminals ++ flat_map string r.terminals
    ++ flat_map (number w) r.literals

abbrev pub raw_scanner_sections : Width → RawSet → List ℕ
raw_scanner_sections w r = number w (length r.scan_rules) ++ flat_map (raw_scan_rule w) r.scan_rules
    ++ number w (length r.conditions) ++ flat_map (raw_starts w) r.conditions
    ++ number w r.class_count ++ r.classes
    ++ number w (length r.accepted) ++ flat_map (number w) r.accepted
    ++ raw_comb w r.scan_rows

abbrev pub raw_parser_sections : Width → RawSet → List ℕ
raw_parser_sections w r = number w (length r.rules) ++ flat_map (raw_rule w) r.rules
    ++ number w (length r.defaults) ++ flat_map (number w) r.defaults
    ++ raw_comb w r.actions
    ++ raw_comb w r.gotos

-- the file with these numbers
abbrev pub raw_spelling : Width → ℕ → RawSet → List ℕ
raw_spelling w version r = codes "LYTB" ++ to_be_bytes w16 version
    ++ raw_symbol_sections w r ++ raw_scanner_sections w r ++ raw_parser_sections w r

-- a number of the width
abbrev pub Fits : Width → ℕ → Type 0
Fits w n = n < 2 ^ (8 * byte_len w)

abbrev pub IsByte : ℕ → Type 0
IsByte n = n < 256

-- a string: its bytes, and a length of two bytes
abbrev pub IsString : List ℕ → Type 0
IsString bytes = (length bytes < 65536) × All IsByte bytes

pub record ScanRuleFits (w : Width) (r : RawScanRule) : Type 0 where
  pub kind : IsByte r.kind
  pub terminal : Fits w r.terminal
  pub begin : Fits w r.begin
  pub cut : IsByte r.cut
  pub len : Fits w r.len

pub record StartsFit (w : Width) (c : RawStarts) : Type 0 where
  pub elsewhere : Fits w c.elsewhere
  pub at_line : Fits w c.at_line

-- this many bases, and a row for each entry
pub record CombFits (w : Width) (states : ℕ) (c : RawComb) : Type 0 where
  pub count : length c.bases ≡ states
  pub bases : All (Fits w32) c.bases
  pub slots : Fits w32 (length c.entries)
  pub entries : All (Fits w) c.entries
  pub row_count : length c.rows ≡ length c.entries
  pub rows : All (Fits w) c.rows

pub record RuleFits (w : Width) (r : RawRule) : Type 0 where
  pub left : Fits w r.left
  pub body_length : IsByte r.body_length
  pub kind : IsByte r.kind
  pub name : IsString r.name
  pub place_count : IsByte (length r.places)
  pub places : All IsByte r.places

-- Each number fits its field, and lists have the lengths in the file. So the file is read back as these numbers.
pub record IsRawSet (w : Width) (r : RawSet) : Type 0 where
  pub terminal_count : Fits w (length r.terminals)
  pub nonterminals : Fits w r.nonterminals
  pub terminals : All IsString r.terminals
  pub literal_count : length r.literals ≡ 256
  pub literals : All (Fits w) r.literals
  pub scan_rule_count : Fits w (length r.scan_rules)
  pub scan_rules : All (ScanRuleFits w) r.scan_rules
  pub condition_count : Fits w (length r.conditions)
  pub conditions : All (StartsFit w) r.conditions
  pub class_count : Fits w r.class_count
  pub all_classes : length r.classes ≡ 256
  pub classes : All IsByte r.classes
  pub scan_states : Fits w (length r.accepted)
  pub accepted : All (Fits w) r.accepted
  pub scan_rows : CombFits w (length r.accepted) r.scan_rows
  pub rule_count : Fits w (length r.rules)
  pub rules : All (RuleFits w) r.rules
  pub states : Fits w (length r.defaults)
  pub defaults : All (Fits w) r.defaults
  pub actions : CombFits w (length r.defaults) r.actions
  pub gotos : CombFits w (length r.defaults) r.gotos
