-- The ranges of a table file, section by section.
use Rattle.std.specs.Prelude.{◌≡◌, ◌≢◌, ◌⊎◌, ℕ, ◌+◌, ◌<◌, ◌≤◌, [], length, All, AllPairs}
use Rattle.std.specs.Prelude.{Some, slice_get, codes}
use Rattle.std.specs.Int.{Width}
use Rattle.ly_tables.specs.Ranges.{Counts, IsNameLong}
use Rattle.ly_tables.specs.RawSet.{RawComb, RawRule, RawScanRule, RawSet}
use Rattle.ly_tables.specs.Spelling.{least_reduction, least_shift, none_of}

-- two or more terminals, the first two `$end` and `$undef`; a nonterminal; and no more symbols than allowed
pub record AreSymbolsWithin (counts : Counts) (r : RawSet) : Type 0 where
  pub terminals : 2 ≤ length r.terminals
  pub nonterminals : 1 ≤ r.nonterminals
  pub symbols : length r.terminals + r.nonterminals + 1 ≤ counts.symbols
  pub names : All IsNameLong r.terminals
  pub end : slice_get r.terminals 0 ≡ Some (codes "$end")
  pub undefined : slice_get r.terminals 1 ≡ Some (codes "$undef")

-- a terminal other than the end
abbrev pub IsToken : RawSet → ℕ → Type 0
IsToken r t = (1 ≤ t) × (t < length r.terminals)

-- none, or a number below a bound
abbrev pub IsNoneOr : Width → ℕ → ℕ → Type 0
IsNoneOr w bound n = (n ≡ none_of w) ⊎ (n < bound)

-- A rule of the scanner returns nothing, a terminal, or that of the first byte. It has no trailing context, or one
-- whose head or tail has a fixed length.
pub record IsScanRuleWithin (w : Width) (r : RawSet) (x : RawScanRule) : Type 0 where
  pub kind : x.kind ≤ 2
  pub terminal : x.kind ≡ 1 → IsToken r x.terminal
  pub no_terminal : x.kind ≢ 1 → x.terminal ≡ 0
  pub begin : IsNoneOr w (length r.conditions) x.begin
  pub cut : x.cut ≤ 2
  pub whole : x.cut ≡ 0 → x.len ≡ 0
  pub head : x.cut ≡ 1 → 1 ≤ x.len

-- not too many, each of them within its ranges
abbrev pub AreScanRulesWithin : Width → Counts → RawSet → Type 0
AreScanRulesWithin w counts r = (length r.scan_rules ≤ counts.rules) × All (IsScanRuleWithin w r) r.scan_rules

-- one condition or more, whose states exist
pub record AreConditionsWithin (w : Width) (counts : Counts) (r : RawSet) : Type 0 where
  pub some : 1 ≤ length r.conditions
  pub count : length r.conditions ≤ counts.conditions
  pub states : All (λ c. IsNoneOr w (length r.accepted) c.elsewhere × IsNoneOr w (length r.accepted) c.at_line)
      r.conditions

pub record AreClassesWithin (r : RawSet) : Type 0 where
  pub some : 1 ≤ r.class_count
  pub count : r.class_count ≤ 256
  pub classes : All (λ c. c < r.class_count) r.classes

-- the rules of scanner states, counted from 1, exist
abbrev pub AreAcceptedWithin : Counts → RawSet → Type 0
AreAcceptedWithin counts r = (length r.accepted ≤ counts.states) × All (λ p. p ≤ length r.scan_rules) r.accepted

-- a slot is within its row, in some column, with an entry that is allowed there; or it is free, and 0
abbrev pub IsSlotWithin : Width → ℕ → (ℕ → ℕ → Type 0) → RawComb → ℕ → ℕ → ℕ → Type 0
IsSlotWithin w columns legal c slot entry row = ((row ≡ none_of w) × (entry ≡ 0))
    ⊎ ((base column : ℕ) × (slice_get c.bases row ≡ Some base) × (column < columns) × (slot ≡ base + column)
    × legal column entry)

-- a comb of this width, whose entries are legal for their columns
pub record AreRowsWithin (w : Width) (columns : ℕ) (legal : ℕ → ℕ → Type 0) (c : RawComb) : Type 0 where
  pub bases : All (λ base. base ≤ length c.entries) c.bases
  pub slots : (slot entry row : ℕ) → slice_get c.entries slot ≡ Some entry → slice_get c.rows slot ≡ Some row
      → IsSlotWithin w columns legal c slot entry row

-- the tree of a rule uses places of its body, each at most once, and only a constructor has a name
abbrev pub IsShapeWithin : RawRule → Type 0
IsShapeWithin x = ((x.kind ≡ 0) × (x.body_length ≡ 0) × (x.name ≡ []) × (x.places ≡ []))
    ⊎ ((x.kind ≡ 1) × (x.name ≡ []) × (length x.places ≡ 1)) ⊎ ((x.kind ≡ 2) × IsNameLong x.name)

pub record IsRuleWithin (r : RawSet) (x : RawRule) : Type 0 where
  pub left : x.left < r.nonterminals
  pub shape : IsShapeWithin x
  pub places : All (λ i. (1 ≤ i) × (i ≤ x.body_length)) x.places
  pub apart : AllPairs (λ i j. i ≡ j → ⊥) x.places

-- one rule or more
pub record AreRulesWithin (counts : Counts) (r : RawSet) : Type 0 where
  pub some : 1 ≤ length r.rules
  pub count : length r.rules ≤ counts.rules
  pub rules : All (IsRuleWithin r) r.rules

-- one state or more; default rules, with 0 for none, exist
pub record AreDefaultsWithin (counts : Counts) (r : RawSet) : Type 0 where
  pub some : 1 ≤ length r.defaults
  pub count : length r.defaults ≤ counts.states
  pub defaults : All (λ p. p ≤ length r.rules) r.defaults

-- An action: an error; accepting, only before the end; a shift, never of the end; or a reduction.
abbrev pub IsActionWithin : Width → RawSet → ℕ → ℕ → Type 0
IsActionWithin w r column n = (n ≡ 0) ⊎ ((n ≡ 1) × (column ≡ 0))
    ⊎ ((s : ℕ) × (n ≡ least_shift w + s) × (s < length r.defaults) × (1 ≤ column))
    ⊎ ((p : ℕ) × (n ≡ least_reduction w + p) × (1 ≤ p) × (p ≤ length r.rules))

-- the sections after the header, in their order
pub data Section : Type 0 where
  symbol_section : Section
  literal_section : Section
  scan_rule_section : Section
  condition_section : Section
  class_section : Section
  scan_state_section : Section
  scan_row_section : Section
  rule_section : Section
  state_section : Section
  action_section : Section
  goto_section : Section

-- the number of a section; the header's is 1
abbrev pub section_number : Section → ℕ
section_number symbol_section = 2
section_number literal_section = 3
section_number scan_rule_section = 4
section_number condition_section = 5
section_number class_section = 6
section_number scan_state_section = 7
section_number scan_row_section = 8
section_number rule_section = 9
section_number state_section = 10
section_number action_section = 11
section_number goto_section = 12

-- the numbers of a section are within its ranges
abbrev pub IsSectionWithin : Width → Counts → RawSet → Section → Type 0
IsSectionWithin w counts r symbol_section = AreSymbolsWithin counts r
IsSectionWithin w counts r literal_section = All (IsToken r) r.literals
IsSectionWithin w counts r scan_rule_section = AreScanRulesWithin w counts r
IsSectionWithin w counts r condition_section = AreConditionsWithin w counts r
IsSectionWithin w counts r class_section = AreClassesWithin r
IsSectionWithin w counts r scan_state_section = AreAcceptedWithin counts r
IsSectionWithin w counts r scan_row_section
    = AreRowsWithin w r.class_count (λ column s. s < length r.accepted) r.scan_rows
IsSectionWithin w counts r rule_section = AreRulesWithin counts r
IsSectionWithin w counts r state_section = AreDefaultsWithin counts r
IsSectionWithin w counts r action_section = AreRowsWithin w (length r.terminals) (IsActionWithin w r) r.actions
IsSectionWithin w counts r goto_section
    = AreRowsWithin w r.nonterminals (λ column s. s < length r.defaults) r.gotos

-- all sections are within their ranges
abbrev pub AreSectionsWithin : Width → Counts → RawSet → Type 0
AreSectionsWithin w counts r = (section : Section) → IsSectionWithin w counts r section

-- the first section that isn't within its ranges
pub record IsFirstOut (w : Width) (counts : Counts) (r : RawSet) (section : Section) : Type 0 where
  pub out : IsSectionWithin w counts r section → ⊥
  pub first : (other : Section) → section_number other < section_number section
      → IsSectionWithin w counts r other
