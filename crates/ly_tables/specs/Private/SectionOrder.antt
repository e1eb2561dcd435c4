-- The sections of a table file, one behind another.
use Rattle.std.specs.Prelude.{◌≡◌, ℕ, ◌<◌}
use Rattle.ly_base.specs.declared.version.Version.{Version}
use Rattle.ly_tables.specs.Ranges.{counts_of, width_of}
use Rattle.ly_tables.specs.RawSections.{AreSectionsWithin, IsFirstOut, IsSectionWithin, Section, section_number}
use Rattle.ly_tables.specs.RawSections.{action_section, class_section, condition_section, goto_section}
use Rattle.ly_tables.specs.RawSections.{literal_section, rule_section, scan_row_section, scan_rule_section}
use Rattle.ly_tables.specs.RawSections.{scan_state_section, state_section, symbol_section}
use Rattle.ly_tables.specs.RawSet.{IsRawSet, RawSet}
use Rattle.ly_tables.specs.declared.section.Section as code
use Rattle.ly_tables.specs.declared.section.Section.TheVariants.{Accepted, Actions, Classes, Conditions, Defaults}
use Rattle.ly_tables.specs.declared.section.Section.TheVariants.{Gotos, Literals, Rules, ScanRows, ScanRules, Symbols}

abbrev pub section_from : code.Section → Section
section_from Symbols = symbol_section
section_from Literals = literal_section
section_from ScanRules = scan_rule_section
section_from Conditions = condition_section
section_from Classes = class_section
section_from Accepted = scan_state_section
section_from ScanRows = scan_row_section
section_from Rules = rule_section
section_from Defaults = state_section
section_from Actions = action_section
section_from Gotos = goto_section

-- the numbers fit those of the version
abbrev pub AreFileNumbers : Version → RawSet → Type 0
AreFileNumbers v r = IsRawSet (width_of v) r

-- all sections are within the ranges of the version
abbrev pub AreAllWithin : Version → RawSet → Type 0
AreAllWithin v r = AreSectionsWithin (width_of v) (counts_of v) r

-- the sections whose numbers are below a bound are within their ranges
abbrev pub AreWithinBefore : Version → RawSet → ℕ → Type 0
AreWithinBefore v r bound = (s : Section) → section_number s < bound
    → IsSectionWithin (width_of v) (counts_of v) r s

-- the number is that of the first section out of its ranges
abbrev pub IsFirstNumber : Version → RawSet → ℕ → Type 0
IsFirstNumber v r n = (s : Section) × (n ≡ section_number s) × IsFirstOut (width_of v) (counts_of v) r s
