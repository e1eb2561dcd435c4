-- The sections of a table file in three parts: of the symbols, the scanner and the parser.
use Rattle.std.specs.Prelude.{◌≡◌, ℕ, List, [], All, length, map}
use Rattle.std.specs.Int.{Width}
use Rattle.ly_tables.specs.Private.Parts.{Spells}
use Rattle.ly_tables.specs.Private.RawValues.{comb_raw, rule_raw, scan_rule_raw, starts_raw}
use Rattle.ly_tables.specs.RawSet.{CombFits, Fits, IsByte, IsString, RuleFits, ScanRuleFits, StartsFit}
use Rattle.ly_tables.specs.RawSet.{RawComb, RawRule, RawScanRule, RawSet, RawStarts}
use Rattle.ly_tables.specs.RawSet.{raw_parser_sections, raw_scanner_sections, raw_symbol_sections}
use Rattle.ly_tables.specs.declared.parser_sections.RawParser as parser
use Rattle.ly_tables.specs.declared.scanner_sections.RawScanner as scanner
use Rattle.ly_tables.specs.declared.symbol_sections.RawSymbols as symbols

-- rows of no state
abbrev pub no_rows : RawComb
no_rows = record { bases = []; entries = []; rows = [] }

-- the numbers of the three parts together
abbrev pub together : RawSet → RawSet → RawSet → RawSet
together symbols scanner parser = record {
  nonterminals = symbols.nonterminals;
  terminals = symbols.terminals;
  literals = symbols.literals;
  scan_rules = scanner.scan_rules;
  conditions = scanner.conditions;
  class_count = scanner.class_count;
  classes = scanner.classes;
  accepted = scanner.accepted;
  scan_rows = scanner.scan_rows;
  rules = parser.rules;
  defaults = parser.defaults;
  actions = parser.actions;
  gotos = parser.gotos;
}

-- numbers of symbols alone
abbrev pub of_symbols : ℕ → List (List ℕ) → List ℕ → RawSet
of_symbols nonterminals terminals literals = record {
  nonterminals = nonterminals;
  terminals = terminals;
  literals = literals;
  scan_rules = [];
  conditions = [];
  class_count = 0;
  classes = [];
  accepted = [];
  scan_rows = no_rows;
  rules = [];
  defaults = [];
  actions = no_rows;
  gotos = no_rows;
}

-- of a scanner alone
abbrev pub of_scanner : List RawScanRule → List RawStarts → ℕ → List ℕ → List ℕ → RawComb → RawSet
of_scanner scan_rules conditions class_count classes accepted scan_rows = record {
  nonterminals = 0;
  terminals = [];
  literals = [];
  scan_rules = scan_rules;
  conditions = conditions;
  class_count = class_count;
  classes = classes;
  accepted = accepted;
  scan_rows = scan_rows;
  rules = [];
  defaults = [];
  actions = no_rows;
  gotos = no_rows;
}

-- of a parser alone
abbrev pub of_parser : List RawRule → List ℕ → RawComb → RawComb → RawSet
of_parser rules defaults actions gotos = record {
  nonterminals = 0;
  terminals = [];
  literals = [];
  scan_rules = [];
  conditions = [];
  class_count = 0;
  classes = [];
  accepted = [];
  scan_rows = no_rows;
  rules = rules;
  defaults = defaults;
  actions = actions;
  gotos = gotos;
}

-- the three parts, as they are kept in memory
abbrev pub symbols_raw : symbols.RawSymbols → RawSet
symbols_raw s = of_symbols s.nonterminals (map (λ name. name.items) s.terminals.items) s.literals.items

abbrev pub scanner_raw : scanner.RawScanner → RawSet
scanner_raw s = of_scanner (map scan_rule_raw s.scan_rules.items) (map starts_raw s.conditions.items) s.class_count
    s.classes.items s.accepted.items (comb_raw s.rows)

abbrev pub parser_raw : parser.RawParser → RawSet
parser_raw p = of_parser (map rule_raw p.rules.items) p.defaults.items (comb_raw p.actions) (comb_raw p.gotos)

-- the numbers of the symbols fit
pub record DoSymbolsFit (w : Width) (r : RawSet) : Type 0 where
  pub terminal_count : Fits w (length r.terminals)
  pub nonterminals : Fits w r.nonterminals
  pub terminals : All IsString r.terminals
  pub literal_count : length r.literals ≡ 256
  pub literals : All (Fits w) r.literals

-- those of the scanner do
pub record DoesScannerFit (w : Width) (r : RawSet) : Type 0 where
  pub scan_rule_count : Fits w (length r.scan_rules)
  pub scan_rules : All (ScanRuleFits w) r.scan_rules
  pub condition_count : Fits w (length r.conditions)
  pub conditions : All (StartsFit w) r.conditions
  pub class_count : Fits w r.class_count
  pub all_classes : length r.classes ≡ 256
  pub classes : All IsByte r.classes
  pub scan_states : Fits w (length r.accepted)
  pub accepted : All (Fits w) r.accepted
  pub scan_rows : CombFits w (length r.accepted) r.scan_rows

-- those of the parser do
pub record DoesParserFit (w : Width) (r : RawSet) : Type 0 where
  pub rule_count : Fits w (length r.rules)
  pub rules : All (RuleFits w) r.rules
  pub states : Fits w (length r.defaults)
  pub defaults : All (Fits w) r.defaults
  pub actions : CombFits w (length r.defaults) r.actions
  pub gotos : CombFits w (length r.defaults) r.gotos

-- the bytes of the three parts
abbrev pub AreSymbolsText : Width → List ℕ → Type 0
AreSymbolsText w = Spells (DoSymbolsFit w) (raw_symbol_sections w)

abbrev pub IsScannerText : Width → List ℕ → Type 0
IsScannerText w = Spells (DoesScannerFit w) (raw_scanner_sections w)

abbrev pub IsParserText : Width → List ℕ → Type 0
IsParserText w = Spells (DoesParserFit w) (raw_parser_sections w)
