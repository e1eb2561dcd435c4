-- The greatest sizes that lytab accepts.
use Rattle.std.specs.Prelude.{ℕ, ◌≤◌, min}
use Rattle.ly_base.specs.declared.limits.Limits.TheInside.{Inside}
use Rattle.ly_base.specs.declared.version.Version.{Version}
use Rattle.ly_base.specs.declared.version.Version.TheVariants.{V1, V2}

-- the greatest value of each size
pub record Sizes : Type 0 where
  pub symbols : ℕ
  pub yacc_rules : ℕ
  pub lex_rules : ℕ
  pub body_length : ℕ
  pub conditions : ℕ
  pub name_length : ℕ
  pub parser_states : ℕ
  pub scanner_states : ℕ
  pub pattern_weight : ℕ
  pub total_weight : ℕ

-- the sizes of version 1
abbrev pub version_1 : Sizes
version_1 = record {
  symbols = 4095;
  yacc_rules = 8191;
  lex_rules = 8191;
  body_length = 255;
  conditions = 255;
  name_length = 255;
  parser_states = 16383;
  scanner_states = 16383;
  pattern_weight = 65535;
  total_weight = 65535;
}

-- the sizes of version 2
abbrev pub version_2 : Sizes
version_2 = record {
  symbols = 16383;
  yacc_rules = 131071;
  lex_rules = 131071;
  body_length = 255;
  conditions = 255;
  name_length = 255;
  parser_states = 262143;
  scanner_states = 262143;
  pattern_weight = 1048575;
  total_weight = 1048575;
}

-- the sizes of a version of the table file
abbrev pub sizes_in : Version → Sizes
sizes_in V1 = version_1
sizes_in V2 = version_2

-- no size is above the other's
pub record AreBounded (most sizes : Sizes) : Type 0 where
  pub symbols : sizes.symbols ≤ most.symbols
  pub yacc_rules : sizes.yacc_rules ≤ most.yacc_rules
  pub lex_rules : sizes.lex_rules ≤ most.lex_rules
  pub body_length : sizes.body_length ≤ most.body_length
  pub conditions : sizes.conditions ≤ most.conditions
  pub name_length : sizes.name_length ≤ most.name_length
  pub parser_states : sizes.parser_states ≤ most.parser_states
  pub scanner_states : sizes.scanner_states ≤ most.scanner_states
  pub pattern_weight : sizes.pattern_weight ≤ most.pattern_weight
  pub total_weight : sizes.total_weight ≤ most.total_weight

-- the lesser of each size
abbrev pub least_of : Sizes → Sizes → Sizes
least_of s t = record {
  symbols = min s.symbols t.symbols;
  yacc_rules = min s.yacc_rules t.yacc_rules;
  lex_rules = min s.lex_rules t.lex_rules;
  body_length = min s.body_length t.body_length;
  conditions = min s.conditions t.conditions;
  name_length = min s.name_length t.name_length;
  parser_states = min s.parser_states t.parser_states;
  scanner_states = min s.scanner_states t.scanner_states;
  pattern_weight = min s.pattern_weight t.pattern_weight;
  total_weight = min s.total_weight t.total_weight;
}

abbrev pub sizes_of : Inside → Sizes
sizes_of l = record {
  symbols = l.symbols;
  yacc_rules = l.yacc_rules;
  lex_rules = l.lex_rules;
  body_length = l.body_length;
  conditions = l.conditions;
  name_length = l.name_length;
  parser_states = l.parser_states;
  scanner_states = l.scanner_states;
  pattern_weight = l.pattern_weight;
  total_weight = l.total_weight;
}

abbrev pub inside_of : Sizes → Inside
inside_of s = record {
  symbols = s.symbols;
  yacc_rules = s.yacc_rules;
  lex_rules = s.lex_rules;
  body_length = s.body_length;
  conditions = s.conditions;
  name_length = s.name_length;
  parser_states = s.parser_states;
  scanner_states = s.scanner_states;
  pattern_weight = s.pattern_weight;
  total_weight = s.total_weight;
}
