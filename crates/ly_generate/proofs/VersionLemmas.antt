-- Limits that are bounded by a version's sizes are within the counts of its file.
use Rattle.std.proofs.Common.{◌<◌, ◌≤◌, ◌*◌, ◌^◌, ℕ, arith}
use Rattle.std.specs.Int.{byte_len}
use Rattle.ly_base.specs.Limits.{AreBounded, Sizes, sizes_in}
use Rattle.ly_base.specs.declared.version.Version.{Version}
use Rattle.ly_base.specs.declared.version.Version.TheVariants.{V1, V2}
use Rattle.ly_tables.specs.Ranges.{counts_of, width_of}

-- the counts of the version's file allow as much as these limits
pub record AreCounted (v : Version) (limits : Sizes) : Type 0 where
  pub symbols : limits.symbols ≤ (counts_of v).symbols
  pub yacc_rules : limits.yacc_rules ≤ (counts_of v).rules
  pub lex_rules : limits.lex_rules ≤ (counts_of v).rules
  pub body_length : limits.body_length ≤ 255
  pub conditions : limits.conditions ≤ (counts_of v).conditions
  pub name_length : limits.name_length ≤ 255
  pub parser_states : limits.parser_states ≤ (counts_of v).states
  pub scanner_states : limits.scanner_states ≤ (counts_of v).states
  pub total_weight : limits.total_weight < 2 ^ (8 * byte_len (width_of v))

pub counted : (v : Version) (limits : Sizes) → AreBounded (sizes_in v) limits → AreCounted v limits
counted V1 limits b = record {
  symbols = b.symbols;
  yacc_rules = b.yacc_rules;
  lex_rules = b.lex_rules;
  body_length = b.body_length;
  conditions = b.conditions;
  name_length = b.name_length;
  parser_states = b.parser_states;
  scanner_states = b.scanner_states;
  total_weight = let bound : limits.total_weight ≤ 65535 = b.total_weight in
      let lt : limits.total_weight < 65536 = omega (arith, bound) in
      lt;
}
counted V2 limits b = record {
  symbols = b.symbols;
  yacc_rules = b.yacc_rules;
  lex_rules = b.lex_rules;
  body_length = b.body_length;
  conditions = b.conditions;
  name_length = b.name_length;
  parser_states = b.parser_states;
  scanner_states = b.scanner_states;
  total_weight = let bound : limits.total_weight ≤ 1048575 = b.total_weight in
      let lt : limits.total_weight < 4294967296 = omega (arith, bound) in
      lt;
}

-- what a version's sizes bound, version 2's do
pub bounded_in_2 : (v : Version) (limits : Sizes) → AreBounded (sizes_in v) limits → AreBounded (sizes_in V2) limits
bounded_in_2 V1 limits b = record {
  symbols = omega (arith, b.symbols);
  yacc_rules = omega (arith, b.yacc_rules);
  lex_rules = omega (arith, b.lex_rules);
  body_length = b.body_length;
  conditions = b.conditions;
  name_length = b.name_length;
  parser_states = omega (arith, b.parser_states);
  scanner_states = omega (arith, b.scanner_states);
  pattern_weight = omega (arith, b.pattern_weight);
  total_weight = omega (arith, b.total_weight);
}
bounded_in_2 V2 limits b = b

-- a number that is no greater than one below a bound
pub below_too : (a b c : ℕ) → a ≤ b → b < c → a < c
below_too a b c le lt = omega arith
