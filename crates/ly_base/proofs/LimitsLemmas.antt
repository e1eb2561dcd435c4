-- Lemmas on limits.
use Rattle.std.proofs.Common.{◌≡◌, refl}
use Rattle.std.proofs.Math.Nat.{min-eq_left}
use Rattle.ly_base.specs.Limits.{least_of, version_1, AreBounded, Sizes}

-- limits that are bounded stay as they are
pub least_of-bounded : (most sizes : Sizes) → AreBounded most sizes → least_of sizes most ≡ sizes
least_of-bounded most sizes b = λ i. record {
  symbols = min-eq_left b.symbols i;
  yacc_rules = min-eq_left b.yacc_rules i;
  lex_rules = min-eq_left b.lex_rules i;
  body_length = min-eq_left b.body_length i;
  conditions = min-eq_left b.conditions i;
  name_length = min-eq_left b.name_length i;
  parser_states = min-eq_left b.parser_states i;
  scanner_states = min-eq_left b.scanner_states i;
  pattern_weight = min-eq_left b.pattern_weight i;
  total_weight = min-eq_left b.total_weight i;
}

-- those of version 1 are within version 1
pub within_version_1 : least_of version_1 version_1 ≡ version_1
within_version_1 = refl
