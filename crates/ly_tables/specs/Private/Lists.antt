-- The lists that numbers of a table file mean.
use Rattle.std.specs.Prelude.{◌≡◌, map}
use Rattle.std.specs.Int.{Width}
use Rattle.std.specs.Option.{option_map}
use Rattle.ly_tables.specs.Private.Meaning.{counted_meant, default_meant, scan_rule_meant, starts_meant}
use Rattle.ly_tables.specs.RawSet.{RawSet}
use Rattle.ly_tables.specs.Values.{scan_rule_from, starts_from}
use Rattle.ly_tables.specs.declared.conversion.Lists.{Lists}

-- Each list has what its numbers mean.
pub record AreListsMeant (w : Width) (r : RawSet) (l : Lists) : Type 0 where
  pub literals_are : map (λ t. t.0) l.literals.items ≡ r.literals
  pub scan_rules_are : map scan_rule_from l.scan_rules.items ≡ map (scan_rule_meant w) r.scan_rules
  pub conditions_are : map starts_from l.conditions.items ≡ map (starts_meant w) r.conditions
  pub accepted_are : map (option_map (λ p. p.0)) l.accepted.items ≡ map counted_meant r.accepted
  pub defaults_are : map (option_map (λ p. p.0)) l.defaults.items ≡ map default_meant r.defaults
