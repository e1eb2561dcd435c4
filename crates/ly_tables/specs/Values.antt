-- Table sets, as contracts see them.
use Rattle.std.specs.Prelude.{map}
use Rattle.std.specs.Option.{option_map}
use Rattle.ly_base.specs.declared.version.Version.TheVariants.{V2}
use Rattle.ly_pack.specs.Steady.{IsSteady}
use Rattle.ly_pack.specs.Values.{rule_from}
use Rattle.ly_tables.specs.Ranges.{IsWithinVersion}
use Rattle.ly_tables.specs.TableSet.{ScanRule, Starts, TableSet, machine_of}
use Rattle.ly_tables.specs.declared.scan_rule.ScanRule as scan
use Rattle.ly_scan.specs.declared.starts.Starts as start
use Rattle.ly_tables.specs.declared.table_parts.TableParts as parts

abbrev pub scan_rule_from : scan.ScanRule → ScanRule
scan_rule_from r = record { action = r.action; cut = r.cut }

abbrev pub starts_from : start.Starts → Starts
starts_from c = record { elsewhere = option_map (λ s. s.0) c.elsewhere; at_line = option_map (λ s. s.0) c.at_line }

-- the set with these parts
abbrev pub set_of : parts.TableParts → TableSet
set_of p = record {
  terminals = map (λ name. name.items) p.terminals.items;
  nonterminals = p.nonterminals;
  literals = map (λ t. t.0) p.literals.items;
  scan_rules = map scan_rule_from p.scan_rules.items;
  conditions = map starts_from p.conditions.items;
  class_count = p.class_count;
  classes = p.classes.items;
  accepted = map (option_map (λ p. p.0)) p.accepted.items;
  scan_rows = p.scan_rows;
  rules = map rule_from p.rules.items;
  defaults = map (option_map (λ p. p.0)) p.defaults.items;
  actions = p.actions;
  gotos = p.gotos;
}

-- the guarantee of a set's type: it is within the ranges of version 2, and each run of its parser's tables ends
abbrev pub IsWithinAndSteady : TableSet → Type 0
IsWithinAndSteady s = IsWithinVersion V2 s × IsSteady (machine_of s)
