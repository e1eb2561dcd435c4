-- The numbers of a table file, as they are kept in memory.
use Rattle.std.specs.Prelude.{map}
use Rattle.ly_tables.specs.RawSet.{RawComb, RawRule, RawScanRule, RawSet, RawStarts}
use Rattle.ly_tables.specs.declared.raw_tables.RawComb as comb
use Rattle.ly_tables.specs.declared.raw_tables.RawRule as rule
use Rattle.ly_tables.specs.declared.raw_tables.RawScanRule as scan
use Rattle.ly_tables.specs.declared.raw_tables.RawStarts as starts
use Rattle.ly_tables.specs.declared.raw_tables.RawTables as tables

abbrev pub scan_rule_raw : scan.RawScanRule → RawScanRule
scan_rule_raw r = record { kind = r.kind; terminal = r.terminal; begin = r.begin; cut = r.cut; len = r.len }

abbrev pub starts_raw : starts.RawStarts → RawStarts
starts_raw c = record { elsewhere = c.elsewhere; at_line = c.at_line }

abbrev pub comb_raw : comb.RawComb → RawComb
comb_raw c = record { bases = c.bases.items; entries = c.entries.items; rows = c.rows.items }

abbrev pub rule_raw : rule.RawRule → RawRule
rule_raw r = record {
  left = r.left;
  body_length = r.body_length;
  kind = r.kind;
  name = r.name.items;
  places = r.places.items;
}

abbrev pub raw_from : tables.RawTables → RawSet
raw_from r = record {
  nonterminals = r.nonterminals;
  terminals = map (λ name. name.items) r.terminals.items;
  literals = r.literals.items;
  scan_rules = map scan_rule_raw r.scan_rules.items;
  conditions = map starts_raw r.conditions.items;
  class_count = r.class_count;
  classes = r.classes.items;
  accepted = r.accepted.items;
  scan_rows = comb_raw r.scan_rows;
  rules = map rule_raw r.rules.items;
  defaults = r.defaults.items;
  actions = comb_raw r.actions;
  gotos = comb_raw r.gotos;
}
