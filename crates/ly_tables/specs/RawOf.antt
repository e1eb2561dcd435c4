-- The numbers in the file of a table set.
use Rattle.std.specs.Prelude.{ℕ, ◌+◌, List, [], ◌∷◌, map, Option, Some, None}
use Rattle.std.specs.Int.{Width}
use Rattle.ly_base.specs.Shape.{Shape, nil, place, node}
use Rattle.ly_base.specs.declared.cut.Cut.{Cut}
use Rattle.ly_base.specs.declared.cut.Cut.TheVariants.{Whole, Head, Tail}
use Rattle.ly_base.specs.declared.scan_action.Emitted.{Emitted}
use Rattle.ly_base.specs.declared.scan_action.Emitted.TheVariants.{Nothing, Terminal, FirstByte}
use Rattle.ly_pack.specs.Machine.{TableRule}
use Rattle.ly_pack.specs.Rows.{Comb}
use Rattle.ly_pack.specs.Values.{action_from}
use Rattle.ly_tables.specs.RawSet.{RawComb, RawRule, RawScanRule, RawSet, RawStarts}
use Rattle.ly_tables.specs.Spelling.{action_number, check_of, next_of, none_of}
use Rattle.ly_tables.specs.TableSet.{ScanRule, Starts, TableSet}

abbrev pub kind_of : Emitted → ℕ
kind_of Nothing = 0
kind_of (Terminal t) = 1
kind_of FirstByte = 2

abbrev pub terminal_of : Emitted → ℕ
terminal_of Nothing = 0
terminal_of (Terminal t) = t.0
terminal_of FirstByte = 0

abbrev pub cut_kind : Cut → ℕ
cut_kind Whole = 0
cut_kind (Head n) = 1
cut_kind (Tail n) = 2

abbrev pub cut_length : Cut → ℕ
cut_length Whole = 0
cut_length (Head n) = n
cut_length (Tail n) = n

-- a number, or the one that represents none
abbrev pub number_or_none : Width → Option ℕ → ℕ
number_or_none w None = none_of w
number_or_none w (Some n) = n

-- counted from 1, with 0 for none
abbrev pub from_one : Option ℕ → ℕ
from_one None = 0
from_one (Some n) = n + 1

-- unchanged, with 0 for none
abbrev pub number_or_zero : Option ℕ → ℕ
number_or_zero None = 0
number_or_zero (Some n) = n

abbrev pub raw_scan_rule_of : Width → ScanRule → RawScanRule
raw_scan_rule_of w r = record {
  kind = kind_of r.action.emits;
  terminal = terminal_of r.action.emits;
  begin = number_or_none w r.action.begin;
  cut = cut_kind r.cut;
  len = cut_length r.cut;
}

abbrev pub raw_starts_of : Width → Starts → RawStarts
raw_starts_of w c = record { elsewhere = number_or_none w c.elsewhere; at_line = number_or_none w c.at_line }

abbrev pub raw_comb_of : {E : Type 0} → Width → (E → ℕ) → Comb E → RawComb
raw_comb_of w code c = record {
  bases = c.bases;
  entries = map (next_of code) c.slots;
  rows = map (check_of w) c.slots;
}

abbrev pub shape_kind : Shape → ℕ
shape_kind nil = 0
shape_kind (place i) = 1
shape_kind (node name places) = 2

abbrev pub shape_name : Shape → List ℕ
shape_name nil = []
shape_name (place i) = []
shape_name (node name places) = name

abbrev pub shape_places : Shape → List ℕ
shape_places nil = []
shape_places (place i) = i ∷ []
shape_places (node name places) = places

abbrev pub raw_rule_of : TableRule → RawRule
raw_rule_of r = record {
  left = r.left;
  body_length = r.body_length;
  kind = shape_kind r.shape;
  name = shape_name r.shape;
  places = shape_places r.shape;
}

abbrev pub raw_of : Width → TableSet → RawSet
raw_of w s = record {
  nonterminals = s.nonterminals;
  terminals = s.terminals;
  literals = s.literals;
  scan_rules = map (raw_scan_rule_of w) s.scan_rules;
  conditions = map (raw_starts_of w) s.conditions;
  class_count = s.class_count;
  classes = s.classes;
  accepted = map from_one s.accepted;
  scan_rows = raw_comb_of w (λ n. n.0) s.scan_rows;
  rules = map raw_rule_of s.rules;
  defaults = map number_or_zero s.defaults;
  actions = raw_comb_of w (λ a. action_number w (action_from a)) s.actions;
  gotos = raw_comb_of w (λ n. n.0) s.gotos;
}
