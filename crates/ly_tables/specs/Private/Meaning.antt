-- What the numbers of a table file mean, where they are within their ranges.
use Rattle.std.specs.Prelude.{ℕ, ◌-◌, List, length, map, Option, Some, None, nat_eq, nat_lt, if◌then◌else◌}
use Rattle.std.specs.Prelude.{slice_index}
use Rattle.std.specs.Int.{Width}
use Rattle.std.specs.List.{zip}
use Rattle.ly_base.specs.Shape.{Shape, nil, place, node}
use Rattle.ly_base.specs.declared.cut.Cut.{Cut}
use Rattle.ly_base.specs.declared.cut.Cut.TheVariants.{Whole, Head, Tail}
use Rattle.ly_base.specs.declared.numbers.StateNo.{StateNo}
use Rattle.ly_base.specs.declared.scan_action.Emitted.{Emitted}
use Rattle.ly_base.specs.declared.scan_action.Emitted.TheVariants.{Nothing, Terminal, FirstByte}
use Rattle.ly_pack.specs.Machine.{TableRule}
use Rattle.ly_pack.specs.Rows.{Comb, Used}
use Rattle.ly_pack.specs.declared.action.TableAction as code
use Rattle.ly_pack.specs.declared.action.TableAction.TheVariants.{Shift, Reduce, Accept, Error}
use Rattle.ly_tables.specs.RawSet.{RawComb, RawRule, RawScanRule, RawSet, RawStarts}
use Rattle.ly_tables.specs.Spelling.{least_reduction, least_shift, none_of}
use Rattle.ly_tables.specs.TableSet.{ScanRule, Starts, TableSet}

-- the greatest number of the width means none
abbrev pub number_meant : Width → ℕ → Option ℕ
number_meant w n = if nat_eq n (none_of w) then None else Some n

-- 0 means none, and else it is counted from 1
abbrev pub counted_meant : ℕ → Option ℕ
counted_meant n = if nat_eq n 0 then None else Some (n - 1)

-- 0 means none
abbrev pub default_meant : ℕ → Option ℕ
default_meant n = if nat_eq n 0 then None else Some n

abbrev pub emitted_meant : ℕ → ℕ → Emitted
emitted_meant kind terminal = if nat_eq kind 0 then Nothing
    else (if nat_eq kind 1 then Terminal (record { 0 = terminal }) else FirstByte)

abbrev pub cut_meant : ℕ → ℕ → Cut
cut_meant kind len = if nat_eq kind 0 then Whole else (if nat_eq kind 1 then Head len else Tail len)

abbrev pub scan_rule_meant : Width → RawScanRule → ScanRule
scan_rule_meant w r = record {
  action = record { begin = number_meant w r.begin; emits = emitted_meant r.kind r.terminal };
  cut = cut_meant r.cut r.len;
}

abbrev pub starts_meant : Width → RawStarts → Starts
starts_meant w c = record { elsewhere = number_meant w c.elsewhere; at_line = number_meant w c.at_line }

abbrev pub state_meant : ℕ → StateNo
state_meant n = record { 0 = n }

-- shifts have the greatest bit, reductions the next
abbrev pub action_meant : Width → ℕ → code.TableAction
action_meant w n = if nat_lt n (least_shift w) then (if nat_lt n (least_reduction w) then (if nat_eq n 0 then Error
    else Accept) else Reduce (record { 0 = n - least_reduction w })) else Shift (record { 0 = n - least_shift w })

-- a slot of no row is free
abbrev pub slot_meant : {E : Type 0} → Width → (ℕ → E) → ℕ → ℕ → Option (Used E)
slot_meant w meant entry row = if nat_eq row (none_of w) then None else Some (record { row = row; entry = meant entry })

abbrev pub slots_meant : {E : Type 0} → Width → (ℕ → E) → RawComb → List (Option (Used E))
slots_meant w meant c = map (λ p. slot_meant w meant p.0 p.1) (zip c.entries c.rows)

abbrev pub comb_meant : {E : Type 0} → Width → (ℕ → E) → ℕ → RawComb → Comb E
comb_meant w meant columns c = record { width = columns; bases = c.bases; slots = slots_meant w meant c }

abbrev pub shape_meant : RawRule → Shape
shape_meant x = if nat_eq x.kind 0 then nil
    else (if nat_eq x.kind 1 then place (slice_index x.places 0) else node x.name x.places)

abbrev pub rule_meant : RawRule → TableRule
rule_meant x = record { left = x.left; body_length = x.body_length; shape = shape_meant x }

abbrev pub set_meant : Width → RawSet → TableSet
set_meant w r = record {
  terminals = r.terminals;
  nonterminals = r.nonterminals;
  literals = r.literals;
  scan_rules = map (scan_rule_meant w) r.scan_rules;
  conditions = map (starts_meant w) r.conditions;
  class_count = r.class_count;
  classes = r.classes;
  accepted = map counted_meant r.accepted;
  scan_rows = comb_meant w state_meant r.class_count r.scan_rows;
  rules = map rule_meant r.rules;
  defaults = map default_meant r.defaults;
  actions = comb_meant w (action_meant w) (length r.terminals) r.actions;
  gotos = comb_meant w state_meant r.nonterminals r.gotos;
}
