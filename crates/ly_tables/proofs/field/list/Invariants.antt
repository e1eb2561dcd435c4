use Rattle.std.proofs.Common.{◌≡◌, ◌++◌, All, length}
use Rattle.std.specs.List.{flat_map}
use Rattle.ly_tables.specs.Ranges.{width_of}
use Rattle.ly_tables.proofs.field.list.Given as goal

-- the fields that were read, and what is left behind them
abbrev pub invariant-loop-done : goal.invariant-loop-done
invariant-loop-done g l = record {
  count : length l.values.items ≡ l._done;
  fit : All (g.F.Field.fits (width_of l.version)) l.values.items;
  apart : l.left ≡ flat_map (g.F.Field.spelled (width_of l.version)) l.values.items ++ l.behind;
}
