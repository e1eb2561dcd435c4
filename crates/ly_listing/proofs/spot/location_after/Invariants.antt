use Rattle.std.proofs.Common.{◌≡◌, ◌≤◌, ◌+◌, take}
use Rattle.std.specs.Prelude.{count_by}
use Rattle.ly_base.specs.Location.{is_newline}
use Rattle.ly_listing.specs.Private.Spot.{column_on}
use Rattle.ly_listing.proofs.spot.location_after.Given as goal

-- the line and the column behind the bytes so far, which grow by no more than these
abbrev pub invariant-loop-byte : goal.invariant-loop-byte
invariant-loop-byte l = record {
  line : l.line ≡ l.fn.location.line + count_by is_newline (take l.byte-index l.bytes);
  column : l.column ≡ column_on l.fn.location.column (take l.byte-index l.bytes);
  line_within : l.line ≤ l.fn.location.line + l.byte-index;
  column_within : l.column ≤ l.fn.location.column + l.byte-index;
}
