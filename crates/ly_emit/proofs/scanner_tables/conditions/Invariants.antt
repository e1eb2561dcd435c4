use Rattle.std.proofs.Common.{◌≡◌, length, map}
use Rattle.ly_emit.specs.Private.Listing.{AreStarts}
use Rattle.ly_tables.specs.Values.{starts_from}
use Rattle.ly_emit.proofs.scanner_tables.conditions.Given as goal

-- it is listed where the conditions before this one begin
abbrev pub invariant-loop-condition : goal.invariant-loop-condition
invariant-loop-condition l = record {
  count : length l.conditions.items ≡ l.condition;
  starts : AreStarts l.dfa (map starts_from l.conditions.items);
}
