use Rattle.ly_pack.specs.Private.Bits.{AreTakenBelow}
use Rattle.ly_pack.specs.Private.Placing.{AreLaid, AreTied, table_of}
use Rattle.ly_pack.proofs.placing.place_rows.Given as goal

abbrev pub invariant-loop-row : goal.invariant-loop-row
invariant-loop-row g l = record {
  laid : AreLaid (table_of l.dense) l.row-items l.row-index l.bases.items l.placing.slots.items;
  tied : AreTied l.placing.used.words.items l.placing.slots.items;
  refused : AreTakenBelow l.placing.used.words.items l.earlier.bases.entries;
}
