use Rattle.std.proofs.Common.{arith, refl, rules, get_or, nat_lt}
use Rattle.std.proofs.lemmas.Bool.{ltb-false, ltb-true}
use Rattle.std.proofs.lemmas.List.Sorted.{IsPartitionPoint-from_clause}
use Rattle.ly_pack.proofs.CellLemmas.{rising_parts}
use Rattle.ly_pack.proofs.dense.place_of.Goals as goal

pub returns-then-are_before-clause-parted : goal.returns-then-are_before-clause-parted
returns-then-are_before-clause-parted g c = (
  λ k d from lt. c.if-are_before.ensures.0 refl k d lt,
  λ k d from lt. absurd (omega (arith, from, lt)),
)

pub returns-clause-parted : goal.returns-clause-parted
returns-clause-parted g c =
    let so = IsPartitionPoint-from_clause (λ x. nat_lt x.column c.args.column) c.args.cells.now
    c.partition_point.result c.partition_point.ensures.partitioned
    (rising_parts c.args.cells.now c.args.column c.requires) (λ a r f' k. search rules) in (
      λ k d from lt. ltb-true (get_or c.args.cells.now k d).column c.args.column (so.0 k d from lt),
      λ k d from lt. ltb-false (get_or c.args.cells.now k d).column c.args.column (so.1 k d from lt),
    )
