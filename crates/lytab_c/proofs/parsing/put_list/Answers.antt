use Rattle.std.proofs.Common.{◌∙◌, ◌++◌, ap, arith, drop, length, take}
use Rattle.std.proofs.Math.ListN.{set}
use Rattle.lytab_c.proofs.PartLemmas.{ends_within, part_put}
use Rattle.lytab_c.specs.Parsing.{listed}
use Rattle.ly_places.specs.declared.part.Part as tree
use Rattle.ly_places.specs.declared.part.PartKind.TheVariants.{Nothing}
use Rattle.lytab_c.proofs.parsing.put_list.Goals as goal

pub at-requires : goal.at-requires
at-requires c =
    let none : tree.Part = record { kind = Nothing; extent = record { start = 0; end = 0 }; parts = 0 } in
    omega (
      arith,
      ends_within (length c.args.list.now) 0 c.loop-index.index c.args.list.now none c.requires.ends
          c.loop-index-test.true,
    )

pub loop-index-preserved : goal.loop-index-preserved
loop-index-preserved c =
    let i = c.loop-index.index in
    let none : tree.Part = record { kind = Nothing; extent = record { start = 0; end = 0 }; parts = 0 } in
    ap (λ block. set block i c.at.result) c.loop-index.invariant
    ∙ (ap (λ p. set (listed 0 (take i c.args.list.now) ++ drop i c.args.block.now) i p) c.at.ensures
    ∙ part_put i c.args.list.now c.args.block.now none c.loop-index-test.true c.requires.room)
