use Rattle.std.proofs.Common.{◌∙◌}
use Rattle.ly_tables.specs.Ranges.{width_of}
use Rattle.ly_tables.proofs.BlockLemmas.{number_written}
use Rattle.ly_tables.proofs.numbers.write_block.Goals as goal

pub loop-i-preserved : goal.loop-i-preserved
loop-i-preserved g c =
    number_written (width_of c.args.version) (g.N.Numbering.code c.args.version) c.args.items.now c.loop-i.i
    c.index-items-i.result c.number.result c.number_size-size.result c.loop-i.bytes c.write_number.new.bytes _ _
    c.number_size-size.ensures.size (c.loop-i.auto.bytes ∙ c.requires.room) c.loop-i-test.true c.index-items-i.is
    c.number.ensures.number c.write_number.ensures c.loop-i.invariant
