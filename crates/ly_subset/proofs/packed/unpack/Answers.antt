use Rattle.ly_subset.proofs.PackedLemmas.{words_of_blocks}
use Rattle.ly_subset.proofs.packed.unpack.Goals as goal

pub unpack_blocks-requires : goal.unpack_blocks-requires
unpack_blocks-requires c = words_of_blocks c.args.row.now c.in-Some.pairs.now c.in-Some.kind.now
    c.in-Some.ensures.cases.0 c.if-kind-eq0.true c.requires
