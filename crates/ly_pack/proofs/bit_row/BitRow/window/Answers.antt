use Rattle.std.proofs.Common.{◌<◌, ◌%◌, arith}
use Rattle.ly_pack.proofs.BitLemmas.{window-taken}
use Rattle.ly_pack.proofs.bit_row.BitRow.window.Goals as goal

pub returns : goal.returns
returns c i lt =
    let some : 0 < c.args.place % 64 = omega arith in
    window-taken c.args.self.now.words.items c.args.place c.word.result c.word-2.result i (omega arith) c.word.ensures
    c.word-2.ensures lt some
