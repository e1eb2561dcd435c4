use Rattle.std.proofs.Common.{◌∙◌, ap, arith, take, ◌+◌, length-take}
use Rattle.std.proofs.lemmas.List.Sums.{prefix_len-le-length}
use Rattle.ly_base.specs.Bytes.{double_quote}
use Rattle.ly_print.specs.Text.{is_plain}
use Rattle.ly_print.proofs.BlockLemmas.{plain_block}
use Rattle.ly_print.proofs.room.put_plain.Goals as goal

pub returns-clause-bytes : goal.returns-clause-bytes
returns-clause-bytes c = ap (take (c.args.at + c.min.result)) c.put_block.ensures
    ∙ plain_block c.args.room.now c.args.bytes.now c.args.at c.min.result c.if-bytes-lt-BLOCK.false c.requires
    (omega (arith, c.min.ensures, c.plain_run-run.ensures))

pub returns-clause-within : goal.returns-clause-within
returns-clause-within c = let bytes = c.args.bytes.now in omega (
  arith,
  c.min.ensures,
  c.plain_run-run.ensures,
  prefix_len-le-length (is_plain double_quote) (take 16 bytes),
  length-take 16 bytes,
)
