use Rattle.std.proofs.Common.{append_assoc}
use Rattle.ly_print.proofs.room.put_no_rule_line.Goals as goal

pub returns-clause-bytes : goal.returns-clause-bytes
returns-clause-bytes c = rw (
  c.put.ensures.byte,
  c.put_bytes-counted.ensures.bytes,
  c.put_bytes-said.ensures.bytes,
  c.as_bytes.ensures.value,
  c.format.ensures.text,
) (simp append_assoc)
