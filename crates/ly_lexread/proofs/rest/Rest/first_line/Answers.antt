use Rattle.ly_base.proofs.ListLemmas.{not_empty}
use Rattle.ly_lexread.proofs.LineLemmas.{parted}
use Rattle.ly_lexread.proofs.rest.Rest.first_line.Goals as goal

pub returns-clause-these : goal.returns-clause-these
returns-clause-these c = (
  not_empty c.is_empty.result c.args.self.bytes.now c.is_empty.ensures c.if-is_empty.false,
  c.split_at.result.1.now,
  parted c.args.self.bytes.now c.split_at.result.0.now c.split_at.result.1.now c.line_length.result
      c.line_length.ensures.value c.split_at.ensures.front c.split_at.ensures.back,
  c.behind_newline-bytes.ensures,
)
