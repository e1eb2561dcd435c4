use Rattle.ly_lexread.proofs.LineLemmas.{parted}
use Rattle.ly_lexread.proofs.rest.Rest.line_bytes.Goals as goal

pub returns : goal.returns
returns c = (
  c.split_at.result.1.now,
  parted c.args.self.bytes.now c.split_at.result.0.now c.split_at.result.1.now c.line_length.result
      c.line_length.ensures.value c.split_at.ensures.front c.split_at.ensures.back,
)
