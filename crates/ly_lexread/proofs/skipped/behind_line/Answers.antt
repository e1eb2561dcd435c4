use Rattle.ly_lexread.proofs.LineLemmas.{parted}
use Rattle.ly_lexread.proofs.skipped.behind_line.Goals as goal

pub returns-clause-these : goal.returns-clause-these
returns-clause-these c = (
  c.split_at.result.0.now,
  c.split_at.result.1.now,
  parted c.args.text.now c.split_at.result.0.now c.split_at.result.1.now c.line_length.result
      c.line_length.ensures.value c.split_at.ensures.front c.split_at.ensures.back,
  c.behind_newline.ensures,
)
