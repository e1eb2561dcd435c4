use Rattle.ly_lexread.proofs.FrontLemmas.{by_test}
use Rattle.ly_lexread.proofs.LineLemmas.{parted}
use Rattle.ly_lexread.proofs.StatementLemmas.{line_ends_by}
use Rattle.ly_lexread.proofs.action.behind_gap_line.Goals as goal

pub returns : goal.returns
returns c =
    let line = c.split_at.result.0.now in
    let end = c.split_at.result.1.now in
    by_test c.is_gap.result c.behind_newline.result c.then_some.result _ _ c.then_some.ensures
    (line_ends_by c.args.text.now line end c.behind_newline.result.now c.is_gap.result
    (parted c.args.text.now line end c.line_length.result c.line_length.ensures.value c.split_at.ensures.front
    c.split_at.ensures.back) c.behind_newline.ensures c.is_gap.ensures)
