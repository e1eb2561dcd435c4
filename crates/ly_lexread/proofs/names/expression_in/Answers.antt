use Rattle.ly_lexread.proofs.NameLemmas.{extent_is}
use Rattle.ly_lexread.proofs.names.expression_in.Goals as goal

pub returns : goal.returns
returns c = extent_is c.args.behind.now c.expression_length.result c.expression_length.ensures.only
    c.split_at.result.0.now c.split_at.result.1.now c.split_at.ensures.front c.split_at.ensures.back
    c.are_blanks.result c.are_blanks.ensures
