use Rattle.ly_lexread.proofs.NameLemmas.{all_blank_behind, none_behind}
use Rattle.ly_lexread.proofs.defined.definition_on.Goals as goal

pub returns-in_err-text : goal.returns-in_err-text
returns-in_err-text c = rw c.from_residual-in_err-text.ensures (none_behind c.args.line.now c.in_ok-name.name.now
    c.in_ok-name.behind.now c.in_ok-name.ensures c.in_err-text.ensures.these)

pub returns-then-is_empty : goal.returns-then-is_empty
returns-then-is_empty c = all_blank_behind c.args.line.now c.in_ok-name.name.now c.in_ok-name.behind.now
    c.in_ok-text.text.now c.in_ok-name.ensures c.in_ok-text.ensures.these c.if-is_empty.ensures
