use Rattle.ly_join.proofs.joining.specify.Goals as goal

pub returns-clause-ok : goal.returns-clause-ok
returns-clause-ok c = rw c.in_ok-specification.ensures c.in_ok-contents.ensures.ok
