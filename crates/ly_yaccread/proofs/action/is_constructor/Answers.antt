use Rattle.ly_yaccread.proofs.PlaceLemmas.{no_name, whole_name}
use Rattle.ly_yaccread.proofs.action.is_constructor.Goals as goal

pub returns-in-Some : goal.returns-in-Some
returns-in-Some c = whole_name c.args.name.now c.in-Some._name.now c.in-Some.rest.now c.is_empty.result
    c.in-Some.ensures
    c.is_empty.ensures

pub returns-in-None : goal.returns-in-None
returns-in-None c = no_name c.args.name.now c.in-None.ensures
