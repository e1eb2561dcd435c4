use Rattle.ly_repair.proofs.ReadLemmas.{costs, not_refused, one_way}
use Rattle.ly_repair.proofs.laws.reads_in_one_way.Goals as goal

pub returns-clause-one : goal.returns-clause-one
returns-clause-one c = one_way

pub returns-clause-not_refused : goal.returns-clause-not_refused
returns-clause-not_refused c = not_refused

pub returns-clause-costs : goal.returns-clause-costs
returns-clause-costs c = λ m stack rest es w r. costs m es stack rest w.last w.left w.leads w.holds r
