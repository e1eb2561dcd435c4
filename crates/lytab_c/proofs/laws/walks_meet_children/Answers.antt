use Rattle.lytab_c.proofs.WalkLemmas.{walks}
use Rattle.lytab_c.proofs.laws.walks_meet_children.Goals as goal

pub returns : goal.returns
returns c parts at p e ts h = walks parts at p e ts h
