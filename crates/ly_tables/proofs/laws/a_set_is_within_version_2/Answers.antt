use Rattle.ly_tables.proofs.VersionLemmas.{within_2}
use Rattle.ly_tables.proofs.laws.a_set_is_within_version_2.Goals as goal

pub returns : goal.returns
returns c = within_2
