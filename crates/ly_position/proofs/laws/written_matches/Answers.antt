use Rattle.ly_position.proofs.WrittenLemmas.{written_matches}
use Rattle.ly_position.proofs.laws.written_matches.Goals as goal

pub returns : goal.returns
returns c = written_matches
