use Rattle.ly_position.proofs.FullLemmas.{sound_has_all}
use Rattle.ly_position.proofs.laws.sound_has_all.Goals as goal

pub returns : goal.returns
returns c = sound_has_all
