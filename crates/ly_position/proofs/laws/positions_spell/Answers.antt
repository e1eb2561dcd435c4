use Rattle.ly_position.proofs.SpotLemmas.{positions_spell}
use Rattle.ly_position.proofs.laws.positions_spell.Goals as goal

pub returns : goal.returns
returns c = positions_spell
