use Rattle.ly_places.proofs.PlaceLemmas.{nested}
use Rattle.ly_places.proofs.laws.parts_are_nested.Goals as goal

pub returns : goal.returns
returns c = nested
