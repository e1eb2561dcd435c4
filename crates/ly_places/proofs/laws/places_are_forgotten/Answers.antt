use Rattle.ly_places.proofs.PlaceLemmas.{forget}
use Rattle.ly_places.proofs.laws.places_are_forgotten.Goals as goal

pub returns : goal.returns
returns c = forget
