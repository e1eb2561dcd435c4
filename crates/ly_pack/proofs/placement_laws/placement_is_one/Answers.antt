use Rattle.ly_pack.proofs.PlacementLemmas.{placement_is_one}
use Rattle.ly_pack.proofs.placement_laws.placement_is_one.Goals as goal

pub returns : goal.returns
returns g c = placement_is_one
