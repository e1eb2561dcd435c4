use Rattle.ly_pack.proofs.PlacementLemmas.{default_is_one}
use Rattle.ly_pack.proofs.placement_laws.default_is_one.Goals as goal

pub returns : goal.returns
returns c = default_is_one
