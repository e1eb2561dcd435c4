use Rattle.ly_ere.proofs.NameLaws.{name_is_definition}
use Rattle.ly_ere.proofs.laws.name_is_definition.Goals as goal

pub returns : goal.returns
returns c = name_is_definition
