-- The numbers and names of errors.
use Rattle.std.specs.Prelude.{ℕ, List, Option, Some, None, codes}
use Rattle.ly_position.specs.declared.fault.PosFault.{PosFault}
use Rattle.ly_position.specs.declared.fault.PosFault.TheVariants.{TooManyPositions, OutOfMemory}

-- the error number; OutOfMemory has none
abbrev pub position_number : PosFault → Option ℕ
position_number TooManyPositions = Some 51
position_number OutOfMemory = None

-- the name of an error
abbrev pub position_name : PosFault → List ℕ
position_name TooManyPositions = codes "TooManyPositions"
position_name OutOfMemory = codes "OutOfMemory"
