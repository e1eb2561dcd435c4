-- The numbers and names of errors.
use Rattle.std.specs.Prelude.{ℕ, List, Option, Some, None, codes}
use Rattle.ly_subset.specs.declared.fault.SubsetFault.{SubsetFault}
use Rattle.ly_subset.specs.declared.fault.SubsetFault.TheVariants.{TooManyStates, OutOfMemory}

-- the error number; OutOfMemory has none
abbrev pub subset_number : SubsetFault → Option ℕ
subset_number TooManyStates = Some 50
subset_number OutOfMemory = None

-- the name of an error
abbrev pub subset_name : SubsetFault → List ℕ
subset_name TooManyStates = codes "TooManyStates"
subset_name OutOfMemory = codes "OutOfMemory"
