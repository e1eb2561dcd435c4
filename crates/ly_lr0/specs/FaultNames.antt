-- The numbers and the names of the errors of LR(0) automata.
use Rattle.std.specs.Prelude.{ℕ, List, Option, Some, None, codes}
use Rattle.ly_lr0.specs.declared.fault.Lr0Fault.{Lr0Fault}
use Rattle.ly_lr0.specs.declared.fault.Lr0Fault.TheVariants.{TooManyStates, OutOfMemory}

-- an error's number; out of memory has none
abbrev pub lr0_number : Lr0Fault → Option ℕ
lr0_number TooManyStates = Some 61
lr0_number OutOfMemory = None

-- an error's name
abbrev pub lr0_name : Lr0Fault → List ℕ
lr0_name TooManyStates = codes "TooManyStates"
lr0_name OutOfMemory = codes "OutOfMemory"
