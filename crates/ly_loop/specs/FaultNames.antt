-- The numbers and the names of the errors of the loop check.
use Rattle.std.specs.Prelude.{ℕ, List, Option, Some, None, codes}
use Rattle.ly_loop.specs.declared.fault.LoopFault.{LoopFault}
use Rattle.ly_loop.specs.declared.fault.LoopFault.TheVariants.{Endless, OutOfMemory}

-- an error's number; out of memory has none
abbrev pub loop_number : LoopFault → Option ℕ
loop_number (Endless below top token) = Some 70
loop_number OutOfMemory = None

-- an error's name
abbrev pub loop_name : LoopFault → List ℕ
loop_name (Endless below top token) = codes "Endless"
loop_name OutOfMemory = codes "OutOfMemory"
