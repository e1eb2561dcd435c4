use Rattle.std.proofs.Common.{◌≡◌, map, take}
use Rattle.ly_position.specs.Private.Program.{counted}
use Rattle.ly_position.proofs.program.sizes.Given as goal

abbrev pub invariant-loop-number : goal.invariant-loop-number
invariant-loop-number l = l.sizes.items ≡ map counted (take l.number l.plain)
