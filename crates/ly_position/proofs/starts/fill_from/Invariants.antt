use Rattle.std.proofs.Common.{◌≡◌, Some, take}
use Rattle.std.specs.Prelude.{slice_get}
use Rattle.ly_position.proofs.SetLemmas.{Puts}
use Rattle.ly_position.proofs.starts.fill_from.Given as goal

-- what the roots so far are is in the set
abbrev pub invariant-loop-root : goal.invariant-loop-root
invariant-loop-root l = Puts (λ r t. slice_get l.targets r ≡ Some t) l.fn.set l.set (take l.root-index l.roots)
