use Rattle.std.proofs.Common.{◌≡◌, take}
use Rattle.ly_base.specs.SparseSet.{with_members}
use Rattle.ly_base.proofs.sparse_set.SparseSet.extend.Given as goal

-- the numbers so far are added
abbrev pub invariant-loop-number : goal.invariant-loop-number
invariant-loop-number l
    = l.self ≡ record l.fn.self { members = with_members l.fn.self.members (take l.number-index l.numbers) }
