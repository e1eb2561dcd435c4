use Rattle.std.proofs.Common.{◌≡◌, length, subst, ap, ◌∙◌, sym, arith}
use Rattle.ly_ere.proofs.ArenaLemmas.{expressions-push, IsOrdered-push, length-expressions}
use Rattle.ly_ere.specs.Arena.{FitsAt}
use Rattle.ly_ere.proofs.arena.Arena.push.Goals as goal

pub invariant_of-self-2 : goal.invariant_of-self-2
invariant_of-self-2 c =
    let count : length c.args.self.now ≡ length c.self.inside.nodes.items = sym (ap length c.self.view_is)
    ∙ length-expressions c.self.inside.nodes.items in
    rw c.in_ok-push.ensures.items (IsOrdered-push c.self.inside.nodes.items c.args.node c.self.invariant
    (subst (λ k. FitsAt k c.args.node) count c.requires))

pub returns-clause-ok : goal.returns-clause-ok
returns-clause-ok c
    = rw (c.in_ok-push.ensures.items, ← c.self.view_is) (expressions-push c.self.inside.nodes.items c.args.node)

pub returns-clause-number : goal.returns-clause-number
returns-clause-number c =
    let count = length-expressions c.self.inside.nodes.items in
    let same = ap length c.self.view_is in
    omega arith
