use Rattle.std.proofs.Common.{◌≡◌, ◌++◌, List, length, map, reverse}
use Rattle.ly_lexread.specs.Action.{AreEffects, Saying, effect_of}
use Rattle.ly_lexread.specs.Private.Statements.{saying_of}
use Rattle.ly_lexread.proofs.shared.share_actions.Given as goal

-- the actions so far are those of the last rules, the last one first
abbrev pub invariant-loop-last : goal.invariant-loop-last
invariant-loop-last l = (done : List Saying)
    × (map saying_of l.fn.said.items ≡ map saying_of l.said.items ++ done)
    × AreEffects done (reverse (map effect_of l.actions.items))

abbrev pub decreases-loop-last : goal.decreases-loop-last
decreases-loop-last l = length l.said.items
