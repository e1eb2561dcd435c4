use Rattle.ly_conflicts.proofs.ambiguity.Finder.joined.Given as goal

-- the states that are left are some of those of the pair
abbrev pub invariant-loop-state : goal.invariant-loop-state
invariant-loop-state l = (goal.iterator-loop-state).can_next l.state-iterator
    × (goal.iterator-loop-state).is_finite l.state-iterator
