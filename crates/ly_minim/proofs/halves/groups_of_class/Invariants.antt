use Rattle.std.proofs.Common.{◌≡◌, length}
use Rattle.ly_subset.specs.Automaton.{next_by_class}
use Rattle.ly_minim.specs.Private.Groups.{AreChains, AreGrouped}
use Rattle.ly_minim.proofs.halves.groups_of_class.Given as goal

-- the states before this one are grouped
abbrev pub invariant-loop-state : goal.invariant-loop-state
invariant-loop-state l = record {
  keys : length l.groups.last ≡ length l.dfa.rules;
  chains : AreChains l.state l.groups.last l.groups.before;
  grouped : AreGrouped l.state (λ s. next_by_class l.dfa s l.class) l.groups.last l.groups.before;
}
