-- Positions as they are stored, and their follow lists through the shared forks.
use Rattle.std.specs.Prelude.{ℕ, zero, suc, List, length, map, filter, slice_get, Bool, false, ◌||◌, ◌&&◌, nat_eq}
use Rattle.std.specs.Prelude.{Option, Some, None}
use Rattle.std.specs.List.{range_with_len}
use Rattle.ly_base.specs.ByteSet.{members}
use Rattle.ly_position.specs.Nfa as nfa
use Rattle.ly_position.specs.Nfa.{Nfa}
use Rattle.ly_position.specs.declared.nfa.Fork.{Fork}
use Rattle.ly_position.specs.declared.nfa.Position.{Position}
use Rattle.ly_position.specs.declared.nfa.Position.TheVariants.{Reads, Ends}
use Rattle.ly_position.specs.declared.nfa.Slot.{Slot}
use Rattle.ly_position.specs.declared.nfa.Slot.TheVariants as slot
use Rattle.ly_position.specs.declared.nfa.Target.{Target}
use Rattle.ly_position.specs.declared.nfa.Target.TheVariants as target

-- a stored position with its follow list
abbrev pub position_from : Position → List ℕ → nfa.Position
position_from (Reads bytes) follow = nfa.reading (members bytes) follow
position_from (Ends rule) follow = nfa.ending rule.0

-- the targets are equal
abbrev pub same_target : Target → Target → Bool
same_target (target.Position p) (target.Position q) = nat_eq p q
same_target (target.Position p) (target.Fork k) = false
same_target (target.Fork j) (target.Position q) = false
same_target (target.Fork j) (target.Fork k) = nat_eq j k

-- one of the fork's sides passes a test, if there is a fork
abbrev pub either_side : (Target → Bool) → Option Fork → Bool
either_side test None = false
either_side test (Some f) = test f.first || test f.second

-- A run leads from one target to another through the first k forks alone: through the first k - 1, or through these to
-- the last one and on from one of its sides (Warshall 1962).
abbrev pub forks_to : List Fork → ℕ → Target → Target → Bool
forks_to forks zero from to = same_target from to
forks_to forks (suc k) from to = forks_to forks k from to
    || (forks_to forks k from (target.Fork k) && either_side (λ side. forks_to forks k side to) (slice_get forks k))

-- the positions, among n, that a run reaches through forks alone
abbrev pub reached_from : ℕ → List Fork → Target → List ℕ
reached_from n forks next
    = filter (λ q. forks_to forks (length forks) next (target.Position q)) (range_with_len 0 n)

-- the position of a slot, given the forks and n positions in all
abbrev pub position_in : ℕ → List Fork → Slot → nfa.Position
position_in n forks (slot.Reads bytes next) = nfa.reading (members bytes) (reached_from n forks next)
position_in n forks (slot.Ends rule) = nfa.ending rule.0

-- the automaton of slots, forks and start lists
abbrev pub nfa_of : List Slot → List Fork → List (List ℕ) → Nfa
nfa_of slots forks starts = record {
  positions = map (position_in (length slots) forks) slots;
  forks = length forks;
  starts = starts;
}
