-- The data of groups of conflicts that are reported.
use Rattle.std.specs.Prelude.{◌≡◌, ℕ, List, Option, Some, Contains, IfSome, length, map, min, option_map, reverse}
use Rattle.std.specs.Prelude.{slice_get}
use Rattle.ly_base.specs.declared.numbers.Sym.{Sym}
use Rattle.ly_join.specs.Grammar.{symbol_of}
use Rattle.ly_resolve.specs.Conflicts.{Conflict}
use Rattle.ly_resolve.specs.Resolved.{Resolved}
use Rattle.ly_resolve.specs.Values.{conflict_from}
use Rattle.ly_counterexamples.specs.Demands.{HasMoreDemands}
use Rattle.ly_counterexamples.specs.Examples.{HasNoExample, IsExample}
use Rattle.ly_counterexamples.specs.Moves.{IsAmbiguousAt}
use Rattle.ly_counterexamples.specs.Sentences.{numbers_of}
use Rattle.ly_conflicts.specs.declared.ambiguity.Ambiguity.{Ambiguity}
use Rattle.ly_conflicts.specs.declared.groups.Group.{Group}
use Rattle.ly_conflicts.specs.declared.group_report.OtherSentence.{OtherSentence}
use Rattle.ly_conflicts.specs.declared.group_report.Readings.{Readings}
use Rattle.ly_conflicts.specs.declared.group_report.Readings.TheVariants.{Same, Ways}
use Rattle.ly_conflicts.specs.declared.group_report.Shown.{Shown}
use Rattle.ly_conflicts.specs.declared.group_report.Shown.TheVariants.{At, Merged, Unknown, Unsought}
use Rattle.ly_conflicts.specs.declared.group_report.GroupReport.{GroupReport}
use Rattle.ly_conflicts.specs.Groups.{IsConflictAt, most_demands}

-- the greatest number of groups that are reported
abbrev pub most_told : ℕ
most_told = 100

-- a sentence with two trees that take both actions of the conflict
abbrev pub IsAmbiguity : Resolved → Conflict → Ambiguity → Type 0
IsAmbiguity r c a = IsAmbiguousAt r c a.one.items a.other.items (numbers_of a.sentence.items)

-- what was found is such a sentence
abbrev pub IsFoundIn : Resolved → Conflict → Option Ambiguity → Type 0
IsFoundIn r c found = IfSome found (IsAmbiguity r c)

abbrev pub AreReadings : Resolved → Conflict → Readings → Type 0
AreReadings r c Same = Unit {0}
AreReadings r c (Ways ways found) = IsFoundIn r c found

-- What is reported of how the conflicts of a group arise is true: an example of the first, that none of them has one,
-- or that the first has more demands than are visited.
abbrev pub IsShown : Resolved → List ℕ → Conflict → Shown → Type 0
IsShown r group c Unsought = Unit {0}
IsShown r group c (At spot) = IsExample r.automaton.grammar c (reverse (map symbol_of spot.string.now))
    × AreReadings r c spot.readings
IsShown r group c (Merged ways) = (i : ℕ) → Contains group i → HasNoExample r i
IsShown r group c (Unknown found) = HasMoreDemands r.automaton c most_demands × IsFoundIn r c found

-- the terminals of the conflicts with these indices, in order
abbrev pub AreTerminalsOf : Resolved → List ℕ → List Sym → Type 0
AreTerminalsOf r group terminals = (length terminals ≡ length group) × ((p i : ℕ) (c : Conflict)
    → slice_get group p ≡ Some i → IsConflictAt r i c → option_map (λ t. t.0) (slice_get terminals p) ≡ Some c.terminal)

-- a sentence with two trees of a conflict with one of these indices, if there is one
abbrev pub IsOtherIn : Resolved → List ℕ → Option OtherSentence → Type 0
IsOtherIn r group other = IfSome other (λ o. (i : ℕ) × Contains group i
    × IsConflictAt r i (conflict_from r.automaton o.conflict)
    × IsAmbiguity r (conflict_from r.automaton o.conflict) o.found)

-- The data of a group: its first conflict, the terminals of all, how they arise, and a sentence of another conflict.
pub record IsGroupReport (r : Resolved) (group : List ℕ) (told : GroupReport) : Type 0 where
  pub first : ℕ
  pub begins : slice_get group 0 ≡ Some first
  pub is : IsConflictAt r first (conflict_from r.automaton told.conflict)
  pub terminals : AreTerminalsOf r group told.terminals.items
  pub shown : IsShown r group (conflict_from r.automaton told.conflict) told.shown
  pub other : IsOtherIn r group told.other

-- The groups are reported in order, up to the greatest number.
pub record AreGroupReports (r : Resolved) (groups : List Group) (told : List GroupReport) : Type 0 where
  pub count : length told ≡ min most_told (length groups)
  pub each : (p : ℕ) (g : Group) (t : GroupReport) → slice_get groups p ≡ Some g → slice_get told p ≡ Some t
      → IsGroupReport r g.conflicts.items t
