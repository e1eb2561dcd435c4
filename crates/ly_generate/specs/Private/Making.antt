-- What is made of a specification and of its scanner.
use Rattle.std.specs.Prelude.{◌≤◌, List, length}
use Rattle.ly_base.specs.Limits.{Sizes}
use Rattle.ly_base.specs.declared.version.Version.{Version}
use Rattle.ly_emit.specs.FitsFile.{FitsFile}
use Rattle.ly_emit.specs.SetOf.{IsSetOf}
use Rattle.ly_ere.specs.declared.pattern.Rule.{Rule}
use Rattle.ly_grammar.specs.Reduction.{KeepsUseful}
use Rattle.ly_join.specs.Joined.{Spec}
use Rattle.ly_lexread.specs.declared.file.LexFile.{LexFile}
use Rattle.ly_lr0.specs.Automaton as parser
use Rattle.ly_pack.specs.Steady.{IsSteady}
use Rattle.ly_subset.specs.Automaton.{Automaton, IsAutomaton}
use Rattle.ly_tables.specs.Ranges.{IsWithinVersion}
use Rattle.ly_tables.specs.TableSet.{TableSet, machine_of}
use Rattle.ly_generate.specs.Accepted.{IsFit}

-- a table file of the version can hold the specification, this scanner, and whatever automaton of its useful rules is
-- within the limits
abbrev pub FitsWith : Version → Sizes → Spec → List Rule → Automaton → Type 0
FitsWith v limits s rules A = (M : parser.Lr0Automaton) → parser.IsLr0Automaton M → KeepsUseful s.grammar M.grammar
    → length M.states ≤ limits.parser_states → FitsFile v s rules A M

-- The set is that of the specification's useful rules, which are fit, and of a scanner, within the ranges of a version,
-- and its parser's runs end.
pub record IsMadeOf (v : Version) (limits : Sizes) (file : LexFile) (s : Spec) (A : Automaton) (set : TableSet) : Type 0
  where
    pub automaton : parser.Lr0Automaton
    pub is_automaton : parser.IsLr0Automaton automaton
    pub fit : IsFit limits s automaton.grammar
    pub is_walk : IsAutomaton A
    pub is_set : IsSetOf s automaton file.rules.items A set
    pub within : IsWithinVersion v set
    pub steady : IsSteady (machine_of set)
