-- The DFA of a lex file before minimization.
use Rattle.ly_ere.specs.Names.{defined}
use Rattle.ly_lexread.specs.declared.file.LexFile.{LexFile}
use Rattle.ly_position.specs.Nfa.{Nfa}
use Rattle.ly_position.specs.Patterns.{ArePositions}
use Rattle.ly_position.specs.Spots.{HasPositions}
use Rattle.ly_subset.specs.Automaton.{Automaton, IsAutomaton}
use Rattle.ly_subset.specs.Subsets.{AreSubsets}

-- The states are the sets of positions of the file's patterns (subset construction).
pub record IsSubsetScanner (file : LexFile) (A : Automaton) : Type 0 where
  pub nfa : Nfa
  pub positions : ArePositions (defined file.names) file.rules.items file.conditions nfa
  pub spots : HasPositions (defined file.names) file.rules.items file.conditions nfa
  pub subsets : AreSubsets nfa file.conditions A
  pub whole : IsAutomaton A
