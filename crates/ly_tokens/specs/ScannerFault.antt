-- Why the patterns of a lex file have no DFA within the limits.
use Rattle.std.specs.Prelude.{◌≡◌, ◌<◌, ◌≤◌}
use Rattle.ly_base.specs.Limits.{Sizes}
use Rattle.ly_ere.specs.Names.{defined}
use Rattle.ly_lexread.specs.declared.file.LexFile.{LexFile}
use Rattle.ly_position.specs.TotalWeight.{total_weight}
use Rattle.ly_position.specs.declared.fault.PosFault.{PosFault}
use Rattle.ly_position.specs.declared.fault.PosFault.TheVariants as position
use Rattle.ly_subset.specs.RuleSets.{HaveMoreSets}
use Rattle.ly_subset.specs.declared.fault.SubsetFault.{SubsetFault}
use Rattle.ly_subset.specs.declared.fault.SubsetFault.TheVariants as subset
use Rattle.ly_tokens.specs.declared.scanner_fault.ScannerFault.{ScannerFault}
use Rattle.ly_tokens.specs.declared.scanner_fault.ScannerFault.TheVariants.{Positions, States, OutOfMemory}

abbrev pub fault_of_positions : PosFault → ScannerFault
fault_of_positions position.OutOfMemory = OutOfMemory
fault_of_positions position.TooManyPositions = Positions position.TooManyPositions

abbrev pub fault_of_states : SubsetFault → ScannerFault
fault_of_states subset.OutOfMemory = OutOfMemory
fault_of_states subset.TooManyStates = States subset.TooManyStates

-- what an error implies for a lex file; out of memory implies nothing
abbrev pub HasNoScanner : Sizes → LexFile → ScannerFault → Type 0
HasNoScanner limits file (Positions fault) = (fault ≡ position.TooManyPositions)
    × (limits.total_weight < total_weight (defined file.names) file.rules.items)
HasNoScanner limits file (States fault) = (fault ≡ subset.TooManyStates)
    × (total_weight (defined file.names) file.rules.items ≤ limits.total_weight)
    × HaveMoreSets (defined file.names) file.rules.items file.conditions limits.scanner_states
HasNoScanner limits file OutOfMemory = Unit {0}
