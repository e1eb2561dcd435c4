-- How the errors of the parts become errors of generation, and the numbers and names that are printed for them.
use Rattle.std.specs.Prelude.{◌≡◌, ◌≢◌, ◌⊎◌, ℕ, List, Option, Some, None, codes, take}
use Rattle.ly_base.specs.Location.{line_behind}
use Rattle.ly_generate.specs.declared.gen_fault.GenFault.{GenFault}
use Rattle.ly_generate.specs.declared.gen_fault.GenFault.TheVariants.{Lex, Yacc, Join, Positions, States, Automaton}
use Rattle.ly_generate.specs.declared.gen_fault.GenFault.TheVariants.{Endless, OutOfMemory}
use Rattle.ly_generate.specs.declared.gen_fault.GenFault.TheVariants as gen
use Rattle.ly_grammar.specs.FaultNames.{grammar_name, grammar_number}
use Rattle.ly_join.specs.FaultNames.{join_name, join_number}
use Rattle.ly_lexread.specs.Faults.{lex_name, lex_number}
use Rattle.ly_lexread.specs.declared.fault.LexFault.{LexFault}
use Rattle.ly_lexread.specs.declared.fault.LexFault.TheVariants as lex
use Rattle.ly_lr0.specs.FaultNames.{lr0_name, lr0_number}
use Rattle.ly_position.specs.FaultNames.{position_name, position_number}
use Rattle.ly_subset.specs.FaultNames.{subset_name, subset_number}
use Rattle.ly_yaccread.specs.Faults.{yacc_name, yacc_number}
use Rattle.ly_yaccread.specs.declared.fault.YaccFault.{YaccFault}
use Rattle.ly_yaccread.specs.declared.fault.YaccFault.TheVariants as yacc
use Rattle.ly_tokens.specs.declared.scanner_fault.ScannerFault.{ScannerFault}
use Rattle.ly_tokens.specs.declared.scanner_fault.ScannerFault.TheVariants as scanner

-- A part's error becomes one of generation: out of memory stays out of memory, and any other error is wrapped.
abbrev pub Becomes : {F : Type 0} → F → (F → GenFault) → F → GenFault → Type 0
Becomes memory wrap fault e = ((fault ≡ memory) × (e ≡ OutOfMemory)) ⊎ ((fault ≢ memory) × (e ≡ wrap fault))

-- the same for an error of the scanner
abbrev pub gen_of_scanner : ScannerFault → GenFault
gen_of_scanner (scanner.Positions fault) = Positions fault
gen_of_scanner (scanner.States fault) = States fault
gen_of_scanner scanner.OutOfMemory = OutOfMemory

-- the number that is printed for an error: that of its part; out of memory has none
abbrev pub gen_number : GenFault → Option ℕ
gen_number (Lex fault) = lex_number fault
gen_number (Yacc fault) = yacc_number fault
gen_number (Join fault) = join_number fault
gen_number (Positions fault) = position_number fault
gen_number (States fault) = subset_number fault
gen_number (gen.Grammar fault) = grammar_number fault
gen_number (Automaton fault) = lr0_number fault
gen_number (Endless below top token name) = Some 70
gen_number OutOfMemory = None

-- the name that is printed for an error
abbrev pub gen_name : GenFault → List ℕ
gen_name (Lex fault) = lex_name fault
gen_name (Yacc fault) = yacc_name fault
gen_name (Join fault) = join_name fault
gen_name (Positions fault) = position_name fault
gen_name (States fault) = subset_name fault
gen_name (gen.Grammar fault) = grammar_name fault
gen_name (Automaton fault) = lr0_name fault
gen_name (Endless below top token name) = codes "Endless"
gen_name OutOfMemory = codes "OutOfMemory"

-- the line of an error in a lex file with these bytes; out of memory has none
abbrev pub lex_line : LexFault → List ℕ → Option ℕ
lex_line (lex.Refused kind offset) bytes = Some (line_behind (take offset bytes))
lex_line lex.OutOfMemory bytes = None

-- the line of an error in a yacc file with these bytes; out of memory has none
abbrev pub yacc_line : YaccFault → List ℕ → Option ℕ
yacc_line (yacc.Refused kind offset) bytes = Some (line_behind (take offset bytes))
yacc_line yacc.OutOfMemory bytes = None

-- the line of the error, if one of the files with these bytes is rejected
abbrev pub gen_line : GenFault → List ℕ → List ℕ → Option ℕ
gen_line (Lex fault) lex yacc = lex_line fault lex
gen_line (Yacc fault) lex yacc = yacc_line fault yacc
gen_line _ lex yacc = None
