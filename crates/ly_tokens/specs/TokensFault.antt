-- How the errors of the parts become errors of `tokens`.
use Rattle.std.specs.Prelude.{ℕ, None, Option, Some}
use Rattle.ly_base.specs.Limits.{Sizes}
use Rattle.ly_print.specs.declared.whole.ReadFault.{ReadFault}
use Rattle.ly_print.specs.declared.whole.ReadFault.TheVariants as read
use Rattle.ly_lexread.specs.declared.fault.LexFault.{LexFault}
use Rattle.ly_lexread.specs.declared.fault.LexFault.TheVariants as lex
use Rattle.ly_lexread.specs.declared.file.LexFile.{LexFile}
use Rattle.ly_tokens.specs.ScannerFault.{HasNoScanner}
use Rattle.ly_tokens.specs.declared.fault.TokensFault.{TokensFault}
use Rattle.ly_tokens.specs.declared.fault.TokensFault.TheVariants.{Lex, Positions, States, Read, Write, OutOfMemory}
use Rattle.ly_tokens.specs.declared.scanner_fault.ScannerFault.{ScannerFault}
use Rattle.ly_tokens.specs.declared.scanner_fault.ScannerFault.TheVariants as scanner

abbrev pub fault_of_lex : LexFault → TokensFault
fault_of_lex lex.OutOfMemory = OutOfMemory
fault_of_lex (lex.Refused kind offset) = Lex (lex.Refused kind offset)

abbrev pub fault_of_scanner : ScannerFault → TokensFault
fault_of_scanner (scanner.Positions fault) = Positions fault
fault_of_scanner (scanner.States fault) = States fault
fault_of_scanner scanner.OutOfMemory = OutOfMemory

abbrev pub fault_of_read : ReadFault → TokensFault
fault_of_read read.Read = Read
fault_of_read read.OutOfMemory = OutOfMemory

-- Nothing was read: the lex file is rejected, exceeds the weight limit, or its DFA has too many states.
abbrev pub ReadNothing : TokensFault → Type 0
ReadNothing (Lex fault) = Unit {0}
ReadNothing (Positions fault) = Unit {0}
ReadNothing (States fault) = Unit {0}
ReadNothing _ = ⊥

-- what an error implies for a lex file that was read
abbrev pub HasNoTokens : Sizes → LexFile → TokensFault → Type 0
HasNoTokens limits file (Lex fault) = ⊥
HasNoTokens limits file (Positions fault) = HasNoScanner limits file (scanner.Positions fault)
HasNoTokens limits file (States fault) = HasNoScanner limits file (scanner.States fault)
HasNoTokens limits file _ = Unit {0}

-- a failed write, or out of memory
abbrev pub IsOfOutput : TokensFault → Type 0
IsOfOutput (Write written) = Unit {0}
IsOfOutput OutOfMemory = Unit {0}
IsOfOutput _ = ⊥

-- the number of bytes written before the write that failed, if one did
abbrev pub failed_write : TokensFault → Option ℕ
failed_write (Write written) = Some written
failed_write _ = None
