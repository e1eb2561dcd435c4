-- How what is known is put into blocks and told.
use Rattle.std.specs.Prelude.{◌≡◌, ◌≢◌, ◌<◌, ◌≤◌, ◌⊎◌, ◌^◌, ℕ, suc, ◌+◌, List, [], ◌∷◌, None, Some, length}
use Rattle.ly_drive.specs.DriveFault.{drive_number}
use Rattle.ly_drive.specs.declared.fault.DriveFault.{DriveFault}
use Rattle.ly_feed.specs.declared.syntax_error.SyntaxError.{SyntaxError}
use Rattle.ly_feed.specs.declared.syntax_error.SyntaxError.TheVariants as syntax_errors
use Rattle.ly_feed.specs.declared.outcome.Outcome.{Outcome}
use Rattle.ly_feed.specs.declared.outcome.Outcome.TheVariants.{NoRule, Syntax, Tree}
use Rattle.ly_generate.specs.GenFault.{gen_number}
use Rattle.ly_generate.specs.declared.gen_fault.GenFault.{GenFault}
use Rattle.ly_places.specs.Parts.{parts_of}
use Rattle.ly_places.specs.Placed.{Placed}
use Rattle.ly_places.specs.declared.parsing.Parsed.{Parsed}
use Rattle.ly_places.specs.declared.parsing.Parsed.TheVariants as parsed
use Rattle.ly_places.specs.declared.part.Part as tree
use Rattle.ly_report.specs.declared.counts.ConflictCounts.{ConflictCounts}
use Rattle.ly_tables.specs.FaultNames.{table_number}
use Rattle.ly_tables.specs.TableSet.{TableSet}
use Rattle.ly_tables.specs.declared.fault.TableFault.{TableFault}
use Rattle.lytab_c.specs.Block.{IsFilled, IsPut}
use Rattle.lytab_c.specs.Building.{built_of, fault_built, nothing_built}
use Rattle.lytab_c.specs.Naming.{counts_of, ends_from, joined, names_of, nothing_counted, NameBlocks, TellsRefusal}
use Rattle.lytab_c.specs.Parsing.{expected_in, listed, IsSyntaxErrorOf, IsTreeOf}
use Rattle.lytab_c.specs.Reports.{syntax_error_report, needing, nothing_told, outcome_report, TellsFault}
use Rattle.lytab_c.specs.declared.build_report.BuildReport.{BuildReport}
use Rattle.lytab_c.specs.declared.name_counts.NameCounts.{NameCounts}
use Rattle.lytab_c.specs.declared.part.Part.{Part}
use Rattle.lytab_c.specs.declared.report.Report.{Report}
use Rattle.lytab_c.specs.declared.status.Status.{Status}
use Rattle.lytab_c.specs.declared.status.Status.TheVariants.{Done, Fault, Memory, Refused, Short}

-- where an outcome's token ends is a number of 64 bits
abbrev pub FitsOutcome : Outcome → Type 0
FitsOutcome (Syntax token byte count expected) = byte + count < 2 ^ 64
FitsOutcome _ = Unit {0}

-- so is where a refused token ends
abbrev pub FitsSyntaxError : SyntaxError → Type 0
FitsSyntaxError (syntax_errors.Refused number token expected) = token.at + length token.text < 2 ^ 64
FitsSyntaxError (syntax_errors.NoRule byte) = Unit {0}

-- a fault that has a number is told, and one that has none is want of memory
abbrev pub IsFaultTold : DriveFault → Report → Status → Type 0
IsFaultTold fault report Fault = TellsFault fault report
IsFaultTold fault report Memory = (drive_number fault ≡ None) × (report ≡ nothing_told)
IsFaultTold fault report _ = ⊥

-- an answer with this outcome is put into a block where there is room
abbrev pub IsAnswerPut : Outcome → List ℕ → List ℕ → List ℕ → Report → Status → Type 0
IsAnswerPut outcome answer old new report Done = (outcome ≡ Tree) × IsPut answer old new
    × (report ≡ needing (length answer))
IsAnswerPut outcome answer old new report Refused = (outcome ≢ Tree) × IsPut answer old new
    × (report ≡ outcome_report outcome (length answer))
IsAnswerPut outcome answer old new report Short = (length old < length answer) × (report ≡ needing (length answer))
    × (new ≡ old)
IsAnswerPut outcome answer old new report _ = ⊥

-- a fault of a table file that has a number is told, and one that has none is want of memory
abbrev pub IsRefusalTold : TableFault → NameCounts → Status → Type 0
IsRefusalTold fault counts Fault = TellsRefusal fault counts
IsRefusalTold fault counts Memory = (table_number fault ≡ None) × (counts ≡ nothing_counted)
IsRefusalTold fault counts _ = ⊥

-- the names of a set are put into blocks where there is room
abbrev pub AreNamesPut : TableSet → NameBlocks → NameBlocks → NameCounts → Status → Type 0
AreNamesPut s old new counts Done = (counts ≡ counts_of s) × IsPut (ends_from 0 (names_of s)) old.ends new.ends
    × IsPut (joined (names_of s)) old.names new.names
AreNamesPut s old new counts Short = (counts ≡ counts_of s)
    × ((length old.ends < length (names_of s)) ⊎ (length old.names < length (joined (names_of s)))) × (new ≡ old)
AreNamesPut s old new counts _ = ⊥

-- so they are, or memory ran out
abbrev pub AreSetNamed : TableSet → NameBlocks → NameBlocks → NameCounts → Status → Type 0
AreSetNamed s old new counts Memory = (counts ≡ nothing_counted) × (new ≡ old)
AreSetNamed s old new counts status = AreNamesPut s old new counts status

-- a fault of two files that has a number is told, and one that has none is want of memory
abbrev pub IsBuildFaultTold : GenFault → List ℕ → List ℕ → BuildReport → Status → Type 0
IsBuildFaultTold fault lex yacc built Fault = (number : ℕ) × (gen_number fault ≡ Some number)
    × (built ≡ fault_built fault number lex yacc)
IsBuildFaultTold fault lex yacc built Memory = (gen_number fault ≡ None) × (built ≡ nothing_built)
IsBuildFaultTold fault lex yacc built _ = ⊥

-- a table file is put into a block where there is room
abbrev pub AreTablesPut : List ℕ → ConflictCounts → List ℕ → List ℕ → BuildReport → Status → Type 0
AreTablesPut bytes conflicts old new built Done = IsPut bytes old new
    × (built ≡ built_of (length bytes) conflicts)
AreTablesPut bytes conflicts old new built Short = (length old < length bytes)
    × (built ≡ built_of (length bytes) conflicts) × (new ≡ old)
AreTablesPut bytes conflicts old new built _ = ⊥

-- a set that the bytes of the table file spell says this of the text
abbrev pub IsParsedBy : List ℕ → List ℕ → Parsed → Type 0
IsParsedBy tables text (parsed.Tree parts) = (t : Placed) × IsTreeOf tables text t × (parts.items ≡ parts_of t)
IsParsedBy tables text (parsed.Refused syntax_error) = IsSyntaxErrorOf tables text syntax_error

-- the parts of a tree are put into a block where there is room
abbrev pub ArePartsPut : List tree.Part → List Part → List Part → Report → Status → Type 0
ArePartsPut parts old new report Done = IsPut (listed 0 parts) old new × (report ≡ needing (length parts))
ArePartsPut parts old new report Short = (length old < length parts) × (report ≡ needing (length parts)) × (new ≡ old)
ArePartsPut parts old new report _ = ⊥

-- what is wrong with a text is told, with the terminals that are expected
abbrev pub IsSyntaxErrorPut : SyntaxError → List ℕ → List ℕ → Report → Status → Type 0
IsSyntaxErrorPut syntax_error old new report Refused = IsFilled (expected_in syntax_error) old new
    × (report ≡ syntax_error_report syntax_error)
IsSyntaxErrorPut syntax_error old new report _ = ⊥

-- each part ends among so many, where the first of these has this index
abbrev pub EndWithin : ℕ → ℕ → List tree.Part → Type 0
EndWithin count index [] = Unit {0}
EndWithin count index (p ∷ ps) = (index + p.parts ≤ count) × EndWithin count (suc index) ps
