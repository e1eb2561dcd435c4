-- The results of `lytab_build`, by status.
use Rattle.std.specs.Prelude.{◌≡◌, ◌<◌, ℕ, List, Some, length, take}
use Rattle.ly_base.specs.Limits.{version_2}
use Rattle.ly_base.specs.Location.{column_behind, line_behind}
use Rattle.ly_base.specs.declared.version.Version.TheVariants.{V2}
use Rattle.ly_generate.specs.Accepted.{IsRefusedFor}
use Rattle.ly_generate.specs.GenFault.{gen_number}
use Rattle.ly_generate.specs.Generated.{IsGenerated}
use Rattle.ly_generate.specs.declared.gen_fault.GenFault.{GenFault}
use Rattle.ly_generate.specs.declared.gen_fault.GenFault.TheVariants.{Lex, Yacc}
use Rattle.ly_lexread.specs.declared.fault.LexFault.TheVariants as lex_fault
use Rattle.ly_report.specs.Counts.{AreCounts}
use Rattle.ly_report.specs.declared.counts.ConflictCounts.{ConflictCounts}
use Rattle.ly_tables.specs.TableSet.{TableSet}
use Rattle.ly_tables.specs.TableText.{TableText}
use Rattle.ly_yaccread.specs.declared.fault.YaccFault.TheVariants as yacc_fault
use Rattle.lytab_c.specs.Block.{IsPut}
use Rattle.lytab_c.specs.declared.build_report.BuildReport.{BuildReport}
use Rattle.lytab_c.specs.declared.status.Status.{Status}
use Rattle.lytab_c.specs.declared.status.Status.TheVariants.{Done, Fault, Memory, Misused, Refused, Short}

-- a report with all fields 0
abbrev pub nothing_built : BuildReport
nothing_built = record {
  fault = 0;
  file = 0;
  line = 0;
  column = 0;
  needed = 0;
  shift_reduce = 0;
  reduce_reduce = 0;
}

-- the report for a table file of this length with these conflicts
abbrev pub built_of : ℕ → ConflictCounts → BuildReport
built_of needed conflicts = record nothing_built {
  needed = needed;
  shift_reduce = conflicts.shift_reduce;
  reduce_reduce = conflicts.reduce_reduce;
}

-- an error with this number, at this byte of one file
abbrev pub fault_at : ℕ → ℕ → List ℕ → ℕ → BuildReport
fault_at number file bytes offset = record nothing_built {
  fault = number;
  file = file;
  line = line_behind (take offset bytes);
  column = column_behind (take offset bytes);
}

-- the report for an error with this number of a lex file and a yacc file; if the error is in one of them, it has the
-- location
abbrev pub fault_built : GenFault → ℕ → List ℕ → List ℕ → BuildReport
fault_built (Lex (lex_fault.Refused kind offset)) number lex yacc = fault_at number 1 lex offset
fault_built (Yacc (yacc_fault.Refused kind offset)) number lex yacc = fault_at number 2 yacc offset
fault_built fault number lex yacc = record nothing_built { fault = number }

-- The files are accepted, these bytes are the table file of a set that is generated from them, and these are the
-- numbers of conflicts.
abbrev pub IsBuildOf : List ℕ → List ℕ → List ℕ → ConflictCounts → Type 0
IsBuildOf lex yacc bytes conflicts = (s : TableSet) × (g : IsGenerated V2 version_2 lex yacc s)
    × TableText bytes V2 s × AreCounts g.spec conflicts

-- The table file is in the block. Or the files are rejected. Or memory ran out. Or the block is too short for the table
-- file. Without a table file in the block, the block is unchanged.
abbrev pub IsBuilt : List ℕ → List ℕ → List ℕ → List ℕ → BuildReport → Status → Type 0
IsBuilt lex yacc old new built Done = (bytes : List ℕ) × (conflicts : ConflictCounts)
    × IsBuildOf lex yacc bytes conflicts × IsPut bytes old new × (built ≡ built_of (length bytes) conflicts)
IsBuilt lex yacc old new built Refused = ⊥
IsBuilt lex yacc old new built Fault = (fault : GenFault) × (number : ℕ) × IsRefusedFor version_2 lex yacc fault
    × (gen_number fault ≡ Some number) × (built ≡ fault_built fault number lex yacc) × (new ≡ old)
IsBuilt lex yacc old new built Memory = (built ≡ nothing_built) × (new ≡ old)
IsBuilt lex yacc old new built Misused = ⊥
IsBuilt lex yacc old new built Short = (bytes : List ℕ) × (conflicts : ConflictCounts)
    × IsBuildOf lex yacc bytes conflicts × (length old < length bytes)
    × (built ≡ built_of (length bytes) conflicts) × (new ≡ old)
