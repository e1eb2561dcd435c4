-- What a call that fails says.
use Rattle.std.proofs.Common.{◌≡◌, ℕ, Err, List, Ok, Result, refl, subst, sym}
use Rattle.std.specs.Prelude.{◌≢◌, IfErr, IsErrAnd}
use Rattle.ly_drive.specs.Answering.{IsDriven}
use Rattle.ly_drive.specs.declared.fault.DriveFault.{DriveFault}
use Rattle.ly_drive.specs.declared.fault.DriveFault.TheVariants.{Tables, Text}
use Rattle.ly_feed.specs.TableAnswer.{IsVerdict}
use Rattle.ly_feed.specs.Verdict.{faulty}
use Rattle.ly_feed.specs.declared.text_fault.TextFault.TheVariants.{FaultyTables, OutOfMemory, Read, TooLong, Write}
use Rattle.ly_tables.specs.Refusal.{IsRefusedAs}
use Rattle.ly_tables.specs.TableSet.{TableSet}
use Rattle.ly_tables.specs.declared.fault.TableFault.{TableFault}
use Rattle.ly_tables.specs.declared.fault.TableFault.TheVariants as file
use Rattle.lytab_c.specs.Faults.{IsFaultOn}

-- a fault that is handed on
pub handed_on : {A E : Type 0} (P : E → Type 0) (r : Result A E) (e : E) → IsErrAnd r (λ x. x ≡ e) → P e → IfErr r P
handed_on P (Ok x) e h p = absurd h
handed_on P (Err x) e h p = subst P (sym h) p

-- one of driving over a text in memory
pub drive_fault : (tables text : List ℕ) (fault : DriveFault)
    → ((f : TableFault) → fault ≡ Tables f → (f ≢ file.OutOfMemory) × IsRefusedAs tables f)
    → (fault ≡ Text FaultyTables → (s : TableSet) × IsDriven tables s × IsVerdict s text faulty)
    → (fault ≡ Text TooLong → ⊥) → (fault ≡ Text Read → ⊥) → IsFaultOn tables text fault
drive_fault tables text (Tables f) refused on long read = refused f refl
drive_fault tables text (Text FaultyTables) refused on long read = on refl
drive_fault tables text (Text TooLong) refused on long read = long refl
drive_fault tables text (Text Read) refused on long read = read refl
drive_fault tables text (Text (Write written)) refused on long read = tt
drive_fault tables text (Text OutOfMemory) refused on long read = tt
