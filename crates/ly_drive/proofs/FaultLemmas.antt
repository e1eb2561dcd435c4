-- Which fault a call hands on.
use Rattle.std.proofs.Common.{◌≡◌, ◌∙◌, ◌<◌, ℕ, Err, List, Ok, Option, ap, length, subst, sym, take}
use Rattle.std.specs.Io.KnownBytes.{Appends}
use Rattle.std.specs.Prelude.{IsErrAnd, IsErrOf, Result}
use Rattle.ly_print.specs.TextWriter.{IsCutShort}
use Rattle.ly_drive.specs.declared.fault.DriveFault.{DriveFault}
use Rattle.ly_drive.specs.DriveFault.{fault_of_tables}
use Rattle.ly_drive.specs.declared.fault.DriveFault.TheVariants.{Tables, Text}
use Rattle.ly_feed.specs.declared.text_fault.TextFault.{TextFault}
use Rattle.ly_feed.specs.declared.text_fault.TextFault.TheVariants as answering
use Rattle.ly_tables.specs.declared.fault.TableFault.{TableFault}
use Rattle.ly_tables.specs.declared.fault.TableFault.TheVariants as file

-- one that isn't answered wasn't handed on
pub other_fault : {A E : Type 0} (r : Result A E) (e fault : E) → IsErrAnd r (λ x. x ≡ e) → (IsErrOf r fault → ⊥)
    → e ≡ fault → ⊥
other_fault (Ok x) e fault h not is = absurd h
other_fault (Err x) e fault h not is = not (ap Err (h ∙ is))

-- nor was a fault of the text, as a fault of driving
pub other_text : {A B : Type 0} (r : Result A DriveFault) (e fault : TextFault) → IsErrAnd r (λ x. x ≡ Text e)
    → (IsErrOf r (Text fault) → ⊥) → IsErrOf {T = B} (Err e) fault → ⊥
other_text r e fault h not is = let same : e ≡ fault = cc in other_fault r (Text e) (Text fault) h not (ap Text same)

pub same_text : (e fault : TextFault) → Text e ≡ Text fault → e ≡ fault
same_text e fault is = cc

-- so many bytes of a text that is written whole went out
pub cut_short : (b n : Option (List ℕ)) (count written : ℕ) (bytes text : List ℕ) → count ≡ written → bytes ≡ text
    → count < length bytes → Appends b n (take count bytes) → IsCutShort b n written text
cut_short b n count written bytes text same is within out =
    subst (λ k. IsCutShort b n k text) same
    (subst (IsCutShort b n count) is (record { within = within; went_out = out }))

-- what a fault that is handed on comes to
pub handed_on : {A E : Type 0} (r : Result A E) (e : E) → IsErrAnd r (λ x. x ≡ e) → Err e ≡ r
handed_on (Ok x) e h = absurd h
handed_on (Err x) e h = ap Err (sym h)

apart : (f : TableFault) (fault : TextFault) → Tables f ≡ Text fault → ⊥
apart f fault is = cc

-- of the faults of reading a table file one alone is told as one of the text
pub only_memory : (f : TableFault) (fault : TextFault) → fault_of_tables f ≡ Text fault → fault ≡ answering.OutOfMemory
only_memory file.BadMagic fault is = absurd (apart file.BadMagic fault is)
only_memory file.BadVersion fault is = absurd (apart file.BadVersion fault is)
only_memory file.Truncated fault is = absurd (apart file.Truncated fault is)
only_memory file.Trailing fault is = absurd (apart file.Trailing fault is)
only_memory (file.OutOfRange section) fault is = absurd (apart (file.OutOfRange section) fault is)
only_memory file.Endless fault is = absurd (apart file.Endless fault is)
only_memory file.OutOfMemory fault is = sym (same_text answering.OutOfMemory fault is)
