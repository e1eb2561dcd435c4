-- What is read of a table file.
use Rattle.std.proofs.Common.{◌≡◌, ◌∙◌, ℕ, List, Result, Ok, Err, IfErr, IsErrAnd, ap, subst, sym}
use Rattle.ly_base.specs.declared.version.Version.{Version}
use Rattle.ly_tables.specs.Private.Refused.{IsUnsteady}
use Rattle.ly_tables.specs.Ranges.{IsWithinVersion, number_of, width_of}
use Rattle.ly_tables.specs.RawOf.{raw_of}
use Rattle.ly_tables.specs.RawSet.{RawSet}
use Rattle.ly_tables.specs.Reading.{raw_file}
use Rattle.ly_tables.specs.Refusal.{IsRefusedAs}
use Rattle.ly_tables.specs.TableSet.{TableSet, machine_of}
use Rattle.ly_tables.specs.TableText.{TableText}
use Rattle.ly_tables.specs.declared.fault.TableFault.{TableFault}
use Rattle.ly_tables.specs.declared.fault.TableFault.TheVariants.{BadMagic, BadVersion, Endless, OutOfMemory}
use Rattle.ly_tables.specs.declared.fault.TableFault.TheVariants.{OutOfRange, Trailing, Truncated}
use Rattle.ly_tables.proofs.RawOfLemmas.{spelling_same}

-- the file of a set's numbers is that of the set
pub text_of_numbers : (v : Version) (bytes : List ℕ) (r : RawSet) (s : TableSet) → bytes ≡ raw_file v r
    → raw_of (width_of v) s ≡ r → IsWithinVersion v s → TableText bytes v s
text_of_numbers v bytes r s spelled same within =
    (within, spelled ∙ ap (raw_file v) (sym same) ∙ sym (spelling_same (width_of v) (number_of v) s))

-- a file of tables that aren't steady is refused so
pub refused_unsteady : (v : Version) (bytes : List ℕ) (s : TableSet) → TableText bytes v s → (f : TableFault)
    → IsUnsteady (machine_of s) f → IsRefusedAs bytes f
refused_unsteady v bytes s text Endless endless = (v, s, text, endless)
refused_unsteady v bytes s text OutOfMemory said = tt
refused_unsteady v bytes s text BadMagic said = absurd said
refused_unsteady v bytes s text BadVersion said = absurd said
refused_unsteady v bytes s text Truncated said = absurd said
refused_unsteady v bytes s text Trailing said = absurd said
refused_unsteady v bytes s text (OutOfRange section) said = absurd said

-- and so it is where the fault is handed on
pub handed_unsteady : {T : Type 0} (v : Version) (bytes : List ℕ) (s : TableSet) → TableText bytes v s
    → (result : Result T TableFault) (fault : TableFault) → IsErrAnd result (λ other. other ≡ fault)
    → IsUnsteady (machine_of s) fault → IfErr result (IsRefusedAs bytes)
handed_unsteady v bytes s text (Ok x) fault same said = tt
handed_unsteady {T} v bytes s text (Err other) fault same said =
    subst (IsRefusedAs bytes) (sym same) (refused_unsteady v bytes s text fault said)
