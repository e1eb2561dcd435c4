-- How writing a file ends.
use Rattle.std.proofs.Common.{◌≡◌, ◌≢◌, ℕ, Bool, List, Option, Some, None, inl, inr, refl, sym}
use Rattle.std.specs.Prelude.{Err, IsSome, Ok, OnErr, OnOk, Result}
use Rattle.ly_files.proofs.ChangeLemmas.{changed_also, changed_twice, spared_or_set}
use Rattle.ly_files.proofs.FolderLemmas.{begun_and_removed, created_is_begun, new_replaces}
use Rattle.ly_files.specs.Folder.{Changed, Files, IsBegun, IsCreated, IsRenamed, IsSet, IsSpared}
use Rattle.ly_files.specs.Folders.{HasWritten}
use Rattle.ly_files.specs.declared.file_fault.FileFault.{FileFault}
use Rattle.ly_files.specs.Fault.{IsWriteFault}

-- a failure that spared the file
pub failed_and_spared : {A : Type 0} (path bytes : List ℕ) (plain : Bool) (before after : Option Files)
    (fault : FileFault) → IsWriteFault path fault → Changed (IsSpared path) before after
    → HasWritten {A = A} path bytes plain before after (Err fault)
failed_and_spared path bytes plain before after fault is spared = record {
  written = tt;
  spared = λ _. spared;
  left = spared_or_set path before after spared;
  failed = is;
}

-- a new file that is begun, where removing it fails or not, leaves the others as they were
pub spared_beside : {E : Type 0} (path new : List ℕ) (a b c : Option Files) (removed : Result (Unit {0}) E)
    → (IsSome b → new ≢ path) → Changed (IsBegun new) a b → OnOk removed (Changed (IsSet new None) b c)
    → OnErr removed (c ≡ b) → Changed (IsSpared path) a c
spared_beside path new a b c (Ok done) beside begun gone same =
    changed_twice {R = IsBegun new} {S = IsSet new None} {T = IsSpared path} a b c
    (λ f g h known first second. inl (begun_and_removed new f g h first second)) begun gone
spared_beside path new a b c (Err fault) beside begun gone same = rw (sym same) at
    (changed_also {R = IsBegun new} {S = IsSpared path} a b
    (λ f g known first. inr (new, beside (rw known refl), first)) begun)

-- the same files with a path that is the same where they are known
pub placed : (path place new bytes : List ℕ) (a b c : Option Files) → new ≢ place → (IsSome b → place ≡ path)
    → Changed (IsCreated new bytes) a b → Changed (IsRenamed new place) b c → Changed (IsSet path (Some bytes)) a c
placed path place new bytes None None None beside same created renamed = tt
placed path place new bytes None None (Some h) beside same created renamed = elim renamed [ ]
placed path place new bytes None (Some g) c beside same created renamed = elim created [ ]
placed path place new bytes (Some f) None c beside same created renamed = elim created [ ]
placed path place new bytes (Some f) (Some g) None beside same created renamed = elim renamed [ ]
placed path place new bytes (Some f) (Some g) (Some h) beside same created renamed =
    let is : place ≡ path = same refl in
    new_replaces path new bytes f g h (rw is at beside) created (rw is at renamed)

-- the renaming of a new file failed
pub failed_rename : {A E : Type 0} (path new bytes : List ℕ) (plain : Bool) (a b c : Option Files)
    (removed : Result (Unit {0}) E) (fault : FileFault) → IsWriteFault path fault → (IsSome b → new ≢ path)
    → Changed (IsCreated new bytes) a b → OnOk removed (Changed (IsSet new None) b c) → OnErr removed (c ≡ b)
    → HasWritten {A = A} path bytes plain a c (Err fault)
failed_rename path new bytes plain a b c removed fault is beside created gone same =
    failed_and_spared path bytes plain a c fault is
    (spared_beside path new a b c removed beside
    (changed_also {R = IsCreated new bytes} {S = IsBegun new} a b
    (λ f g known is. created_is_begun new bytes f g is) created)
    gone same)
