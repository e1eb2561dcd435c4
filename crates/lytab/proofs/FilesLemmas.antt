-- Lemmas on the files that a command writes.
use Rattle.std.proofs.Common.{◌≡◌, ◌≢◌, ◌∙◌, ◌⊎◌, ◌∷◌, ◌++◌, ℕ, List, Option, Some, None, ap, false, inl, inr}
use Rattle.std.proofs.Common.{refl, subst, sym, true≢false}
use Rattle.std.specs.Prelude.{Err, IfErr, Ok, OnErr, OnOk, Result, bytes_eq, is_some}
use Rattle.std.specs.Result.{IsErrAnd}
use Rattle.std.specs.declared.alloc.Global.{Global}
use Rattle.std.specs.declared.vec.Vec.{Vec}
use Rattle.ly_cli.specs.Paths.{as_list}
use Rattle.ly_files.proofs.ChangeLemmas.{changed_also, changed_twice, unchanged}
use Rattle.ly_files.proofs.FolderLemmas.{differ, same_or_not, set_here, set_there}
use Rattle.ly_files.specs.Folder.{AreSame, Changed, Files, IsBegun, IsSet, IsSparedOrSet, set}
use Rattle.ly_cli.specs.Request.{Request, build, check, explain, lines, run, run_placed, table_tokens}
use Rattle.ly_cli.specs.Request.{tokens, try, try_placed}
use Rattle.ly_files.specs.declared.file_fault.FileFault.{FileFault}
use Rattle.ly_files.specs.declared.file_fault.FileFault.TheVariants.{CannotRead, CannotWrite, OutOfMemory}
use Rattle.lytab.specs.Failure.{IsOfDevice, failure_of_file}
use Rattle.lytab.specs.declared.failure.Failure.{Failure}
use Rattle.lytab.specs.Files.{AreFilesLeft, AreOthersKept, AreWritten, IsLeftIf, IsOther, set_if}

-- a path is among these: no other path is the same
abbrev Names : List (List ℕ) → List ℕ → Type 0
Names paths path = (p : List ℕ) → IsOther paths p → p ≢ path

-- the same, of a path that may be given
abbrev NamesIf : List (List ℕ) → Option (List ℕ) → Type 0
NamesIf paths None = Unit {0}
NamesIf paths (Some path) = Names paths path

-- unchanged files are kept
pub kept_same : (paths : List (List ℕ)) (a : Option Files) → Changed (AreOthersKept paths) a a
kept_same paths a = unchanged (AreOthersKept paths) (λ f p other some. refl) a

kept_by_same : (paths : List (List ℕ)) (f g : Files) → AreSame f g → AreOthersKept paths f g
kept_by_same paths f g same p other some = same p

kept_by_set : (paths : List (List ℕ)) (path : List ℕ) (file : Option (List ℕ)) (f g : Files) → Names paths path
    → IsSet path file f g → AreOthersKept paths f g
kept_by_set paths path file f g among is p other some =
    is p ∙ set_there path file f p (differ p path (among p other))

kept_by_begun : (paths : List (List ℕ)) (new : List ℕ) (f g : Files) → IsBegun new f g → AreOthersKept paths f g
kept_by_begun paths new f g begun p other some = by (same_or_not p new)
  where
    by : (p ≡ new) ⊎ (bytes_eq p new ≡ false) → g p ≡ f p
    by (inl same) = absurd (true≢false (sym some ∙ ap (λ q. is_some (f q)) same ∙ ap is_some begun.0))
    by (inr apart) = begun.1.1 p ∙ set_there new begun.1.0 f p apart

kept_by_spared_or_set : (paths : List (List ℕ)) (path : List ℕ) (f g : Files) → Names paths path
    → IsSparedOrSet path f g → AreOthersKept paths f g
kept_by_spared_or_set paths path f g among (inl (inl same)) = kept_by_same paths f g same
kept_by_spared_or_set paths path f g among (inl (inr new)) = kept_by_begun paths new.0 f g new.2
kept_by_spared_or_set paths path f g among (inr is) = kept_by_set paths path is.0 f g among is.1

kept_by_set_if : (paths : List (List ℕ)) (path : Option (List ℕ)) (bytes : Option (Vec ℕ Global)) (f g : Files)
    → NamesIf paths path → AreSame (set_if path bytes f) g → AreOthersKept paths f g
kept_by_set_if paths None bytes f g among is = kept_by_same paths f g is
kept_by_set_if paths (Some path) None f g among is = kept_by_same paths f g is
kept_by_set_if paths (Some path) (Some bytes) f g among is = kept_by_set paths path (Some bytes.items) f g among is

kept_twice : (paths : List (List ℕ)) (f g h : Files) → AreOthersKept paths f g → AreOthersKept paths g h
    → AreOthersKept paths f h
kept_twice paths f g h first second p other some =
    second p other (ap is_some (first p other some) ∙ some) ∙ first p other some

-- two changes, one after the other, keep what both keep
pub both_keep : (paths : List (List ℕ)) (a b c : Option Files) → Changed (AreOthersKept paths) a b
    → Changed (AreOthersKept paths) b c → Changed (AreOthersKept paths) a c
both_keep paths a b c first second =
    changed_twice {R = AreOthersKept paths} {S = AreOthersKept paths} {T = AreOthersKept paths} a b c
    (λ f g h known one two. kept_twice paths f g h one two) first second

-- what writing a file keeps, and what an attempt keeps
pub writing_keeps : {T E : Type 0} (paths : List (List ℕ)) (path bytes : List ℕ) (r : Result T E) (a b : Option Files)
    → Names paths path → OnOk r (Changed (IsSet path (Some bytes)) a b) → OnErr r (Changed (IsSparedOrSet path) a b)
    → Changed (AreOthersKept paths) a b
writing_keeps paths path bytes (Ok v) a b among written left =
    changed_also {R = IsSet path (Some bytes)} {S = AreOthersKept paths} a b
    (λ f g known is. kept_by_set paths path (Some bytes) f g among is) written
writing_keeps paths path bytes (Err e) a b among written left =
    changed_also {R = IsSparedOrSet path} {S = AreOthersKept paths} a b
    (λ f g known is. kept_by_spared_or_set paths path f g among is) left

pub writing_if_keeps : {T E : Type 0} (paths : List (List ℕ)) (path : Option (List ℕ)) (bytes : Option (Vec ℕ Global))
    (r : Result T E) (a b : Option Files) → NamesIf paths path → OnOk r (AreWritten (set_if path bytes) a b)
    → OnErr r (IsLeftIf path a b) → Changed (AreOthersKept paths) a b
writing_if_keeps paths path bytes (Ok v) a b among written left =
    changed_also {R = λ f g. AreSame (set_if path bytes f) g} {S = AreOthersKept paths} a b
    (λ f g known is. kept_by_set_if paths path bytes f g among is) written
writing_if_keeps paths None bytes (Err e) a b among written left = rw left (kept_same paths a)
writing_if_keeps paths (Some path) bytes (Err e) a b among written left =
    changed_also {R = IsSparedOrSet path} {S = AreOthersKept paths} a b
    (λ f g known is. kept_by_spared_or_set paths path f g among is) left

-- files that are the same are the same after a change
set_if_same : (path : Option (List ℕ)) (bytes : Option (Vec ℕ Global)) (f g : Files) → AreSame f g
    → AreSame (set_if path bytes f) (set_if path bytes g)
set_if_same None bytes f g same = same
set_if_same (Some path) None f g same = same
set_if_same (Some path) (Some bytes) f g same = λ p. by p (same_or_not p path)
  where
    by : (p : List ℕ) → (p ≡ path) ⊎ (bytes_eq p path ≡ false)
        → set path (Some bytes.items) g p ≡ set path (Some bytes.items) f p
    by p (inl here) = rw here (set_here path (Some bytes.items) g ∙ sym (set_here path (Some bytes.items) f))
    by p (inr apart) = set_there path (Some bytes.items) g p apart ∙ same p
        ∙ sym (set_there path (Some bytes.items) f p apart)

-- a change and then a file that may be written
pub written_twice : (first : Files → Files) (path : Option (List ℕ)) (bytes : Option (Vec ℕ Global))
    (a b c : Option Files) → AreWritten first a b → AreWritten (set_if path bytes) b c
    → AreWritten (λ f. set_if path bytes (first f)) a c
written_twice first path bytes a b c one two =
    changed_twice {R = λ f g. AreSame (first f) g} {S = λ f g. AreSame (set_if path bytes f) g}
    {T = λ f g. AreSame (set_if path bytes (first f)) g} a b c
    (λ f g h known was is p. is p ∙ set_if_same path bytes (first f) g was p) one two

-- the paths of `build`
pub names_tables : (tables : List ℕ) (report : Option (List ℕ)) → Names (tables ∷ as_list report) tables
names_tables tables report p other = other.0

pub names_report : (tables : List ℕ) (report : Option (List ℕ)) → NamesIf (tables ∷ as_list report) report
names_report tables None = tt
names_report tables (Some path) = λ p other. other.1.0

-- the paths of `explain`
pub names_states : (states graph : Option (List ℕ)) → NamesIf (as_list states ++ as_list graph) states
names_states None graph = tt
names_states (Some path) graph = λ p other. other.0

pub names_graph : (states graph : Option (List ℕ)) → NamesIf (as_list states ++ as_list graph) graph
names_graph states None = tt
names_graph None (Some path) = λ p other. other.0
names_graph (Some states) (Some path) = λ p other. other.1.0

-- a command that changed no file
pub files_kept : (request : Request) (f : Failure) (a : Option Files) → AreFilesLeft request (Err f) a a
files_kept (tokens lex text by) f a = refl
files_kept (table_tokens tables text by) f a = refl
files_kept (build lex yacc tables report version expected points) f a =
    (kept_same (tables ∷ as_list report) a, λ not. refl)
files_kept (run tables text by) f a = refl
files_kept (lines tables text by) f a = refl
files_kept (run_placed tables text points) f a = refl
files_kept (try_placed lex yacc text points) f a = refl
files_kept (try lex yacc text by) f a = refl
files_kept (check tables by) f a = refl
files_kept (explain lex yacc states graph strictness form) f a = kept_same (as_list states ++ as_list graph) a

-- nothing is said of a failure of a device
pub device_kept : {T : Type 0} (P : Type 0) (r : Result T Failure) (fault : FileFault)
    → IsErrAnd r (λ f. f ≡ failure_of_file fault) → IfErr r (λ f. (IsOfDevice f → ⊥) → P)
device_kept P (Ok v) fault is = absurd is
device_kept P (Err f) (CannotRead path reason) is = λ not. absurd (not (subst IsOfDevice (sym is) tt))
device_kept P (Err f) (CannotWrite path reason) is = λ not. absurd (not (subst IsOfDevice (sym is) tt))
device_kept P (Err f) OutOfMemory is = λ not. absurd (not (subst IsOfDevice (sym is) tt))
