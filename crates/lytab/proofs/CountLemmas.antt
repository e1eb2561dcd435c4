-- Whether there are as many conflicts as there are to be.
use Rattle.std.proofs.Common.{◌≡◌, ◌∙◌, ◌&&◌, ◌==◌, ap, ap₂, Bool, false, is_some, List, None, Option, refl, Some}
use Rattle.std.proofs.Common.{sym, true}
use Rattle.std.proofs.Common.{true≢false, unwrap_or, ℕ}
use Rattle.std.proofs.lemmas.Bool.{eq-eqb, eqb-true}
use Rattle.ly_base.specs.declared.version.Version.{Version}
use Rattle.ly_files.specs.Folder.{Files}
use Rattle.ly_report.specs.declared.counts.ConflictCounts.{ConflictCounts}
use Rattle.lytab.specs.CarriedOut.{AreAsExpected}
use Rattle.lytab.specs.Completion.{are_expected, missed_count}
use Rattle.lytab.specs.Failure.{IsOfDevice}
use Rattle.lytab.specs.Refusal.{IsRefusalOfBuild}
use Rattle.lytab.specs.declared.failure.Failure.{Failure}
use Rattle.lytab.specs.declared.failure.Failure.TheVariants.{CannotRead, CannotWrite, FaultyTables, OutOfMemory}
use Rattle.lytab.specs.declared.failure.Failure.TheVariants.{Refused, Tables, TooLong, Unexpected, Unreadable}

both_hold : (counts : ConflictCounts) (n : ℕ) (a b : Bool) → (counts.shift_reduce == n) ≡ a
    → (counts.reduce_reduce == 0) ≡ b → (a && b) ≡ true → AreAsExpected (Some n) counts
both_hold counts n true true p q is = (eqb-true _ _ p, eqb-true _ _ q)
both_hold counts n true false p q is = absurd (true≢false (sym is))
both_hold counts n false b p q is = absurd (true≢false (sym is))

-- so many are to be there, and are
pub counts_hold : (expected : Option ℕ) (counts : ConflictCounts) → missed_count expected counts ≡ None
    → AreAsExpected expected counts
counts_hold None counts none = tt
counts_hold (Some n) counts none = by (are_expected (Some n) counts) refl
  where
    by : (x : Bool) → are_expected (Some n) counts ≡ x → AreAsExpected (Some n) counts
    by true is = both_hold counts n _ _ refl refl is
    by false is =
        let missed : missed_count (Some n) counts ≡ Some n = rw is refl in
        absurd (true≢false (ap is_some (sym missed) ∙ ap is_some none))

-- so many are to be there, and there are others
pub counts_differ : (expected : Option ℕ) (counts : ConflictCounts) (wanted : ℕ)
    → missed_count expected counts ≡ Some wanted
    → (expected ≡ Some wanted) × ((counts.shift_reduce ≡ wanted) × (counts.reduce_reduce ≡ 0) → ⊥)
counts_differ None counts wanted some = absurd (true≢false (ap is_some (sym some)))
counts_differ (Some n) counts wanted some = by (are_expected (Some n) counts) refl
  where
    all_hold : (counts.shift_reduce ≡ wanted) × (counts.reduce_reduce ≡ 0) → Some n ≡ Some wanted
        → are_expected (Some n) counts ≡ true
    all_hold both same = ap₂ (λ a b. a && b)
        (eq-eqb _ _ (both.0 ∙ sym (ap (λ o. unwrap_or o 0) same))) (eq-eqb _ _ both.1)

    by : (x : Bool) → are_expected (Some n) counts ≡ x
        → (Some n ≡ Some wanted) × ((counts.shift_reduce ≡ wanted) × (counts.reduce_reduce ≡ 0) → ⊥)
    by true is =
        let none : missed_count (Some n) counts ≡ None = rw is refl in
        absurd (true≢false (ap is_some (sym some) ∙ ap is_some none))
    by false is =
        let missed : missed_count (Some n) counts ≡ Some n = rw is refl in
        let same : Some n ≡ Some wanted = sym missed ∙ some in
        (same, λ both. absurd (true≢false (sym (all_hold both same) ∙ is)))

-- that a device fails or memory runs out is said of each command
pub device_of_build : (version : Version) (expected : Option ℕ) (files : Option Files) (lex yacc : List ℕ)
    (f : Failure) → IsOfDevice f → IsRefusalOfBuild version expected files lex yacc f
device_of_build version expected files lex yacc (CannotRead path) is = tt
device_of_build version expected files lex yacc (Unreadable path reason) is = tt
device_of_build version expected files lex yacc (CannotWrite path) is = tt
device_of_build version expected files lex yacc OutOfMemory is = tt
device_of_build version expected files lex yacc (Refused fault line) is = absurd is
device_of_build version expected files lex yacc (Unexpected counts wanted) is = absurd is
device_of_build version expected files lex yacc (Tables fault) is = absurd is
device_of_build version expected files lex yacc FaultyTables is = absurd is
device_of_build version expected files lex yacc TooLong is = absurd is
