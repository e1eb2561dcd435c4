-- What a failure says that stands for a fault of driving.
use Rattle.std.proofs.Common.{◌≡◌, ℕ, List, Option, ap, refl, subst, sym}
use Rattle.ly_drive.specs.Answering.{IsDriven, IsFaultyOn}
use Rattle.ly_drive.specs.TableTokens.{HasBadCut}
use Rattle.ly_drive.specs.declared.fault.DriveFault.{DriveFault}
use Rattle.ly_drive.specs.declared.fault.DriveFault.TheVariants as drive
use Rattle.ly_feed.specs.declared.text_fault.TextFault.{TextFault}
use Rattle.ly_feed.specs.declared.text_fault.TextFault.TheVariants as text
use Rattle.ly_tables.specs.Refusal.{IsRefusedAs}
use Rattle.ly_tables.specs.TableSet.{TableSet}
use Rattle.ly_tables.specs.declared.fault.TableFault.{TableFault}
use Rattle.ly_tables.specs.declared.fault.TableFault.TheVariants as file
use Rattle.lytab.specs.Failure.{IsOfAnswering, IsOfDriving, IsOfReader, IsOfWriter}
use Rattle.lytab.specs.Refusal.{IsRefusalOfFiles, IsRefusalOfTables}
use Rattle.lytab.specs.TableTokens.{IsRefusalOfScanner}
use Rattle.lytab.specs.declared.failure.Failure.{Failure}
use Rattle.lytab.specs.declared.failure.Failure.TheVariants.{CannotRead, CannotWrite, FaultyTables, OutOfMemory}
use Rattle.lytab.specs.declared.failure.Failure.TheVariants.{Refused, Tables, TooLong, Unexpected, Unreadable}

-- a failure isn't of a reader and of a writer
apart : (f : Failure) → IsOfReader f → IsOfWriter f → ⊥
apart (CannotRead path) h w = w
apart (Unreadable path reason) h w = h
apart (CannotWrite path) h w = h
apart (Refused fault line) h w = h
apart (Unexpected counts wanted) h w = h
apart (Tables fault) h w = h
apart FaultyTables h w = h
apart TooLong h w = h
apart OutOfMemory h w = h

-- that of a writer comes of a write
pub written_by_text : (fault : TextFault) (f : Failure) → IsOfAnswering fault f → IsOfWriter f
    → (written : ℕ) × (fault ≡ text.Write written)
written_by_text text.FaultyTables f is w = absurd (subst IsOfWriter is w)
written_by_text text.TooLong f is w = absurd (subst IsOfWriter is w)
written_by_text text.Read f is w = absurd (apart f is w)
written_by_text (text.Write written) f is w = (written, refl)
written_by_text text.OutOfMemory f is w = absurd (subst IsOfWriter is w)

pub written_by : (fault : DriveFault) (f : Failure) → IsOfDriving fault f → IsOfWriter f
    → (written : ℕ) × (fault ≡ drive.Text (text.Write written))
written_by (drive.Tables x) f is w = absurd (subst IsOfWriter is w)
written_by (drive.Text fault) f is w = let n = written_by_text fault f is w in (n.0, ap drive.Text n.1)

module _ (tables : List ℕ) (given : Option (List ℕ)) where
  scanner_read : (f : Failure) → IsOfReader f → IsRefusalOfScanner tables given f
  scanner_read (CannotRead path) h = tt
  scanner_read (Unreadable path reason) h = absurd h
  scanner_read (CannotWrite path) h = absurd h
  scanner_read (Refused fault line) h = absurd h
  scanner_read (Unexpected counts wanted) h = absurd h
  scanner_read (Tables fault) h = absurd h
  scanner_read FaultyTables h = absurd h
  scanner_read TooLong h = absurd h
  scanner_read OutOfMemory h = absurd h

  scanner_write : (f : Failure) → IsOfWriter f → IsRefusalOfScanner tables given f
  scanner_write (CannotRead path) h = absurd h
  scanner_write (Unreadable path reason) h = absurd h
  scanner_write (CannotWrite path) h = tt
  scanner_write (Refused fault line) h = absurd h
  scanner_write (Unexpected counts wanted) h = absurd h
  scanner_write (Tables fault) h = absurd h
  scanner_write FaultyTables h = absurd h
  scanner_write TooLong h = absurd h
  scanner_write OutOfMemory h = absurd h

  -- where the scanner of a table file takes a text apart
  pub scanner_refused : (fault : DriveFault) (f : Failure) → IsOfDriving fault f
      → ((x : TableFault) → fault ≡ drive.Tables x → (x ≡ file.OutOfMemory → ⊥) × IsRefusedAs tables x)
      → (fault ≡ drive.Text text.FaultyTables → (s : TableSet) × IsDriven tables s × HasBadCut s given)
      → (fault ≡ drive.Text text.TooLong → ⊥) → IsRefusalOfScanner tables given f
  scanner_refused (drive.Tables x) f is refused faulty long =
      subst (IsRefusalOfScanner tables given) (sym is) (refused x refl)
  scanner_refused (drive.Text text.FaultyTables) f is refused faulty long =
      subst (IsRefusalOfScanner tables given) (sym is) (faulty refl)
  scanner_refused (drive.Text text.TooLong) f is refused faulty long = absurd (long refl)
  scanner_refused (drive.Text text.Read) f is refused faulty long = scanner_read f is
  scanner_refused (drive.Text (text.Write written)) f is refused faulty long = scanner_write f is
  scanner_refused (drive.Text text.OutOfMemory) f is refused faulty long =
      subst (IsRefusalOfScanner tables given) (sym is) tt

  tables_read : (f : Failure) → IsOfReader f → IsRefusalOfTables tables given f
  tables_read (CannotRead path) h = tt
  tables_read (Unreadable path reason) h = absurd h
  tables_read (CannotWrite path) h = absurd h
  tables_read (Refused fault line) h = absurd h
  tables_read (Unexpected counts wanted) h = absurd h
  tables_read (Tables fault) h = absurd h
  tables_read FaultyTables h = absurd h
  tables_read TooLong h = absurd h
  tables_read OutOfMemory h = absurd h

  tables_write : (f : Failure) → IsOfWriter f → IsRefusalOfTables tables given f
  tables_write (CannotRead path) h = absurd h
  tables_write (Unreadable path reason) h = absurd h
  tables_write (CannotWrite path) h = tt
  tables_write (Refused fault line) h = absurd h
  tables_write (Unexpected counts wanted) h = absurd h
  tables_write (Tables fault) h = absurd h
  tables_write FaultyTables h = absurd h
  tables_write TooLong h = absurd h
  tables_write OutOfMemory h = absurd h

  -- where a table file answers it with places, which takes no text to be too long
  pub tables_refused : (fault : DriveFault) (f : Failure) → IsOfDriving fault f
      → ((x : TableFault) → fault ≡ drive.Tables x → (x ≡ file.OutOfMemory → ⊥) × IsRefusedAs tables x)
      → (fault ≡ drive.Text text.FaultyTables → (s : TableSet) × IsDriven tables s × IsFaultyOn s given)
      → (fault ≡ drive.Text text.TooLong → ⊥) → IsRefusalOfTables tables given f
  tables_refused (drive.Tables x) f is refused faulty long =
      subst (IsRefusalOfTables tables given) (sym is) (refused x refl)
  tables_refused (drive.Text text.FaultyTables) f is refused faulty long =
      subst (IsRefusalOfTables tables given) (sym is) (faulty refl)
  tables_refused (drive.Text text.TooLong) f is refused faulty long = absurd (long refl)
  tables_refused (drive.Text text.Read) f is refused faulty long = tables_read f is
  tables_refused (drive.Text (text.Write written)) f is refused faulty long = tables_write f is
  tables_refused (drive.Text text.OutOfMemory) f is refused faulty long =
      subst (IsRefusalOfTables tables given) (sym is) tt

module _ (lex yacc : List ℕ) (given : Option (List ℕ)) where
  files_read : (f : Failure) → IsOfReader f → IsRefusalOfFiles lex yacc given f
  files_read (CannotRead path) h = tt
  files_read (Unreadable path reason) h = absurd h
  files_read (CannotWrite path) h = absurd h
  files_read (Refused fault line) h = absurd h
  files_read (Unexpected counts wanted) h = absurd h
  files_read (Tables fault) h = absurd h
  files_read FaultyTables h = absurd h
  files_read TooLong h = absurd h
  files_read OutOfMemory h = absurd h

  files_write : (f : Failure) → IsOfWriter f → IsRefusalOfFiles lex yacc given f
  files_write (CannotRead path) h = absurd h
  files_write (Unreadable path reason) h = absurd h
  files_write (CannotWrite path) h = tt
  files_write (Refused fault line) h = absurd h
  files_write (Unexpected counts wanted) h = absurd h
  files_write (Tables fault) h = absurd h
  files_write FaultyTables h = absurd h
  files_write TooLong h = absurd h
  files_write OutOfMemory h = absurd h

  -- where a lex file and a yacc file answer it with places
  pub files_refused : (fault : TextFault) (f : Failure) → IsOfAnswering fault f → (fault ≡ text.FaultyTables → ⊥)
      → (fault ≡ text.TooLong → ⊥) → IsRefusalOfFiles lex yacc given f
  files_refused text.FaultyTables f is faulty long = absurd (faulty refl)
  files_refused text.TooLong f is faulty long = absurd (long refl)
  files_refused text.Read f is faulty long = files_read f is
  files_refused (text.Write written) f is faulty long = files_write f is
  files_refused text.OutOfMemory f is faulty long = subst (IsRefusalOfFiles lex yacc given) (sym is) tt
