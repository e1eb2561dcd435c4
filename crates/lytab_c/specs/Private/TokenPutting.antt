-- How what is known of tokens over a text is put into blocks and told.
use Rattle.std.specs.Prelude.{◌≡◌, ℕ, List, length}
use Rattle.ly_drive.specs.declared.fault.DriveFault.{DriveFault}
use Rattle.ly_drive.specs.declared.fault.DriveFault.TheVariants.{Tables, Text}
use Rattle.ly_feed.specs.SyntaxError.{verdict_of}
use Rattle.ly_feed.specs.Verdict.{faulty}
use Rattle.ly_feed.specs.declared.text_fault.TextFault.{TextFault}
use Rattle.ly_feed.specs.declared.text_fault.TextFault.TheVariants.{FaultyTables, OutOfMemory}
use Rattle.ly_places.specs.Parts.{parts_of}
use Rattle.ly_places.specs.Placed.{Placed}
use Rattle.ly_places.specs.TokenAnswer.{IsPlacedOver, IsTokenVerdict}
use Rattle.ly_places.specs.declared.parsing.Parsed.{Parsed}
use Rattle.ly_places.specs.declared.parsing.Parsed.TheVariants as parsed
use Rattle.ly_tables.specs.TableSet.{TableSet}
use Rattle.lytab_c.specs.Parsing.{IsReported, ParseBlocks}
use Rattle.lytab_c.specs.Reports.{numbering}
use Rattle.lytab_c.specs.Tokens.{given_over, IsFirstWrong}
use Rattle.lytab_c.specs.declared.report.Report.{Report}
use Rattle.lytab_c.specs.declared.status.Status.{Status}
use Rattle.lytab_c.specs.declared.status.Status.TheVariants.{Misused}
use Rattle.lytab_c.specs.declared.caller_token.CallerToken.{CallerToken}

-- a set says this of tokens over a text
abbrev pub IsParsedOver : TableSet → List ℕ → List CallerToken → Parsed → Type 0
IsParsedOver s text tokens (parsed.Tree parts) = (t : Placed) × IsPlacedOver s text (given_over text tokens) t
    × (parts.items ≡ parts_of t)
IsParsedOver s text tokens (parsed.Refused syntax_error) =
    IsTokenVerdict s text (given_over text tokens) (verdict_of syntax_error)

-- it is at fault on them; want of memory says nothing
abbrev pub IsFaultOver : TableSet → List ℕ → List CallerToken → TextFault → Type 0
IsFaultOver s text tokens FaultyTables = IsTokenVerdict s text (given_over text tokens) faulty
IsFaultOver s text tokens OutOfMemory = Unit {0}
IsFaultOver s text tokens _ = ⊥

-- the same of a fault of driving
abbrev pub IsDriveFaultOver : TableSet → List ℕ → List CallerToken → DriveFault → Type 0
IsDriveFaultOver s text tokens (Tables fault) = ⊥
IsDriveFaultOver s text tokens (Text fault) = IsFaultOver s text tokens fault

-- what a set says of them is put into blocks and told, if each is one
abbrev pub AreTokensSaid : TableSet → List ℕ → List CallerToken → ParseBlocks → ParseBlocks → Report → Status → Type 0
AreTokensSaid s text tokens old new report Misused = (number : ℕ)
    × IsFirstWrong (length s.terminals) (length text) tokens number × (report ≡ numbering number) × (new ≡ old)
AreTokensSaid s text tokens old new report status = IsReported (IsPlacedOver s text (given_over text tokens))
    (λ syntax_error. IsTokenVerdict s text (given_over text tokens) (verdict_of syntax_error))
    (IsDriveFaultOver s text tokens) old new
    report status
