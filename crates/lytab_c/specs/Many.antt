-- The results of `lytab_parse_all`, by status.
use Rattle.std.specs.Prelude.{◌≡◌, ◌≢◌, ◌<◌, ◌≤◌, ◌⊎◌, ℕ, suc, ◌+◌, ◌-◌, List, [], ◌∷◌, drop, length, take}
use Rattle.std.specs.List.{flat_map}
use Rattle.ly_drive.specs.Answering.{IsDriven}
use Rattle.ly_drive.specs.declared.fault.DriveFault.TheVariants.{Tables}
use Rattle.ly_tables.specs.Refusal.{IsRefusedAs}
use Rattle.ly_tables.specs.TableSet.{TableSet}
use Rattle.ly_tables.specs.declared.fault.TableFault.{TableFault}
use Rattle.ly_tables.specs.declared.fault.TableFault.TheVariants.{OutOfMemory}
use Rattle.lytab_c.specs.Block.{IsFilled, IsPut}
use Rattle.lytab_c.specs.Parsing.{IsParsed, ParseBlocks}
use Rattle.lytab_c.specs.Reports.{needing, nothing_told, numbering, TellsFault}
use Rattle.lytab_c.specs.Statuses.{status_number}
use Rattle.lytab_c.specs.declared.part.Part.{Part}
use Rattle.lytab_c.specs.declared.report.Report.{Report}
use Rattle.lytab_c.specs.declared.status.Status.{Status}
use Rattle.lytab_c.specs.declared.status.Status.TheVariants.{Done, Fault, Memory, Misused, Refused, Short}
use Rattle.lytab_c.specs.declared.text_report.TextReport.{TextReport}

-- the ends are in ascending order, equal ones allowed, from a first byte on, and none is past this many bytes
abbrev pub AreEnds : ℕ → ℕ → List ℕ → Type 0
AreEnds start count [] = Unit {0}
AreEnds start count (end ∷ ends) = ((start ≤ end) × (end ≤ count)) × AreEnds end count ends

-- the first end that is out of order or out of range has this number; the first end has number 1
abbrev pub IsWrongEnd : ℕ → ℕ → List ℕ → ℕ → Type 0
IsWrongEnd start count [] number = ⊥
IsWrongEnd start count (end ∷ ends) number = (((end < start) ⊎ (count < end)) × (number ≡ 1))
    ⊎ (((start ≤ end) × (end ≤ count)) × (before : ℕ) × (number ≡ suc before) × IsWrongEnd end count ends before)

-- texts one after another, the first of which begins at a byte
abbrev pub texts_from : ℕ → List ℕ → List ℕ → List (List ℕ)
texts_from start texts [] = []
texts_from start texts (end ∷ ends) = take (end - start) (drop start texts) ∷ texts_from end texts ends

-- The result for one of many texts.
pub record TextAnswer : Type 0 where
  pub status : Status
  pub report : Report
  pub blocks : ParseBlocks

-- the text has a tree or a syntax error, or the tables fail on it
abbrev pub IsOfText : Status → Type 0
IsOfText Done = Unit {0}
IsOfText Refused = Unit {0}
IsOfText Fault = Unit {0}
IsOfText _ = ⊥

-- This is the result of a call with the text alone, with blocks that are exactly long enough.
pub record IsSaidAlone (tables text : List ℕ) (x : TextAnswer) : Type 0 where
  pub old : ParseBlocks
  pub parts_room : length old.parts ≡ length x.blocks.parts
  pub expected_room : length old.expected ≡ length x.blocks.expected
  pub parsed : IsParsed tables text old x.blocks x.report x.status
  pub of_text : IsOfText x.status
  pub parts : x.report.needed ≡ length x.blocks.parts
  pub expected : x.report.expected ≡ length x.blocks.expected

-- each text has the result that it has alone
abbrev pub AreSaidAlone : List ℕ → List (List ℕ) → List TextAnswer → Type 0
AreSaidAlone tables [] [] = Unit {0}
AreSaidAlone tables [] (x ∷ xs) = ⊥
AreSaidAlone tables (text ∷ texts) [] = ⊥
AreSaidAlone tables (text ∷ texts) (x ∷ xs) = IsSaidAlone tables text x × AreSaidAlone tables texts xs

-- the parts of all texts, and the expected terminals of all texts, one after another
abbrev pub all_parts : List TextAnswer → List Part
all_parts xs = flat_map (λ x. x.blocks.parts) xs

abbrev pub all_expected : List TextAnswer → List ℕ
all_expected xs = flat_map (λ x. x.blocks.expected) xs

-- the reports of the texts, if the parts and the terminals of the first begin at these indices
abbrev pub text_reports : ℕ → ℕ → List TextAnswer → List TextReport
text_reports parts expected [] = []
text_reports parts expected (x ∷ xs) = record {
  status = status_number x.status;
  unused = 0;
  parts_end = parts + length x.blocks.parts;
  expected_end = expected + length x.blocks.expected;
  report = x.report;
} ∷ text_reports (parts + length x.blocks.parts) (expected + length x.blocks.expected) xs

-- the report with the total numbers of parts and expected terminals
abbrev pub total_report : List TextAnswer → Report
total_report xs = record (needing (length (all_parts xs))) { expected = length (all_expected xs) }

-- The blocks of `lytab_parse_all`.
pub record ManyBlocks : Type 0 where
  pub told : List TextReport
  pub parts : List Part
  pub expected : List ℕ

-- Each text has the result that it has alone, and the results are in the blocks, with as many expected terminals as
-- their block holds. Or the table file is rejected. Or memory ran out. Or an end is invalid. Or a block is too short
-- for the reports or the parts. Whatever isn't written is unchanged.
abbrev pub AreAllParsed : List ℕ → List ℕ → List ℕ → ManyBlocks → ManyBlocks → Report → Status → Type 0
AreAllParsed tables texts ends old new report Done = AreEnds 0 (length texts) ends
    × (s : TableSet) × IsDriven tables s × (xs : List TextAnswer) × AreSaidAlone tables (texts_from 0 texts ends) xs
    × IsPut (text_reports 0 0 xs) old.told new.told × IsPut (all_parts xs) old.parts new.parts
    × IsFilled (all_expected xs) old.expected new.expected × (report ≡ total_report xs)
AreAllParsed tables texts ends old new report Refused = ⊥
AreAllParsed tables texts ends old new report Fault = (fault : TableFault) × (fault ≢ OutOfMemory)
    × IsRefusedAs tables fault × TellsFault (Tables fault) report × (new ≡ old)
AreAllParsed tables texts ends old new report Memory = (report ≡ nothing_told) × (new ≡ old)
AreAllParsed tables texts ends old new report Misused = (number : ℕ) × IsWrongEnd 0 (length texts) ends number
    × (report ≡ numbering number) × (new ≡ old)
AreAllParsed tables texts ends old new report Short = AreEnds 0 (length texts) ends
    × (s : TableSet) × IsDriven tables s × (xs : List TextAnswer) × AreSaidAlone tables (texts_from 0 texts ends) xs
    × ((length old.told < length ends) ⊎ (length old.parts < length (all_parts xs))) × (report ≡ total_report xs)
    × (new ≡ old)
