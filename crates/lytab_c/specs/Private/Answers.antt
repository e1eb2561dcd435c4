-- What is said of texts, as it is collected.
use Rattle.std.specs.Prelude.{◌≡◌, ◌≢◌, ◌<◌, ◌⊎◌, ℕ, List, [], ◌∷◌, length}
use Rattle.ly_drive.specs.Answering.{IsDriven}
use Rattle.ly_drive.specs.declared.fault.DriveFault.{DriveFault}
use Rattle.ly_drive.specs.declared.fault.DriveFault.TheVariants.{Tables, Text}
use Rattle.ly_feed.specs.SyntaxError.{verdict_of}
use Rattle.ly_feed.specs.TableAnswer.{IsVerdict}
use Rattle.ly_feed.specs.Verdict.{faulty}
use Rattle.ly_feed.specs.declared.syntax_error.SyntaxError.{SyntaxError}
use Rattle.ly_feed.specs.declared.text_fault.TextFault.TheVariants.{OutOfMemory}
use Rattle.ly_places.specs.Parts.{parts_of}
use Rattle.ly_places.specs.Placed.{Placed}
use Rattle.ly_places.specs.PlacedAnswer.{IsPlacedBy}
use Rattle.ly_places.specs.declared.part.Part as tree
use Rattle.ly_tables.specs.Refusal.{IsRefusedAs}
use Rattle.ly_tables.specs.TableSet.{TableSet}
use Rattle.ly_tables.specs.declared.fault.TableFault.TheVariants as file
use Rattle.lytab_c.specs.Block.{IsFilled, IsPut}
use Rattle.lytab_c.specs.Many.{all_expected, all_parts, text_reports, texts_from, total_report, ManyBlocks, TextAnswer}
use Rattle.lytab_c.specs.Parsing.{expected_in, listed}
use Rattle.lytab_c.specs.Reports.{at_fault, syntax_error_report, needing}
use Rattle.lytab_c.specs.declared.answer_list.AnswerList.{AnswerList}
use Rattle.lytab_c.specs.declared.report.Report.{Report}
use Rattle.lytab_c.specs.declared.status.Status.{Status}
use Rattle.lytab_c.specs.declared.status.Status.TheVariants.{Done, Fault, Refused, Short}

-- a list holds what is said of these texts
pub record AreHeld (xs : List TextAnswer) (list : AnswerList) : Type 0 where
  pub texts : list.texts.items ≡ text_reports 0 0 xs
  pub parts : list.parts.items ≡ all_parts xs
  pub expected : list.expected.items ≡ all_expected xs

-- a tree of these parts
abbrev pub tree_answer : List tree.Part → TextAnswer
tree_answer ps = record {
  status = Done;
  report = needing (length ps);
  blocks = record { parts = listed 0 ps; expected = [] };
}

-- a flaw
abbrev pub syntax_error_answer : SyntaxError → TextAnswer
syntax_error_answer syntax_error = record {
  status = Refused;
  report = syntax_error_report syntax_error;
  blocks = record { parts = []; expected = expected_in syntax_error };
}

-- tables that are at fault
abbrev pub fault_answer : TextAnswer
fault_answer = record { status = Fault; report = at_fault 90 0; blocks = record { parts = []; expected = [] } }

-- a set says this of a text
abbrev pub IsAnswerBy : TableSet → List ℕ → TextAnswer → Type 0
IsAnswerBy s text x = ((t : Placed) × IsPlacedBy s text t × (x ≡ tree_answer (parts_of t)))
    ⊎ (((syntax_error : SyntaxError) × IsVerdict s text (verdict_of syntax_error)
    × (x ≡ syntax_error_answer syntax_error))
    ⊎ (IsVerdict s text faulty × (x ≡ fault_answer)))

-- it says these of texts
abbrev pub AreAnswersBy : TableSet → List (List ℕ) → List TextAnswer → Type 0
AreAnswersBy s [] [] = Unit {0}
AreAnswersBy s [] (x ∷ xs) = ⊥
AreAnswersBy s (text ∷ texts) [] = ⊥
AreAnswersBy s (text ∷ texts) (x ∷ xs) = IsAnswerBy s text x × AreAnswersBy s texts xs

abbrev pub AreAnsweredBy : TableSet → List ℕ → List ℕ → AnswerList → Type 0
AreAnsweredBy s texts ends list = (xs : List TextAnswer) × AreAnswersBy s (texts_from 0 texts ends) xs
    × AreHeld xs list

-- a set that the bytes of the table file spell does
abbrev pub AreAllAnswered : List ℕ → List ℕ → List ℕ → AnswerList → Type 0
AreAllAnswered tables texts ends list = (s : TableSet) × IsDriven tables s × AreAnsweredBy s texts ends list

-- the table file is refused; want of memory says nothing
abbrev pub IsTablesFault : List ℕ → DriveFault → Type 0
IsTablesFault tables (Tables fault) = (fault ≢ file.OutOfMemory) × IsRefusedAs tables fault
IsTablesFault tables (Text OutOfMemory) = Unit {0}
IsTablesFault tables (Text _) = ⊥

-- answers are put into blocks where there is room
abbrev pub AreAllPut : List TextAnswer → ManyBlocks → ManyBlocks → Report → Status → Type 0
AreAllPut xs old new report Done = IsPut (text_reports 0 0 xs) old.told new.told
    × IsPut (all_parts xs) old.parts new.parts × IsFilled (all_expected xs) old.expected new.expected
    × (report ≡ total_report xs)
AreAllPut xs old new report Short = ((length old.told < length xs) ⊎ (length old.parts < length (all_parts xs)))
    × (report ≡ total_report xs) × (new ≡ old)
AreAllPut xs old new report _ = ⊥
