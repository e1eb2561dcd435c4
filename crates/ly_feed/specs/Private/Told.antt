-- What is told of a lexeme by the state where its walk ends.
use Rattle.std.specs.Prelude.{◌≡◌, ◌≢◌, ◌+◌, ◌-◌, ◌≤◌, ℕ, List, Bool, Option, None, Some, false, get_or, length}
use Rattle.std.specs.Prelude.{if◌then◌else◌, nat_eq, nat_lt, slice_get, slice_index, Result, Ok, Err}
use Rattle.ly_base.specs.Lexed.{Place}
use Rattle.ly_base.specs.declared.lexeme.Lexeme.{Lexeme}
use Rattle.ly_base.specs.declared.scan_action.Emitted.{Emitted}
use Rattle.ly_base.specs.declared.scan_action.Emitted.TheVariants.{FirstByte, Nothing, Terminal}
use Rattle.ly_feed.specs.Closed.{progress_of}
use Rattle.ly_feed.specs.SyntaxError.{verdict_of}
use Rattle.ly_feed.specs.Onward.{IsSettled, Onward}
use Rattle.ly_feed.specs.ScanPart.{ScanPart, condition_in, scanner_in, terminal_in}
use Rattle.ly_feed.specs.TableAnswer.{Progress}
use Rattle.ly_feed.specs.Verdict.{faulty}
use Rattle.ly_feed.specs.declared.running.Halt.{Halt}
use Rattle.ly_feed.specs.declared.running.Halt.TheVariants.{At, Stopped}
use Rattle.ly_feed.specs.declared.text_fault.TextFault.{TextFault}
use Rattle.ly_feed.specs.declared.text_fault.TextFault.TheVariants.{FaultyTables, OutOfMemory}
use Rattle.ly_pack.specs.Machine.{Machine}
use Rattle.ly_parse.specs.Parse.{Parse}
use Rattle.ly_scan.specs.Facts.{facts_by}
use Rattle.ly_scan.specs.KnownWalks.{AreKnown, Known}
use Rattle.ly_scan.specs.Pieces.{IsDecided}
use Rattle.ly_scan.specs.StateTable.{StateTable}
use Rattle.ly_scan.specs.Walk.{Walk}
use Rattle.ly_scan.specs.declared.tagged_lexeme.TaggedLexeme.{TaggedLexeme}
use Rattle.ly_tables.specs.declared.scan_rule.ScanRule as scan

-- The number of what a rule does: 0 says nothing, as where it sets a condition, 1 that it returns no terminal, 2 that
-- it returns the first byte's literal, and a greater number names its terminal, where there is one.
abbrev pub number_by : Option ℕ → Emitted → ℕ
number_by (Some condition) emits = 0
number_by None Nothing = 1
number_by None FirstByte = 2
number_by None (Terminal t) = if nat_lt t.0 4294967293 then t.0 + 3 else 0

abbrev pub number_for : scan.ScanRule → ℕ
number_for r = number_by r.action.begin r.action.emits

-- the terminal of a lexeme by the number of its rule and its first byte, if it has one
abbrev pub terminal_told : ScanPart → ℕ → ℕ → Option ℕ
terminal_told p number first =
    if nat_eq number 1 then None else if nat_eq number 2 then slice_get p.literals first else Some (number - 3)

-- A number says what a rule does: it sets no condition, and this is the terminal that it returns.
pub record SaysOf (p : ScanPart) (rule number : ℕ) : Type 0 where
  pub condition : condition_in p rule ≡ None
  pub terminal : (bytes : List ℕ) → terminal_in p rule bytes ≡ terminal_told p number (slice_index bytes 0)

-- numbers of rules that aren't 0 say what these do
abbrev pub AreNumbersOf : ScanPart → List ℕ → Type 0
AreNumbersOf p numbers = (rule : ℕ) → get_or numbers rule 0 ≢ 0 → SaysOf p rule (get_or numbers rule 0)

-- The facts of states are such numbers of their rules.
pub record AreFactsOf (p : ScanPart) (scanner : StateTable) (facts : List ℕ) : Type 0 where
  pub numbers : List ℕ
  pub are : facts ≡ facts_by scanner numbers
  pub say : AreNumbersOf p numbers

-- A lexeme stands at a place, whatever comes, and this is told of it.
pub record IsToldAt (p : ScanPart) (q : Place) (told : TaggedLexeme) : Type 0 where
  pub lexeme : Lexeme
  pub stands : IsDecided false (scanner_in p) q lexeme
  pub taken : lexeme.taken ≡ told.taken
  pub some : told.fact ≢ 0
  pub says : SaysOf p lexeme.rule.0 told.fact

-- What is known of the walks over what is left at a place is so of what is left at another, which is no more.
pub record IsAhead (p q : Place) : Type 0 where
  pub fewer : length q.rest ≤ length p.rest
  pub known : (ahead : ℕ → Walk) (known : Known) (ended : Bool) → AreKnown ahead ended p.rest known
      → AreKnown ahead ended q.rest known

abbrev pub HaltsAhead : Place → Result Halt TextFault → Type 0
HaltsAhead p (Ok (At q)) = IsAhead p q
HaltsAhead p (Ok (Stopped syntax_error)) = Unit {0}
HaltsAhead p (Err fault) = Unit {0}

-- How far a run over lexemes that are told comes: to where the next one isn't, the parse not being over; or something
-- is wrong, or the tables are at fault, whatever comes. Want of memory says nothing.
abbrev pub IsRunOverTold : Bool → ScanPart → Machine → Progress → Parse → Result Halt TextFault → Type 0
IsRunOverTold ended p m w r (Ok (At q)) = Onward ended p m w (progress_of q r) × (r.over ≡ false)
IsRunOverTold ended p m w r (Ok (Stopped syntax_error)) = IsSettled ended p m w (verdict_of syntax_error)
IsRunOverTold ended p m w r (Err FaultyTables) = IsSettled ended p m w faulty
IsRunOverTold ended p m w r (Err OutOfMemory) = Unit {0}
IsRunOverTold ended p m w r (Err _) = ⊥
