-- The results of `lytab_parse`, by status.
use Rattle.std.specs.Prelude.{◌≡◌, ◌<◌, ℕ, suc, ◌+◌, List, [], ◌∷◌, length, map}
use Rattle.ly_drive.specs.Answering.{IsDriven}
use Rattle.ly_drive.specs.declared.fault.DriveFault.{DriveFault}
use Rattle.ly_feed.specs.SyntaxError.{verdict_of}
use Rattle.ly_feed.specs.TableAnswer.{IsVerdict}
use Rattle.ly_feed.specs.declared.syntax_error.SyntaxError.{SyntaxError}
use Rattle.ly_feed.specs.declared.syntax_error.SyntaxError.TheVariants as syntax_errors
use Rattle.ly_places.specs.Parts.{parts_of}
use Rattle.ly_places.specs.Placed.{Placed}
use Rattle.ly_places.specs.PlacedAnswer.{IsPlacedBy}
use Rattle.ly_places.specs.declared.part.Part as tree
use Rattle.ly_places.specs.declared.part.PartKind.{PartKind}
use Rattle.ly_places.specs.declared.part.PartKind.TheVariants.{Node, Nothing, Token}
use Rattle.ly_tables.specs.TableSet.{TableSet}
use Rattle.lytab_c.specs.Block.{IsFilled, IsPut}
use Rattle.lytab_c.specs.Faults.{IsFaultOn}
use Rattle.lytab_c.specs.Reports.{syntax_error_report, needing, nothing_told, TellsFault}
use Rattle.lytab_c.specs.declared.part.Part.{Part}
use Rattle.lytab_c.specs.declared.report.Report.{Report}
use Rattle.lytab_c.specs.declared.status.Status.{Status}
use Rattle.lytab_c.specs.declared.status.Status.TheVariants.{Done, Fault, Memory, Misused, Refused, Short}

-- the number of a part's kind
abbrev pub kind_number : PartKind → ℕ
kind_number Nothing = 0
kind_number (Token terminal) = 1
kind_number (Node rule) = 2

-- the terminal of a token, the rule of a node
abbrev pub kind_symbol : PartKind → ℕ
kind_symbol Nothing = 0
kind_symbol (Token terminal) = terminal.0
kind_symbol (Node rule) = rule.0

-- the C form of a part with this index in its list
abbrev pub part_at : ℕ → tree.Part → Part
part_at index p = record {
  kind = kind_number p.kind;
  number = kind_symbol p.kind;
  start = p.extent.start;
  end = p.extent.end;
  next = index + p.parts;
}

-- the C form of the parts of a list, from this index on
abbrev pub listed : ℕ → List tree.Part → List Part
listed index [] = []
listed index (p ∷ ps) = part_at index p ∷ listed (suc index) ps

-- A set with these table file bytes gives for the text this tree, with the spans of its parts.
abbrev pub IsTreeOf : List ℕ → List ℕ → Placed → Type 0
IsTreeOf tables text t = (s : TableSet) × IsDriven tables s × IsPlacedBy s text t

-- Such a set gives for the text this syntax error.
abbrev pub IsSyntaxErrorOf : List ℕ → List ℕ → SyntaxError → Type 0
IsSyntaxErrorOf tables text syntax_error = (s : TableSet) × IsDriven tables s
    × IsVerdict s text (verdict_of syntax_error)

-- the numbers of the expected terminals of a syntax error
abbrev pub expected_in : SyntaxError → List ℕ
expected_in (syntax_errors.Refused number token expected) = map (λ t. t.0) expected.items
expected_in (syntax_errors.NoRule byte) = []

-- What a call does to its two blocks and its report.
pub record ParseBlocks : Type 0 where
  pub parts : List Part
  pub expected : List ℕ

-- The results of parsing something, given what it means that it has a tree, that it has a syntax error, and that the
-- tables fail on it. It has a tree, whose parts are in the block of parts. Or it has a syntax error, and as many
-- expected terminals are in the other block as it holds. Or the tables are rejected or fail. Or memory ran out. Or it
-- has a tree, and the block is too short for its parts. Whatever isn't written is unchanged.
abbrev pub IsReported : (Placed → Type 0) → (SyntaxError → Type 0) → (DriveFault → Type 0) → ParseBlocks
    → ParseBlocks → Report
    → Status → Type 0
IsReported IsTree IsSyntaxError IsFault old new report Done = (t : Placed) × IsTree t
    × IsPut (listed 0 (parts_of t)) old.parts new.parts × (report ≡ needing (length (parts_of t)))
    × (new.expected ≡ old.expected)
IsReported IsTree IsSyntaxError IsFault old new report Refused = (syntax_error : SyntaxError)
    × IsSyntaxError syntax_error
    × IsFilled (expected_in syntax_error) old.expected new.expected × (report ≡ syntax_error_report syntax_error)
    × (new.parts ≡ old.parts)
IsReported IsTree IsSyntaxError IsFault old new report Fault = (fault : DriveFault) × IsFault fault
    × TellsFault fault report
    × (new ≡ old)
IsReported IsTree IsSyntaxError IsFault old new report Memory = (report ≡ nothing_told) × (new ≡ old)
IsReported IsTree IsSyntaxError IsFault old new report Misused = ⊥
IsReported IsTree IsSyntaxError IsFault old new report Short = (t : Placed) × IsTree t
    × (length old.parts < length (parts_of t)) × (report ≡ needing (length (parts_of t))) × (new ≡ old)

-- the same for a text and a table file
abbrev pub IsParsed : List ℕ → List ℕ → ParseBlocks → ParseBlocks → Report → Status → Type 0
IsParsed tables text = IsReported (IsTreeOf tables text) (IsSyntaxErrorOf tables text) (IsFaultOn tables text)
