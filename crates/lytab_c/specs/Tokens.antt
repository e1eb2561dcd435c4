-- The results of `lytab_parse_tokens`, by status.
use Rattle.std.specs.Prelude.{◌≡◌, ◌≢◌, ◌⊎◌, ℕ, suc, List, [], ◌∷◌, length, map}
use Rattle.ly_drive.specs.Answering.{IsDriven}
use Rattle.ly_drive.specs.declared.fault.DriveFault.{DriveFault}
use Rattle.ly_drive.specs.declared.fault.DriveFault.TheVariants.{Tables, Text}
use Rattle.ly_feed.specs.SyntaxError.{verdict_of}
use Rattle.ly_feed.specs.Verdict.{faulty}
use Rattle.ly_feed.specs.declared.syntax_error.SyntaxError.{SyntaxError}
use Rattle.ly_feed.specs.declared.text_fault.TextFault.TheVariants.{FaultyTables}
use Rattle.ly_base.specs.Lexed as lexed
use Rattle.ly_places.specs.Placed.{Placed}
use Rattle.ly_places.specs.TokenAnswer.{token_over, IsPlacedOver, IsTokenOver, IsTokenVerdict}
use Rattle.ly_places.specs.declared.placed_token.PlacedToken.{PlacedToken}
use Rattle.ly_tables.specs.Refusal.{IsRefusedAs}
use Rattle.ly_tables.specs.TableSet.{TableSet}
use Rattle.ly_tables.specs.declared.fault.TableFault.TheVariants.{OutOfMemory}
use Rattle.lytab_c.specs.Parsing.{IsReported, ParseBlocks}
use Rattle.lytab_c.specs.Reports.{numbering}
use Rattle.lytab_c.specs.declared.report.Report.{Report}
use Rattle.lytab_c.specs.declared.status.Status.{Status}
use Rattle.lytab_c.specs.declared.status.Status.TheVariants.{Misused}
use Rattle.lytab_c.specs.declared.caller_token.CallerToken.{CallerToken}

-- a token as a parser takes it
abbrev pub placed_from : CallerToken → PlacedToken
placed_from t = record { terminal = record { 0 = t.terminal }; extent = record { start = t.start; end = t.end } }

-- the tokens with the bytes of a text at their spans
abbrev pub given_over : List ℕ → List CallerToken → List (lexed.Token ℕ)
given_over text tokens = map (token_over text) (map placed_from tokens)

-- The first invalid token has this number; the first token has number 1. A token is invalid if its terminal isn't below
-- this count or is the end's, or if its span isn't within this many bytes.
abbrev pub IsFirstWrong : ℕ → ℕ → List CallerToken → ℕ → Type 0
IsFirstWrong terminals count [] number = ⊥
IsFirstWrong terminals count (t ∷ ts) number = ((IsTokenOver terminals count (placed_from t) → ⊥) × (number ≡ 1))
    ⊎ (IsTokenOver terminals count (placed_from t) × (before : ℕ) × (number ≡ suc before)
    × IsFirstWrong terminals count ts before)

-- A set with these table file bytes gives for the tokens of the text this tree, with the spans of its parts.
abbrev pub IsTokenTreeOf : List ℕ → List ℕ → List CallerToken → Placed → Type 0
IsTokenTreeOf tables text tokens t = (s : TableSet) × IsDriven tables s
    × IsPlacedOver s text (given_over text tokens) t

-- Such a set gives for them this syntax error.
abbrev pub IsTokenSyntaxErrorOf : List ℕ → List ℕ → List CallerToken → SyntaxError → Type 0
IsTokenSyntaxErrorOf tables text tokens syntax_error = (s : TableSet) × IsDriven tables s
    × IsTokenVerdict s text (given_over text tokens) (verdict_of syntax_error)

-- The table file is rejected with this error, or its set fails on the tokens.
abbrev pub IsTokenFaultOf : List ℕ → List ℕ → List CallerToken → DriveFault → Type 0
IsTokenFaultOf tables text tokens (Tables fault) = (fault ≢ OutOfMemory) × IsRefusedAs tables fault
IsTokenFaultOf tables text tokens (Text FaultyTables) = (s : TableSet) × IsDriven tables s
    × IsTokenVerdict s text (given_over text tokens) faulty
IsTokenFaultOf tables text tokens (Text _) = ⊥

-- The results for the tokens, if all are valid. Otherwise the number of the first invalid one is reported, and no block
-- is written.
abbrev pub AreTokensParsed : List ℕ → List ℕ → List CallerToken → ParseBlocks → ParseBlocks → Report → Status → Type 0
AreTokensParsed tables text tokens old new report Misused = (s : TableSet) × IsDriven tables s × (number : ℕ)
    × IsFirstWrong (length s.terminals) (length text) tokens number × (report ≡ numbering number) × (new ≡ old)
AreTokensParsed tables text tokens old new report status = IsReported (IsTokenTreeOf tables text tokens)
    (IsTokenSyntaxErrorOf tables text tokens) (IsTokenFaultOf tables text tokens) old new report status
