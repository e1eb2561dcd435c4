-- The verdict of a table set on a text, and on the rest of one from any progress of a run over it.
use Rattle.std.specs.Prelude.{◌≡◌, ◌⊎◌, ℕ, ◌+◌, List, [], ◌∷◌, ◌++◌, length}
use Rattle.ly_base.specs.Lexed.{Lexed, Place, Token, start_of, tokens_from}
use Rattle.ly_base.specs.declared.lexeme.End.{End}
use Rattle.ly_base.specs.declared.lexeme.End.TheVariants.{BadCut, Clean, Stuck}
use Rattle.ly_base.specs.declared.lexeme.Lexeme.{Lexeme}
use Rattle.ly_feed.specs.ScanPart.{ScanPart, condition_in, scan_part_of, scanner_in, terminal_in}
use Rattle.ly_feed.specs.Vocabularies.{vocabulary_of}
use Rattle.ly_feed.specs.Verdict.{Verdict, IsOutcome, accepted, faulty, refused, unmatched, written_in}
use Rattle.ly_feed.specs.declared.outcome.Outcome.{Outcome}
use Rattle.ly_pack.specs.Machine.{Machine}
use Rattle.ly_parse.specs.Expected.{AreExpected}
use Rattle.ly_parse.specs.Feeding.{Feeds, Level, states_on}
use Rattle.ly_parse.specs.Feeding as fed
use Rattle.ly_parse.specs.Reading.{ReadsTokens}
use Rattle.ly_print.specs.declared.answer_form.AnswerForm.{AnswerForm}
use Rattle.ly_scan.specs.Lexer.{IsLexemeAt, ScanEndsAt}
use Rattle.ly_scan.specs.Pieces.{behind}
use Rattle.ly_tables.specs.TableSet.{TableSet, machine_of}

-- The progress of a run over a text: the place of the scanner, with the remaining bytes, the parser's stack, and the
-- number of tokens read.
pub record Progress : Type 0 where
  pub place : Place
  pub stack : List Level
  pub count : ℕ

-- nothing of the text is read yet
abbrev pub begun : List ℕ → Progress
begun text = record { place = start_of text; stack = []; count = 0 }

-- more bytes follow the remaining ones
abbrev pub with_more : Progress → List ℕ → Progress
with_more w more = record { place = behind w.place more; stack = w.stack; count = w.count }

-- The scanner splits the remaining bytes at a place into lexemes with these tokens, and its run ends like this.
pub record AreTokens (p : ScanPart) (q : Place) (tokens : List (Token ℕ)) (e : End) : Type 0 where
  pub lexemes : List Lexeme
  pub lexed : Lexed (IsLexemeAt (scanner_in p)) (ScanEndsAt (scanner_in p)) (condition_in p) q lexemes e
  pub are_of_lexemes : tokens ≡ tokens_from (terminal_in p) q.at q.rest lexemes

-- the end of a text as a token
abbrev pub end_of : List ℕ → Token ℕ
end_of text = record { terminal = 0; at = length text; bytes = [] }

-- the same, for a scanner that starts at a place
abbrev pub end_at : Place → Token ℕ
end_at q = record { terminal = 0; at = q.at + length q.rest; bytes = [] }

-- the input of a parser: the tokens, and then the end of the text, if the scanner reached it
abbrev pub fed_with : Token ℕ → List (Token ℕ) → End → List (Token ℕ)
fed_with end tokens Clean = tokens ++ end ∷ []
fed_with end tokens _ = tokens

-- Of its input a parser reads the tokens before this one, which has this outcome.
pub record Comes (p : ScanPart) (m : Machine) (w : Progress) (end : Token ℕ) (before : List (Token ℕ)) (t : Token ℕ)
    (out : fed.Fed) : Type 0 where
  pub tokens : List (Token ℕ)
  pub e : End
  pub are_tokens : AreTokens p w.place tokens e
  pub behind : List (Token ℕ)
  pub split : fed_with end tokens e ≡ before ++ t ∷ behind
  pub last : List Level
  pub reads : ReadsTokens m w.stack before last
  pub feeds : Feeds m t last out

-- A parser reads all tokens of the remaining bytes, and the scanner's run ends like this.
pub record ReadsAll (p : ScanPart) (m : Machine) (w : Progress) (e : End) : Type 0 where
  pub tokens : List (Token ℕ)
  pub are_tokens : AreTokens p w.place tokens e
  pub last : List Level
  pub reads : ReadsTokens m w.stack tokens last

-- The verdict of the scanner and the parser on the remaining bytes of a text with this end, by what comes first in it.
-- The terminals expected in place of an unexpected token are those of the stack before that token. The tables are
-- faulty if a goto is missing, a body extends past the bottom, they accept without a term, or a trailing context leaves
-- no byte or more than the match has.
abbrev pub IsSaidFrom : ScanPart → Machine → Progress → Token ℕ → Verdict → Type 0
IsSaidFrom p m w end (accepted d) = (r : ReadsAll p m w Clean) × Feeds m end r.last (fed.done d)
IsSaidFrom p m w end (refused k t ts) = (before : List (Token ℕ)) × (c : Comes p m w end before t fed.refused)
    × (k ≡ w.count + length before + 1) × AreExpected m (states_on c.last) ts
IsSaidFrom p m w end (unmatched byte) = ReadsAll p m w (Stuck byte)
IsSaidFrom p m w end faulty = ((before : List (Token ℕ)) × (t : Token ℕ) × Comes p m w end before t fed.faulty)
    ⊎ ((byte : ℕ) × ReadsAll p m w (BadCut byte))

-- their verdict on the remaining bytes if the text ends after them
abbrev pub IsRest : ScanPart → Machine → Progress → Verdict → Type 0
IsRest p m w v = IsSaidFrom p m w (end_at w.place) v

-- their verdict on a whole text
abbrev pub IsVerdictBy : ScanPart → Machine → List ℕ → Verdict → Type 0
IsVerdictBy p m text v = IsSaidFrom p m (begun text) (end_of text) v

-- the verdict of a table set
abbrev pub IsVerdict : TableSet → List ℕ → Verdict → Type 0
IsVerdict s text v = IsVerdictBy (scan_part_of s) (machine_of s) text v

-- the text has this outcome and, in a form, these bytes as its result
abbrev pub TableAnswer : AnswerForm → TableSet → List ℕ → Outcome → List ℕ → Type 0
TableAnswer form s text outcome answer = (v : Verdict) × IsVerdict s text v × IsOutcome v outcome
    × (answer ≡ written_in form (vocabulary_of s) v)
