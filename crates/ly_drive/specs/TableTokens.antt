-- The tokens of a text, found by the scanner of a table set.
use Rattle.std.specs.Prelude.{◌≡◌, ℕ, List, IfSome, Option, option_map}
use Rattle.ly_base.specs.Lexed.{Lexed, start_of}
use Rattle.ly_base.specs.declared.lexeme.End.{End}
use Rattle.ly_base.specs.declared.lexeme.End.TheVariants.{BadCut}
use Rattle.ly_base.specs.declared.lexeme.Lexeme.{Lexeme}
use Rattle.ly_feed.specs.ScanPart.{condition_in, scan_part_of, scanner_in, terminal_in}
use Rattle.ly_feed.specs.Vocabularies.{name_in}
use Rattle.ly_listing.specs.Listings.{IsListing}
use Rattle.ly_print.specs.declared.answer_form.AnswerForm.{AnswerForm}
use Rattle.ly_scan.specs.Lexer.{IsLexemeAt, ScanEndsAt}
use Rattle.ly_tables.specs.TableSet.{TableSet}

-- the printed name of the terminal that a rule returns for these bytes, if it returns one
abbrev pub token_name_in : TableSet → ℕ → List ℕ → Option (List ℕ)
token_name_in s i bytes = option_map (name_in s.terminals) (terminal_in (scan_part_of s) i bytes)

-- these are the lines of a text's tokens by a table set, and this is how they end
abbrev pub IsListedBy : AnswerForm → TableSet → List ℕ → End → List ℕ → Type 0
IsListedBy form s text e lines = IsListing form (scanner_in (scan_part_of s)) (token_name_in s)
    (condition_in (scan_part_of s)) text e lines

-- the same for the text from the reader, if its bytes are known
abbrev pub IsListedFor : AnswerForm → TableSet → Option (List ℕ) → End → List ℕ → Type 0
IsListedFor form s given e lines = (text : List ℕ) × IfSome given (λ bytes. text ≡ bytes)
    × IsListedBy form s text e lines

-- the scanner's run over such a text reaches a trailing context that leaves no byte or more than the match has
abbrev pub HasBadCut : TableSet → Option (List ℕ) → Type 0
HasBadCut s given = (text : List ℕ) × IfSome given (λ bytes. text ≡ bytes) × (byte : ℕ) × (ts : List Lexeme)
    × Lexed (IsLexemeAt (scanner_in (scan_part_of s))) (ScanEndsAt (scanner_in (scan_part_of s)))
    (condition_in (scan_part_of s)) (start_of text) ts (BadCut byte)
