-- The tokens of a text as lines.
use Rattle.std.specs.Prelude.{◌≡◌, ℕ, List, [], ◌++◌, Option, Some, None, Bool, true, codes, slice_get}
use Rattle.std.specs.Fmt.{decimal}
use Rattle.std.specs.List.{flat_map}
use Rattle.ly_base.specs.Lexed.{Lexed, Token, start_of, tokens_from}
use Rattle.ly_base.specs.declared.lexeme.End.{End}
use Rattle.ly_base.specs.declared.lexeme.End.TheVariants.{BadCut, Clean, Stuck}
use Rattle.ly_base.specs.declared.lexeme.Lexeme.{Lexeme}
use Rattle.ly_spans.specs.Spans.{empty_at, span_of, json_span}
use Rattle.ly_listing.specs.declared.token_end.TokenEnd.{TokenEnd}
use Rattle.ly_listing.specs.declared.token_end.TokenEnd.TheVariants as token_end
use Rattle.ly_print.specs.Json.{json_content, json_name}
use Rattle.ly_print.specs.Text.{leaf_line, no_rule_line, token}
use Rattle.ly_print.specs.declared.answer_form.AnswerForm.{AnswerForm}
use Rattle.ly_print.specs.declared.answer_form.AnswerForm.TheVariants.{Json, Plain}
use Rattle.ly_scan.specs.Lexer.{IsLexemeAt, ScanEndsAt, Scanner}

-- The line of a token with this name: `NUM"12"`, or
-- `{"token":"NUM","start":[0,1,1],"end":[2,1,3],"text":"12"}`.
abbrev pub token_line : AnswerForm → List ℕ → Token (List ℕ) → List ℕ
token_line Plain text t = leaf_line (token t.terminal) t.bytes
token_line Json text t = codes "{\"token\":" ++ (json_name t.terminal ++ (json_span text (span_of t)
    ++ (codes "," ++ (json_content t.bytes ++ codes "}\n"))))

-- the last line, if no rule matches somewhere
abbrev pub end_line : AnswerForm → List ℕ → End → List ℕ
end_line form text Clean = []
end_line Plain text (Stuck byte) = no_rule_line byte
end_line Json text (Stuck byte) = codes "{\"error\":\"unmatched\",\"byte\":" ++ (decimal byte
    ++ (json_span text (empty_at byte) ++ codes "}\n"))
end_line form text (BadCut byte) = []

-- the lines of tokens
abbrev pub token_lines : AnswerForm → List ℕ → List (Token (List ℕ)) → List ℕ
token_lines form text tokens = flat_map (token_line form text) tokens

-- A scanner splits a text into lexemes, with the conditions that rules set, and ends in this way. These are the lines
-- of the tokens that have names, and the last line for the end.
abbrev pub IsListing : AnswerForm → Scanner → (ℕ → List ℕ → Option (List ℕ)) → (ℕ → Option ℕ) → List ℕ → End → List ℕ
    → Type 0
IsListing form s naming begins text e lines =
    (ts : List Lexeme) × Lexed (IsLexemeAt s) (ScanEndsAt s) begins (start_of text) ts e
    × (lines ≡ token_lines form text (tokens_from naming 0 text ts) ++ end_line form text e)

-- the rules whose lexemes a lexer skips set no condition, and their tokens have no names
abbrev pub ArePassed : List Bool → (ℕ → List ℕ → Option (List ℕ)) → (ℕ → Option ℕ) → Type 0
ArePassed passed naming begins = (i : ℕ) → slice_get passed i ≡ Some true
    → (begins i ≡ None) × ((bytes : List ℕ) → naming i bytes ≡ None)

-- the end of scanning that corresponds to this end of the tokens
abbrev pub end_of : TokenEnd → End
end_of token_end.Clean = Clean
end_of (token_end.Stuck byte) = Stuck byte

-- scanning doesn't end at a cut that leaves no token
abbrev pub LeavesTokens : End → Type 0
LeavesTokens (BadCut byte) = ⊥
LeavesTokens _ = Unit {0}
