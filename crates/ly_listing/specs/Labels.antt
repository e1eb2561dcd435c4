-- The labels of tokens, what their lines begin with, and the lines by labels.
use Rattle.std.specs.Prelude.{◌≡◌, ◌+◌, ℕ, List, [], ◌∷◌, ◌++◌, Option, Some, None, codes, length}
use Rattle.std.specs.Prelude.{if◌then◌else◌, nat_eq, nat_le, option_and_then, slice_get, slice_index}
use Rattle.std.specs.List.{flat_map}
use Rattle.ly_base.specs.Bytes.{double_quote}
use Rattle.ly_base.specs.Lexed.{Lexed, Place, Token, start_of, tokens_from}
use Rattle.ly_base.specs.declared.lexeme.End.{End}
use Rattle.ly_base.specs.declared.lexeme.Lexeme.{Lexeme}
use Rattle.ly_listing.specs.Listings.{end_line}
use Rattle.ly_listing.specs.declared.rule_labels.RuleLabel.{RuleLabel}
use Rattle.ly_listing.specs.declared.rule_labels.RuleLabels.{RuleLabels}
use Rattle.ly_print.specs.Json.{json_content, json_name}
use Rattle.ly_print.specs.Text.{quoted_line}
use Rattle.ly_print.specs.declared.answer_form.AnswerForm.{AnswerForm}
use Rattle.ly_print.specs.declared.answer_form.AnswerForm.TheVariants.{Json, Plain}
use Rattle.ly_scan.specs.Lexer.{IsLexemeAt, ScanEndsAt, Scanner}
use Rattle.ly_spans.specs.Spans.{json_location}

-- the label of a name: `NUM"`, or `{"token":"NUM","start":`
abbrev pub label_for : AnswerForm → List ℕ → List ℕ
label_for Plain name = name ++ double_quote ∷ []
label_for Json name = codes "{\"token\":" ++ (json_name name ++ codes ",\"start\":")

-- the place of the label of a number, of a token that begins with this byte, if it has one: 1 is the number of no label,
-- 2 that of the first byte's label
abbrev pub place_at : ℕ → ℕ → Option ℕ
place_at number first = if nat_le number 1 then None else Some (if nat_eq number 2 then first else number)

-- the label of a number, of a token that begins with this byte
abbrev pub label_at : List (List ℕ) → ℕ → ℕ → Option (List ℕ)
label_at labels number first =
    if nat_le number 1 then None else slice_get labels (if nat_eq number 2 then first else number)

-- the label of a rule's token with these bytes, if it has one
abbrev pub labelling : RuleLabels → ℕ → List ℕ → Option (List ℕ)
labelling l i bytes =
    option_and_then (λ r. label_at l.labels.items r.number (slice_index bytes 0)) (slice_get l.rules.items i)

-- the condition that a rule sets, if any
abbrev pub begin_by : RuleLabels → ℕ → Option ℕ
begin_by l i = option_and_then (λ r. r.begin) (slice_get l.rules.items i)

-- the fact of a rule by the condition that it sets, if it sets one, and the number of its label
abbrev pub fact_for : Option ℕ → ℕ → ℕ
fact_for None number = number
fact_for (Some condition) number = 0

abbrev pub fact_of : RuleLabel → ℕ
fact_of r = fact_for r.begin r.number

-- what a JSON line has from a token's start to its end, and from its end to its text
abbrev pub before_end : List ℕ → ℕ → List ℕ
before_end text at = json_location text at ++ codes ",\"end\":"

abbrev pub before_text : List ℕ → ℕ → List ℕ
before_text text at = json_location text at ++ codes ","

-- the line of a token with this label
abbrev pub labelled_line : AnswerForm → List ℕ → Token (List ℕ) → List ℕ
labelled_line Plain text t = quoted_line t.terminal t.bytes
labelled_line Json text t = t.terminal ++ ((before_end text t.at ++ before_text text (t.at + length t.bytes))
    ++ (json_content t.bytes ++ codes "}\n"))

-- the lines of tokens
abbrev pub labelled_lines : AnswerForm → List ℕ → List (Token (List ℕ)) → List ℕ
labelled_lines form text tokens = flat_map (labelled_line form text) tokens

-- A scanner splits a text into lexemes, with the conditions that rules set, and ends in this way. These are the lines
-- of the tokens that have labels, and the last line for the end.
abbrev pub IsLabelListing : AnswerForm → Scanner → RuleLabels → List ℕ → End → List ℕ → Type 0
IsLabelListing form s l text e lines =
    (ts : List Lexeme) × Lexed (IsLexemeAt s) (ScanEndsAt s) (begin_by l) (start_of text) ts e
    × (lines ≡ labelled_lines form text (tokens_from (labelling l) 0 text ts) ++ end_line form text e)

-- the run from a place on ends so
abbrev pub EndsFrom : Scanner → RuleLabels → Place → End → Type 0
EndsFrom s l p e = (ts : List Lexeme) × Lexed (IsLexemeAt s) (ScanEndsAt s) (begin_by l) p ts e

-- the run over a text ends so
abbrev pub EndsSo : Scanner → RuleLabels → List ℕ → End → Type 0
EndsSo s l text e = EndsFrom s l (start_of text) e
