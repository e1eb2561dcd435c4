-- The output for a text: the lines of its tokens, in a form.
use Rattle.std.specs.Prelude.{◌≡◌, ℕ, List, ◌++◌, Option, option_map}
use Rattle.ly_base.specs.Lexed.{start_of, tokens_from}
use Rattle.ly_base.specs.declared.lexeme.End.{End}
use Rattle.ly_base.specs.declared.lexeme.Lexeme.{Lexeme}
use Rattle.ly_ere.specs.Expression.{Expression}
use Rattle.ly_ere.specs.declared.pattern.Rule.{Rule}
use Rattle.ly_lexread.specs.declared.action.LexAction.{LexAction}
use Rattle.ly_lexread.specs.Lexing.{Lexing}
use Rattle.ly_listing.specs.Listings as listings
use Rattle.ly_listing.specs.Listings.{token_lines}
use Rattle.ly_print.specs.Text.{name_of}
use Rattle.ly_print.specs.declared.answer_form.AnswerForm.{AnswerForm}
use Rattle.ly_print.specs.declared.answer_form.AnswerForm.TheVariants.{Json, Plain}
use Rattle.ly_tokens.specs.Printing.{printed, naming, end_line, condition_set}

-- the printed name of the terminal that the action of a rule returns for these bytes, if it returns one
abbrev pub names_by : List LexAction → ℕ → List ℕ → Option (List ℕ)
names_by actions i bytes = option_map name_of (naming actions i bytes)

-- the lines of the tokens of a text's lexemes, including the last line
abbrev pub lines_in : AnswerForm → List LexAction → List ℕ → List Lexeme → End → List ℕ
lines_in Plain actions text ts e = printed (tokens_from (naming actions) 0 text ts) ++ end_line e
lines_in Json actions text ts e =
    token_lines Json text (tokens_from (names_by actions) 0 text ts) ++ listings.end_line Json text e

-- The lexing of the text under the rules and actions ends like this. The output is the lines of its tokens, including
-- the last one.
abbrev pub IsTokenOutput : AnswerForm → List Expression → List Rule → List LexAction → List ℕ → End → List ℕ → Type 0
IsTokenOutput form names rules actions text e answer =
    (ts : List Lexeme) × Lexing names rules (condition_set actions) (start_of text) ts e
    × (answer ≡ lines_in form actions text ts e)
