-- The answer by a scanner that agrees with the rules.
use Rattle.std.proofs.Common.{◌≡◌, ◌∙◌, ◌+◌, ℕ, List, [], ◌∷◌, ◌++◌, Option, None, Some, ap, ap₂, append_assoc, drop, refl}
use Rattle.std.proofs.Common.{sym, take}
use Rattle.std.specs.Prelude.{option_map}
use Rattle.ly_base.specs.Lexed.{Lexed, Place, Token, place_after, start_of, token_if, tokens_from}
use Rattle.ly_base.specs.declared.lexeme.End.{End}
use Rattle.ly_base.specs.declared.lexeme.End.TheVariants.{BadCut, Clean, Stuck}
use Rattle.ly_base.specs.declared.lexeme.Lexeme.{Lexeme}
use Rattle.ly_ere.specs.Expression.{Expression}
use Rattle.ly_ere.specs.declared.pattern.Rule.{Rule}
use Rattle.ly_lexread.specs.Lexing.{Lexing}
use Rattle.ly_lexread.specs.declared.action.LexAction.{LexAction}
use Rattle.ly_listing.specs.Listings as listings
use Rattle.ly_listing.specs.Listings.{IsListing, LeavesTokens, token_line, token_lines}
use Rattle.ly_print.specs.Text.{Terminal, leaf_line, name_of}
use Rattle.ly_print.specs.declared.answer_form.AnswerForm.{AnswerForm}
use Rattle.ly_print.specs.declared.answer_form.AnswerForm.TheVariants.{Json, Plain}
use Rattle.ly_scan.specs.Lexer.{IsLexemeAt, ScanEndsAt, Scanner}
use Rattle.ly_tokens.specs.Agreement.{Agrees}
use Rattle.ly_tokens.specs.Answering.{IsTokenOutput, lines_in, names_by}
use Rattle.ly_tokens.specs.Printing.{condition_set, end_line, naming, printed}
use Rattle.ly_tokens.proofs.AgreementLemmas.{lexing_of}

-- plain lines of tokens by their terminals are those by the terminals' names
one_named : (text : List ℕ) (o : Option Terminal) (at : ℕ) (bytes : List ℕ) (more : List (Token Terminal))
    (named : List (Token (List ℕ))) → token_lines Plain text named ≡ printed more
    → token_lines Plain text (token_if (option_map name_of o) at bytes ++ named) ≡ printed (token_if o at bytes ++ more)
one_named text None at bytes more named same = same
one_named text (Some t) at bytes more named same = ap (λ z. leaf_line t bytes ++ z) same

all_named : (actions : List LexAction) (text : List ℕ) (at : ℕ) (rest : List ℕ) (ts : List Lexeme)
    → token_lines Plain text (tokens_from (names_by actions) at rest ts)
    ≡ printed (tokens_from (naming actions) at rest ts)
all_named actions text at rest [] = refl
all_named actions text at rest (t ∷ ts) =
    one_named text (naming actions t.rule.0 (take t.taken rest)) at (take t.taken rest)
    (tokens_from (naming actions) (at + t.taken) (drop t.taken rest) ts)
    (tokens_from (names_by actions) (at + t.taken) (drop t.taken rest) ts)
    (all_named actions text (at + t.taken) (drop t.taken rest) ts)

same_end : (text : List ℕ) (e : End) → listings.end_line Plain text e ≡ end_line e
same_end text Clean = refl
same_end text (Stuck byte) = refl
same_end text (BadCut byte) = refl

same_lines : (form : AnswerForm) (actions : List LexAction) (text : List ℕ) (ts : List Lexeme) (e : End)
    → token_lines form text (tokens_from (names_by actions) 0 text ts) ++ listings.end_line form text e
    ≡ lines_in form actions text ts e
same_lines Plain actions text ts e = ap₂ (λ x y. x ++ y) (all_named actions text 0 text ts) (same_end text e)
same_lines Json actions text ts e = refl

-- the lines of a listing are the answer
pub answer_of : (form : AnswerForm) (names : List Expression) (rules : List Rule) (actions : List LexAction)
    (s : Scanner) (text : List ℕ) (e : End) (lines : List ℕ) → Agrees names rules s
    → IsListing form s (names_by actions) (condition_set actions) text e lines
    → IsTokenOutput form names rules actions text e lines
answer_of form names rules actions s text e lines agrees h = (
  h.0,
  lexing_of names rules s agrees (condition_set actions) (start_of text) h.0 e h.1,
  h.2 ∙ same_lines form actions text h.0 e,
)

-- each cut of a lexing leaves a token
pub leaves_tokens : (names : List Expression) (rules : List Rule) (next : ℕ → Option ℕ) (p : Place) (ts : List Lexeme)
    (e : End) → Lexing names rules next p ts e → LeavesTokens e
leaves_tokens names rules next p ts Clean h = tt
leaves_tokens names rules next p ts (Stuck b) h = tt
leaves_tokens names rules next p [] (BadCut b) h = h
leaves_tokens names rules next p (t ∷ ts) (BadCut b) h
    = leaves_tokens names rules next (place_after next p t) ts (BadCut b) h.1

-- so each cut of a run leaves one, by a scanner that agrees with the rules
pub run_leaves_tokens : (names : List Expression) (rules : List Rule) (next : ℕ → Option ℕ) (s : Scanner)
    (text : List ℕ) (ts : List Lexeme) (e : End) → Agrees names rules s
    → Lexed (IsLexemeAt s) (ScanEndsAt s) next (start_of text) ts e → LeavesTokens e
run_leaves_tokens names rules next s text ts e agrees run =
    leaves_tokens names rules next (start_of text) ts e (lexing_of names rules s agrees next (start_of text) ts e run)
