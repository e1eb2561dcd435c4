-- A text has one answer under the bytes of a lex file.
use Rattle.std.proofs.Common.{◌≡◌, ℕ, zero, suc, List, [], ◌∷◌, ◌++◌, Option, Some, None, refl, sym, ap, ap₂, ◌∙◌}
use Rattle.std.proofs.Common.{◌+◌, option_map, subst, take, drop}
use Rattle.std.specs.Prelude.{slice_index}
use Rattle.ly_ere.specs.Names.{defined}
use Rattle.ly_base.specs.Lexed.{start_of, token_if, tokens_from}
use Rattle.ly_listing.specs.Listings as listings
use Rattle.ly_listing.specs.Listings.{token_lines}
use Rattle.ly_print.specs.Text.{Terminal, name_of}
use Rattle.ly_print.specs.declared.answer_form.AnswerForm.{AnswerForm}
use Rattle.ly_print.specs.declared.answer_form.AnswerForm.TheVariants.{Json, Plain}
use Rattle.ly_print.specs.Text as text
use Rattle.ly_base.specs.declared.lexeme.End.{End}
use Rattle.ly_base.specs.declared.lexeme.Lexeme.{Lexeme}
use Rattle.ly_lexread.specs.Action.{Meaning, nothing, token, literal_of, first_byte, meaning_of}
use Rattle.ly_lexread.specs.LexText.{AreSameActions}
use Rattle.ly_lexread.specs.declared.action.LexAction.{LexAction}
use Rattle.ly_lexread.specs.declared.action.Returned.{Returned}
use Rattle.ly_lexread.specs.declared.action.Returned.TheVariants.{Nothing, Token, Literal, FirstByte}
use Rattle.ly_lexread.proofs.FileLemmas.{lex_text_one, rules_cut}
use Rattle.ly_lexread.proofs.LexingLaws.{lexing_one}
use Rattle.ly_lexread.proofs.SameLemmas.{lexing_under}
use Rattle.ly_tokens.specs.Answering.{IsTokenOutput, lines_in, names_by}
use Rattle.ly_tokens.specs.Laws.{AnswerIsOne}
use Rattle.ly_tokens.specs.Printing.{condition_set, end_line, naming, printed, terminal_for}

-- the terminal of what a token means
terminal_meant : Meaning → List ℕ → Option Terminal
terminal_meant nothing bytes = None
terminal_meant (token name) bytes = Some (text.token name)
terminal_meant (literal_of b) bytes = Some (text.literal b)
terminal_meant first_byte bytes = Some (text.literal (slice_index bytes 0))

terminal_by_meaning : (r : Returned) (bytes : List ℕ) → terminal_for r bytes ≡ terminal_meant (meaning_of r) bytes
unfolding terminal_meant
terminal_by_meaning Nothing bytes = refl
terminal_by_meaning (Token name) bytes = refl
terminal_by_meaning (Literal b) bytes = refl
terminal_by_meaning FirstByte bytes = refl

-- actions that say the same set the same conditions, and name the same terminals
conditions_same : (xs ys : List LexAction) → AreSameActions xs ys → (i : ℕ) → condition_set xs i ≡ condition_set ys i
conditions_same [] [] h i = refl
conditions_same [] (y ∷ ys) h i = absurd h
conditions_same (x ∷ xs) [] h i = absurd h
conditions_same (x ∷ xs) (y ∷ ys) h zero = h.0
conditions_same (x ∷ xs) (y ∷ ys) h (suc i) = conditions_same xs ys h.2 i

naming_same : (xs ys : List LexAction) → AreSameActions xs ys → (i : ℕ) (bytes : List ℕ)
    → naming xs i bytes ≡ naming ys i bytes
naming_same [] [] h i bytes = refl
naming_same [] (y ∷ ys) h i bytes = absurd h
naming_same (x ∷ xs) [] h i bytes = absurd h
naming_same (x ∷ xs) (y ∷ ys) h zero bytes = terminal_by_meaning x.returns bytes
    ∙ (ap (λ m. terminal_meant m bytes) h.1 ∙ sym (terminal_by_meaning y.returns bytes))
naming_same (x ∷ xs) (y ∷ ys) h (suc i) bytes = naming_same xs ys h.2 i bytes

-- tokens that are named alike are the same
tokens_alike : {T : Type 0} (f g : ℕ → List ℕ → Option T) → ((i : ℕ) (bytes : List ℕ) → f i bytes ≡ g i bytes)
    → (at : ℕ) (rest : List ℕ) (ts : List Lexeme) → tokens_from f at rest ts ≡ tokens_from g at rest ts
tokens_alike f g h at rest [] = refl
tokens_alike f g h at rest (t ∷ ts) = ap₂ ◌++◌
    (ap (λ o. token_if o at (take t.taken rest)) (h t.rule.0 (take t.taken rest)))
    (tokens_alike f g h (at + t.taken) (drop t.taken rest) ts)

-- so are their lines
lines_same : (form : AnswerForm) (xs ys : List LexAction) → AreSameActions xs ys → (text : List ℕ) (ts : List Lexeme)
    (e : End) → lines_in form xs text ts e ≡ lines_in form ys text ts e
lines_same Plain xs ys h text ts e = ap (λ l. printed l ++ end_line e)
    (tokens_alike (naming xs) (naming ys) (naming_same xs ys h) 0 text ts)
lines_same Json xs ys h text ts e = ap (λ l. token_lines Json text l ++ listings.end_line Json text e)
    (tokens_alike (names_by xs) (names_by ys) (λ i bytes. ap (option_map name_of) (naming_same xs ys h i bytes))
    0 text ts)

pub answer_one : AnswerIsOne
answer_one form limits others lex text e f answer other a b =
    let same = lex_text_one lex a.file b.file a.spelled b.spelled in
    let here : IsTokenOutput form (defined b.file.names) a.file.rules.items a.file.actions.items text e answer =
    subst (λ t. IsTokenOutput form (defined b.file.names) a.file.rules.items a.file.actions.items t e answer) a.is_text
    (subst (λ names. IsTokenOutput form
    (defined names) a.file.rules.items a.file.actions.items a.text e answer) same.names
    a.is_answer)
    in
    let there : IsTokenOutput form (defined b.file.names) b.file.rules.items b.file.actions.items text f other =
    subst (λ t. IsTokenOutput form (defined b.file.names) b.file.rules.items b.file.actions.items t f other) b.is_text
    b.is_answer in
    let under = lexing_under (defined b.file.names) a.file.rules.items b.file.rules.items same.rules
    (condition_set a.file.actions.items) (condition_set b.file.actions.items)
    (conditions_same a.file.actions.items b.file.actions.items same.actions) (start_of text) here.0 e here.1 in
    let one = lexing_one (defined b.file.names) b.file.rules.items (condition_set b.file.actions.items)
    (start_of text) here.0 there.0 e f (rules_cut lex b.file b.spelled) under there.1 in (
      one.1,
      here.2 ∙ lines_same form a.file.actions.items b.file.actions.items same.actions text here.0 e
          ∙ ap₂ (λ ts end. lines_in form b.file.actions.items text ts end) one.0 one.1 ∙ sym there.2,
    )
