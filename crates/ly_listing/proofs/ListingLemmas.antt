-- The lines of a text's tokens by their names.
use Rattle.std.proofs.Common.{◌≡◌, ◌∙◌, ◌<◌, ◌+◌, ◌≢◌, ℕ, zero, suc, List, [], ◌∷◌, ◌++◌, All, Option, None, Some, ap, ap₂}
use Rattle.std.proofs.Common.{append_assoc, arith, codes, drop, length, refl, subst, sym, take}
use Rattle.std.proofs.lemmas.List.Elements.{All-drop, All-take}
use Rattle.std.specs.Prelude.{option_map, slice_index}
use Rattle.ly_base.specs.Bytes.{double_quote, newline}
use Rattle.ly_base.specs.Lexed.{Lexed, Place, Token, start_of, token_if, tokens_from}
use Rattle.ly_base.specs.declared.lexeme.End.{End}
use Rattle.ly_base.specs.declared.lexeme.Lexeme.{Lexeme}
use Rattle.ly_listing.specs.Labels.{IsLabelListing, before_end, before_text, begin_by, label_for, labelled_line}
use Rattle.ly_listing.specs.Labels.{labelled_lines, labelling}
use Rattle.ly_listing.specs.Listings.{IsListing, end_line, token_line, token_lines}
use Rattle.ly_listing.specs.declared.rule_labels.RuleLabels.{RuleLabels}
use Rattle.ly_listing.proofs.RoomLemmas.{lines_append}
use Rattle.ly_print.specs.Json.{json_content, json_name}
use Rattle.ly_print.specs.Text.{escaped}
use Rattle.ly_print.specs.declared.answer_form.AnswerForm.{AnswerForm}
use Rattle.ly_print.specs.declared.answer_form.AnswerForm.TheVariants.{Json, Plain}
use Rattle.ly_scan.specs.Lexer.{IsLexemeAt, ScanEndsAt, Scanner}
use Rattle.ly_spans.specs.Spans.{json_location}

-- the line of a token with a name is that with its label
named_line : (form : AnswerForm) (text name : List ℕ) (at : ℕ) (bytes : List ℕ)
    → labelled_line form text (record { terminal = label_for form name; at = at; bytes = bytes })
    ≡ token_line form text (record { terminal = name; at = at; bytes = bytes })
named_line Plain text name at bytes = ap (λ xs. xs ++ newline ∷ [])
    (append_assoc name (double_quote ∷ []) (escaped double_quote bytes ++ double_quote ∷ []))
named_line Json text name at bytes = simp append_assoc

-- the lines of tokens, by what gives the labels and what gives the names
module _ (form : AnswerForm) (text : List ℕ) (labels : ℕ → List ℕ → Option (List ℕ))
    (names : ℕ → List ℕ → Option (List ℕ))
    (same : (i : ℕ) (bytes : List ℕ) → slice_index bytes 0 < 256
    → labels i bytes ≡ option_map (label_for form) (names i bytes)) where
  one_line : (o p : Option (List ℕ)) (at : ℕ) (bytes : List ℕ) → o ≡ option_map (label_for form) p
      → labelled_lines form text (token_if o at bytes) ≡ token_lines form text (token_if p at bytes)
  one_line o None at bytes is = ap (λ x. labelled_lines form text (token_if x at bytes)) is
  one_line o (Some name) at bytes is = ap (λ x. labelled_lines form text (token_if x at bytes)) is
      ∙ ap (λ x. x ++ []) (named_line form text name at bytes)

  first_byte : (bytes : List ℕ) → All (λ b. b < 256) bytes → slice_index bytes 0 < 256
  first_byte [] all = omega arith
  first_byte (b ∷ bs) all = all 0 0 (omega arith)

  names_append : (xs ys : List (Token (List ℕ)))
      → token_lines form text (xs ++ ys) ≡ token_lines form text xs ++ token_lines form text ys
  names_append [] ys = refl
  names_append (x ∷ xs) ys = ap (λ z. token_line form text x ++ z) (names_append xs ys)
      ∙ sym (append_assoc (token_line form text x) (token_lines form text xs) (token_lines form text ys))

  named_lines : (at : ℕ) (rest : List ℕ) (ts : List Lexeme) → All (λ b. b < 256) rest
      → labelled_lines form text (tokens_from labels at rest ts) ≡ token_lines form text (tokens_from names at rest ts)
  named_lines at rest [] all = refl
  named_lines at rest (t ∷ ts) all =
      let token = take t.taken rest in
      let one = token_if (labels t.rule.0 token) at token in
      let other = token_if (names t.rule.0 token) at token in
      lines_append form text one (tokens_from labels (at + t.taken) (drop t.taken rest) ts)
      ∙ ap₂ (λ x y. x ++ y) (one_line (labels t.rule.0 token) (names t.rule.0 token) at token
      (same t.rule.0 token (first_byte token (All-take (λ b. b < 256) t.taken rest all))))
      (named_lines (at + t.taken) (drop t.taken rest) ts (All-drop (λ b. b < 256) t.taken rest all))
      ∙ sym (names_append other (tokens_from names (at + t.taken) (drop t.taken rest) ts))

-- the next place depends on the conditions that rules set alone
lexed_alike : (s : Scanner) (next other : ℕ → Option ℕ) → ((i : ℕ) → next i ≡ other i) → (p : Place)
    (ts : List Lexeme) (e : End) → Lexed (IsLexemeAt s) (ScanEndsAt s) next p ts e
    → Lexed (IsLexemeAt s) (ScanEndsAt s) other p ts e
lexed_alike s next other same p ts e h =
    let both : next ≡ other = λ x i. same i x in
    subst (λ (f : ℕ → Option ℕ). Lexed (IsLexemeAt s) (ScanEndsAt s) f p ts e) both h

-- a listing by labels is that by the names for which they were made
pub named_listing : (form : AnswerForm) (s : Scanner) (l : RuleLabels) (text : List ℕ) (e : End) (lines : List ℕ)
    (names : ℕ → List ℕ → Option (List ℕ)) (begins : ℕ → Option ℕ)
    → ((i : ℕ) (bytes : List ℕ) → slice_index bytes 0 < 256
    → labelling l i bytes ≡ option_map (label_for form) (names i bytes))
    → ((i : ℕ) → begin_by l i ≡ begins i) → All (λ b. b < 256) text → IsLabelListing form s l text e lines
    → IsListing form s names begins text e lines
named_listing form s l text e lines names begins same set all h = (
  h.0,
  lexed_alike s (begin_by l) begins set (start_of text) h.0 e h.1,
  h.2 ∙ ap (λ x. x ++ end_line form text e) (named_lines form text (labelling l) names same 0 text h.0 all),
)
