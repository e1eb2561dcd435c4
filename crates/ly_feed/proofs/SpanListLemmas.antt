-- The spans of a text's tokens, listed lexeme by lexeme.
use Rattle.std.proofs.Common.{◌≡◌, ◌∙◌, ◌+◌, ◌≤◌, ℕ, List, [], ◌∷◌, ◌++◌, Option, Some, None, ap, append-nil}
use Rattle.std.proofs.Common.{append_assoc, length, map, refl, subst, sym, take}
use Rattle.std.specs.Prelude.{Bool, MatchOption, false, is_some, option_map, true}
use Rattle.std.proofs.lemmas.List.{length-take-le, map-append}
use Rattle.ly_base.specs.Lexed.{Place, Token, moved, place_after, start_of, token_if}
use Rattle.ly_base.specs.declared.lexeme.End.{End}
use Rattle.ly_base.specs.declared.lexeme.Lexeme.{Lexeme}
use Rattle.ly_base.specs.declared.numbers.Sym.{Sym}
use Rattle.ly_feed.proofs.OnwardLemmas.{behind_none, stands_here}
use Rattle.ly_feed.specs.LexerOf.{IsLexerOf}
use Rattle.ly_feed.specs.Passing.{ArePassedOver}
use Rattle.ly_feed.specs.ScanPart.{ScanPart, condition_in, scanner_in, terminal_in}
use Rattle.ly_feed.specs.TableAnswer.{AreTokens}
use Rattle.ly_spans.specs.Spans.{span_of}
use Rattle.ly_feed.specs.Private.TokenSpans.{AreListed}
use Rattle.ly_feed.specs.TokenSpans.{AreSpansOf}
use Rattle.ly_spans.specs.declared.span.Span.{Span}
use Rattle.ly_scan.specs.Lexer.{IsLexemeAt, ScanEndsAt}
use Rattle.ly_scan.specs.Lexers.{Lexer, scanner_of}
use Rattle.ly_scan.specs.Pieces.{EndIsDecided, PassesOver, IsDecided}
use Rattle.ly_scan.specs.Pieces as pieces

-- each match of a text that is whole is decided
pub always_decided : (o : Option Lexeme) (A : Type 0) (B : Lexeme → Type 0)
    → MatchOption o ((true ≡ false) × A) B → o ≡ None → ⊥
always_decided None A B found at = let no = found.0 in cc
always_decided (Some t) A B found at = cc

-- whether there is a terminal, as the scanner's part says
pub some_terminal : (o : Option Sym) (x : Option ℕ) → option_map (λ (s : Sym). s.0) o ≡ x → is_some o ≡ true
    → (n : ℕ) × (x ≡ Some n)
some_terminal None x e is = absurd cc
some_terminal (Some t) x e is = (t.0, sym e)

pub none_terminal : (o : Option Sym) (x : Option ℕ) → option_map (λ (s : Sym). s.0) o ≡ x → is_some o ≡ false
    → x ≡ None
none_terminal None x e is = sym e
none_terminal (Some t) x e is = absurd cc

module _ (p : ScanPart) where
  pub none_listed : (q : Place) → AreListed p q [] q
  none_listed q = record { tokens = []; listed = refl; front = λ ts e are. are }

  abbrev bytes_of : Place → Lexeme → List ℕ
  bytes_of r t = take t.taken r.rest

  -- behind a lexeme, whose token comes in front
  behind_lexeme : (r : Place) (t : Lexeme) → IsLexemeAt (scanner_in p) r t → (ts : List (Token ℕ)) (e : End)
      → AreTokens p (place_after (condition_in p) r t) ts e
      → AreTokens p r (token_if (terminal_in p t.rule.0 (bytes_of r t)) r.at (bytes_of r t) ++ ts) e
  behind_lexeme r t is ts e are = record {
    lexemes = t ∷ are.lexemes;
    lexed = (is, are.lexed);
    are_of_lexemes = ap (λ us. token_if (terminal_in p t.rule.0 (bytes_of r t)) r.at (bytes_of r t) ++ us)
        are.are_of_lexemes;
  }

  -- a lexeme without a token changes nothing
  pub listed_behind : (q r : Place) (extents : List Span) (t : Lexeme) → IsLexemeAt (scanner_in p) r t
      → terminal_in p t.rule.0 (bytes_of r t) ≡ None → AreListed p q extents r
      → AreListed p q extents (place_after (condition_in p) r t)
  listed_behind q r extents t is none h = record {
    tokens = h.tokens;
    listed = h.listed;
    front = λ ts e are. h.front ts e
        (subst (λ o. AreTokens p r (token_if o r.at (bytes_of r t) ++ ts) e) none (behind_lexeme r t is ts e are));
  }

  -- one with a token is listed
  pub listed_with : (q r : Place) (extents : List Span) (t : Lexeme) (terminal : ℕ)
      → IsLexemeAt (scanner_in p) r t → t.taken ≤ length r.rest
      → terminal_in p t.rule.0 (bytes_of r t) ≡ Some terminal → AreListed p q extents r
      → AreListed p q (extents ++ record { start = r.at; end = r.at + t.taken } ∷ [])
      (place_after (condition_in p) r t)
  listed_with q r extents t terminal is within some h =
      let token : Token ℕ = record { terminal = terminal; at = r.at; bytes = bytes_of r t } in
      let long : t.taken ≡ length token.bytes = sym (length-take-le t.taken r.rest within) in
      record {
        tokens = h.tokens ++ token ∷ [];
        listed = ap (λ xs. xs ++ record { start = r.at; end = r.at + t.taken } ∷ []) h.listed
            ∙ (ap (λ n. map span_of h.tokens ++ record { start = r.at; end = r.at + n } ∷ []) long
            ∙ sym (map-append span_of h.tokens (token ∷ [])));
        front = λ ts e are. subst (λ us. AreTokens p q us e) (sym (append_assoc h.tokens (token ∷ []) ts))
            (h.front (token ∷ ts) e (subst (λ o. AreTokens p r (token_if o r.at (bytes_of r t) ++ ts) e) some
            (behind_lexeme r t is ts e are)));
      }

  -- so do those that are passed over
  over : (passed : List Bool) (q r s : Place) (extents : List Span) → ArePassedOver p passed
      → AreListed p q extents r → PassesOver (scanner_in p) passed r s → AreListed p q extents s
  over passed q r s extents are h pieces.none_yet = h
  over passed q r s extents are h (pieces.and_one {r = u} t on fast one is) =
      let rule = are t.rule.0 is in
      let there : place_after (condition_in p) u t ≡ moved u 1 None
      = ap (λ n. moved u n (condition_in p t.rule.0)) one ∙ ap (moved u 1) rule.condition in
      subst (AreListed p q extents) there
      (listed_behind q u extents t (stands_here false (scanner_in p) u t fast) (rule.terminal (bytes_of u t))
      (over passed q r u extents are h on))

  pub listed_over : (l : Lexer) (q r s : Place) (extents : List Span) → IsLexerOf p l → AreListed p q extents r
      → PassesOver (scanner_of l.scanner) l.passed r s → AreListed p q extents s
  listed_over l q r s extents is h on = over l.passed q r s extents is.passed h
      (subst (λ x. PassesOver x l.passed r s) is.scanner on)

  -- where the run ends, these are all
  pub all_listed : (l : Lexer) (text : List ℕ) (extents : List Span) (r : Place) (e : End) → IsLexerOf p l
      → AreListed p (start_of text) extents r → EndIsDecided true (scanner_of l.scanner) r e → AreSpansOf p text extents
  all_listed l text extents r e is h ends = record {
    tokens = h.tokens;
    end = e;
    are_tokens = subst (λ ts. AreTokens p (start_of text) ts e) (append-nil h.tokens) (h.front [] e (record {
      lexemes = [];
      lexed = subst (λ s. ScanEndsAt s r e) is.scanner
          (subst (λ x. ScanEndsAt (scanner_of l.scanner) x e) (behind_none r) (ends [] (λ same. refl)));
      are_of_lexemes = refl;
    }));
    are = h.listed;
  }
