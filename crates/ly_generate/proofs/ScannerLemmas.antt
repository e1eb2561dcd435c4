-- Scanners that walk and cut alike find the same lexemes.
use Rattle.std.proofs.Common.{◌≡◌, ◌∙◌, ℕ, List, [], ◌∷◌, Bool, Option, ap, subst, sym, take}
use Rattle.ly_base.specs.Lexed.{Lexed, Place, moved, place_after}
use Rattle.ly_base.specs.declared.lexeme.End.{End}
use Rattle.ly_base.specs.declared.lexeme.End.TheVariants.{BadCut, Clean, Stuck}
use Rattle.ly_base.specs.declared.lexeme.Lexeme.{Lexeme}
use Rattle.ly_base.proofs.LexedLemmas.{lexed_as}
use Rattle.ly_scan.specs.Cuts.{token_len}
use Rattle.ly_scan.specs.Lexer.{IsLexemeAt, IsLongestAt, ScanEndsAt, Scanner}

module _ (S T : Scanner) (walks : (c : ℕ) (line : Bool) (w : List ℕ) → S.walk c line w ≡ T.walk c line w)
    (cuts : (i : ℕ) → S.cut i ≡ T.cut i) where
  same_longest : (p : Place) (n r : ℕ) → IsLongestAt S p n r → IsLongestAt T p n r
  same_longest p n r h = record {
    some_byte = h.some_byte;
    within = h.within;
    has_rule = sym (walks p.condition p.line (take n p.rest)) ∙ h.has_rule;
    longest = λ m q more le e. h.longest m q more le (walks p.condition p.line (take m p.rest) ∙ e);
  }

  same_lexeme : (p : Place) (t : Lexeme) → IsLexemeAt S p t → IsLexemeAt T p t
  same_lexeme p t h = (
    same_longest p t.matched t.rule.0 h.0,
    ap (λ cut. token_len cut t.matched) (sym (cuts t.rule.0)) ∙ h.1,
  )

  same_end : (p : Place) (e : End) → ScanEndsAt S p e → ScanEndsAt T p e
  same_end p Clean h = h
  same_end p (Stuck b) h = (h.0, h.1, λ m q some le e. h.2 m q some le (walks p.condition p.line (take m p.rest) ∙ e))
  same_end p (BadCut b) h = (
    h.0,
    (
      h.1.0,
      (
        h.1.1.0,
        same_longest p h.1.0 h.1.1.0 h.1.1.1,
        ap (λ cut. token_len cut h.1.0) (sym (cuts h.1.1.0)) ∙ h.1.1.2,
      ),
    ),
  )

  -- a run of one is one of the other
  pub same_run : (next : ℕ → Option ℕ) (p : Place) (ts : List Lexeme) (e : End)
      → Lexed (IsLexemeAt S) (ScanEndsAt S) next p ts e → Lexed (IsLexemeAt T) (ScanEndsAt T) next p ts e
  same_run next p ts e h = lexed_as (IsLexemeAt S) (IsLexemeAt T) (ScanEndsAt S) (ScanEndsAt T) next same_lexeme
      same_end
      p ts e h

-- a run where rules set the same conditions
pub lexed_under : (Is : Place → Lexeme → Type 0) (Ends : Place → End → Type 0) (next other : ℕ → Option ℕ)
    → ((i : ℕ) → next i ≡ other i) → (p : Place) (ts : List Lexeme) (e : End) → Lexed Is Ends next p ts e
    → Lexed Is Ends other p ts e
lexed_under Is Ends next other same p [] e h = h
lexed_under Is Ends next other same p (t ∷ ts) e h = (
  h.0,
  lexed_under Is Ends next other same (place_after other p t) ts e
      (subst (λ o. Lexed Is Ends next (moved p t.taken o) ts e) (same t.rule.0) h.1),
)
