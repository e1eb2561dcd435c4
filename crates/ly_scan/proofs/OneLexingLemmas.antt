-- A scanner takes a text apart in one way.
use Rattle.std.proofs.Common.{◌≡◌, ◌∙◌, ◌<◌, ◌≤◌, ◌⊎◌, inl, inr, ℕ, List, [], ◌∷◌, Some, None, ap, ap₂, arith, length}
use Rattle.std.proofs.Common.{refl, subst, sym, take}
use Rattle.std.proofs.lemmas.Bool.{cases_lt}
use Rattle.ly_base.specs.Lexed.{Lexed, Place, place_after}
use Rattle.ly_base.specs.declared.lexeme.End.{End}
use Rattle.ly_base.specs.declared.lexeme.End.TheVariants.{BadCut, Clean, Stuck}
use Rattle.ly_base.specs.declared.lexeme.Lexeme.{Lexeme}
use Rattle.ly_scan.specs.Cuts.{token_len}
use Rattle.ly_scan.specs.Lexer.{IsLexemeAt, IsLongestAt, ScanEndsAt, Scanner}

-- the longest match is one
pub one_longest : (s : Scanner) (q : Place) (n r m k : ℕ) → IsLongestAt s q n r → IsLongestAt s q m k
    → (n ≡ m) × (r ≡ k)
one_longest s q n r m k a b = by_order (cases_lt n m) (cases_lt m n)
  where
    by_order : (n < m) ⊎ (m ≤ n) → (m < n) ⊎ (n ≤ m) → (n ≡ m) × (r ≡ k)
    by_order (inl less) o = absurd (a.longest m k less b.within b.has_rule)
    by_order (inr le) (inl less) = absurd (b.longest n r less a.within a.has_rule)
    by_order (inr le) (inr ge) =
        let same : n ≡ m = omega arith in
        let both : Some (Some r) ≡ Some (Some k)
        = sym a.has_rule ∙ (ap (λ j. s.walk q.condition q.line (take j q.rest)) same ∙ b.has_rule) in
        (same, cc)

-- so is the lexeme at a place
pub one_lexeme : (s : Scanner) (q : Place) (t u : Lexeme) → IsLexemeAt s q t → IsLexemeAt s q u → t ≡ u
one_lexeme s q t u a b =
    let l = one_longest s q t.matched t.rule.0 u.matched u.rule.0 a.0 b.0 in
    let both : Some t.taken ≡ Some u.taken
    = sym a.1 ∙ (ap₂ (λ r n. token_len (s.cut r) n) l.1 l.0 ∙ b.1) in
    let taken : t.taken ≡ u.taken = cc in
    λ i. record { rule = record { 0 = l.1 i }; matched = l.0 i; taken = taken i }

-- no run ends where a lexeme stands
pub no_end : (s : Scanner) (q : Place) (t : Lexeme) (e : End) → IsLexemeAt s q t → ScanEndsAt s q e → ⊥
no_end s q t Clean a b =
    let low = a.0.some_byte in let high = a.0.within in let empty = ap length b in omega (arith, low, high, empty)
no_end s q t (Stuck byte) a b = b.2 t.matched t.rule.0 a.0.some_byte a.0.within a.0.has_rule
no_end s q t (BadCut byte) a b =
    let l = one_longest s q t.matched t.rule.0 b.1.0 b.1.1.0 a.0 b.1.1.1 in
    let both : Some t.taken ≡ None = sym a.1 ∙ (ap₂ (λ r n. token_len (s.cut r) n) l.1 l.0 ∙ b.1.1.2) in
    cc

-- a run ends in one way
pub one_end : (s : Scanner) (q : Place) (e d : End) → ScanEndsAt s q e → ScanEndsAt s q d → e ≡ d
one_end s q Clean Clean a b = refl
one_end s q Clean (Stuck byte) a b = absurd (b.0 a)
one_end s q Clean (BadCut byte) a b =
    let low = b.1.1.1.some_byte in let high = b.1.1.1.within in let empty = ap length a in
    absurd (omega (arith, low, high, empty))
one_end s q (Stuck byte) Clean a b = absurd (a.0 b)
one_end s q (Stuck byte) (Stuck other) a b = ap Stuck (a.1 ∙ sym b.1)
one_end s q (Stuck byte) (BadCut other) a b =
    absurd (a.2 b.1.0 b.1.1.0 b.1.1.1.some_byte b.1.1.1.within b.1.1.1.has_rule)
one_end s q (BadCut byte) Clean a b =
    let low = a.1.1.1.some_byte in let high = a.1.1.1.within in let empty = ap length b in
    absurd (omega (arith, low, high, empty))
one_end s q (BadCut byte) (Stuck other) a b =
    absurd (b.2 a.1.0 a.1.1.0 a.1.1.1.some_byte a.1.1.1.within a.1.1.1.has_rule)
one_end s q (BadCut byte) (BadCut other) a b = ap BadCut (a.0 ∙ sym b.0)

-- a text is taken apart in one way
pub one_lexing : (s : Scanner) (next : ℕ → _) (q : Place) (ts us : List Lexeme) (e d : End)
    → Lexed (IsLexemeAt s) (ScanEndsAt s) next q ts e → Lexed (IsLexemeAt s) (ScanEndsAt s) next q us d
    → (ts ≡ us) × (e ≡ d)
one_lexing s next q [] [] e d a b = (refl, one_end s q e d a b)
one_lexing s next q [] (u ∷ us) e d a b = absurd (no_end s q u e b.0 a)
one_lexing s next q (t ∷ ts) [] e d a b = absurd (no_end s q t d a.0 b)
one_lexing s next q (t ∷ ts) (u ∷ us) e d a b =
    let same = one_lexeme s q t u a.0 b.0 in
    let on = one_lexing s next (place_after next q t) ts us e d a.1
    (subst (λ x. Lexed (IsLexemeAt s) (ScanEndsAt s) next (place_after next q x) us d) (sym same) b.1) in
    (ap₂ (λ x xs. x ∷ xs) same on.0, on.1)
