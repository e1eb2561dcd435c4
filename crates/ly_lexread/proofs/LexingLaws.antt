-- Lexemes and lexings are determined.
use Rattle.std.proofs.Common.{◌≡◌, ℕ, List, [], ◌∷◌, Bool, refl, sym, ◌∙◌, ap, ap₂, subst, arith, length}
use Rattle.ly_ere.specs.declared.pattern.Rule.{Rule}
use Rattle.ly_ere.specs.Expression.{Expression}
use Rattle.ly_ere.specs.Winner.{Candidate, FitsPattern, AreCut}
use Rattle.ly_ere.proofs.WinnerLaws.{winner_one, split_one}
use Rattle.ly_base.specs.Lexed.{Place, place_after}
use Rattle.ly_base.specs.declared.lexeme.End.TheVariants.{Clean, Stuck, BadCut}
use Rattle.ly_base.specs.declared.lexeme.Lexeme.{Lexeme}
use Rattle.ly_lexread.specs.Lexing.{Lexing, IsWinnerAt}
use Rattle.ly_lexread.specs.Laws.{LexingIsOne}

-- equal fields make equal lexemes
lexeme_of : (t u : Lexeme) → t.rule.0 ≡ u.rule.0 → t.matched ≡ u.matched → t.taken ≡ u.taken → t ≡ u
lexeme_of t u a b c = λ x. record { rule = record { 0 = a x }; matched = b x; taken = c x }

-- one rule and one length make one token
taken_one : (ds : List Expression) (rules : List Rule) (condition : ℕ) (line : Bool) (rest : List ℕ) (i n m l : ℕ)
    → AreCut ds rules → Candidate ds rules condition line rest i n m → Candidate ds rules condition line rest i n l
    → m ≡ l
taken_one ds rules condition line rest i n m l cuts a b =
    let e : a.rule ≡ b.rule = cc (a.is_active.is_rule, b.is_active.is_rule) in
    split_one ds b.rule.pattern rest n m l (cuts i b.rule b.is_active.is_rule)
    (subst (λ r. FitsPattern ds r.pattern rest n m) e a.fits)
    b.fits

-- the whole lexeme
lexeme_one : (ds : List Expression) (rules : List Rule) (p : Place) (t u : Lexeme) → AreCut ds rules
    → IsWinnerAt ds rules p t → IsWinnerAt ds rules p u → t ≡ u
lexeme_one ds rules p t u cuts a b =
    let e = winner_one ds rules p.condition p.line p.rest t.rule.0 t.matched t.taken u.rule.0 u.matched u.taken a b in
    let one : Candidate ds rules p.condition p.line p.rest u.rule.0 t.matched t.taken
    = subst (λ x. Candidate ds rules p.condition p.line p.rest x t.matched t.taken) e.0 a.is_candidate in
    let two : Candidate ds rules p.condition p.line p.rest u.rule.0 u.matched t.taken
    = subst (λ x. Candidate ds rules p.condition p.line p.rest u.rule.0 x t.taken) e.1 one in
    lexeme_of t u e.0 e.1
    (taken_one ds rules p.condition p.line p.rest u.rule.0 u.matched t.taken u.taken cuts two b.is_candidate)

-- nothing matches at the end
none_at_end : (ds : List Expression) (rules : List Rule) (p : Place) (t : Lexeme) → p.rest ≡ []
    → IsWinnerAt ds rules p t
    → ⊥
none_at_end ds rules p t e a
    = omega (
      arith,
      ap length e,
      a.is_candidate.fits.some_byte,
      a.is_candidate.fits.token_within,
      a.is_candidate.fits.within,
    )

pub lexing_one : LexingIsOne
lexing_one ds rules next p [] [] Clean Clean cuts a b = (refl, refl)
lexing_one ds rules next p [] [] Clean (Stuck y) cuts a b = absurd (b.0 a)
lexing_one ds rules next p [] [] (Stuck x) Clean cuts a b = absurd (a.0 b)
lexing_one ds rules next p [] [] (BadCut x) f cuts a b = absurd a
lexing_one ds rules next p [] [] Clean (BadCut y) cuts a b = absurd b
lexing_one ds rules next p [] [] (Stuck x) (BadCut y) cuts a b = absurd b
lexing_one ds rules next p [] [] (Stuck x) (Stuck y) cuts a b = (refl, ap Stuck (a.1 ∙ sym b.1))
lexing_one ds rules next p [] (u ∷ us) Clean f cuts a b = absurd (none_at_end ds rules p u a b.0)
lexing_one ds rules next p [] (u ∷ us) (BadCut x) f cuts a b = absurd a
lexing_one ds rules next p [] (u ∷ us) (Stuck x) f cuts a b = absurd (a.2 u.rule.0 u.matched u.taken b.0.is_candidate)
lexing_one ds rules next p (t ∷ ts) [] e Clean cuts a b = absurd (none_at_end ds rules p t b a.0)
lexing_one ds rules next p (t ∷ ts) [] e (BadCut y) cuts a b = absurd b
lexing_one ds rules next p (t ∷ ts) [] e (Stuck y) cuts a b = absurd (b.2 t.rule.0 t.matched t.taken a.0.is_candidate)
lexing_one ds rules next p (t ∷ ts) (u ∷ us) e f cuts a b =
    let same = lexeme_one ds rules p t u cuts a.0 b.0 in
    let a' : Lexing ds rules next (place_after next p u) ts e
    = subst (λ x. Lexing ds rules next (place_after next p x) ts e) same a.1 in
    let rest = lexing_one ds rules next (place_after next p u) ts us e f cuts a' b.1 in
    (ap₂ ◌∷◌ same rest.0, rest.1)
