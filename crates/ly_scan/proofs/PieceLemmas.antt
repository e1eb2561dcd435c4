-- What stands at a place, whatever comes behind the bytes that are known.
use Rattle.std.proofs.Common.{◌≡◌, ◌≢◌, ℕ, List, [], ◌∷◌, ◌++◌, append-nil, arith, refl, subst}
use Rattle.std.specs.Prelude.{Bool, MatchOption, Option, Some, false}
use Rattle.ly_base.specs.Lexed.{Place}
use Rattle.ly_base.specs.declared.cut.Cut.{Cut}
use Rattle.ly_base.specs.declared.lexeme.End.{End}
use Rattle.ly_base.specs.declared.lexeme.End.TheVariants.{BadCut as bad_cut, Stuck as stuck}
use Rattle.ly_base.specs.declared.lexeme.Lexeme.{Lexeme}
use Rattle.ly_base.specs.declared.numbers.RuleNo.{RuleNo}
use Rattle.ly_scan.proofs.LexingLemmas.{taken_within}
use Rattle.ly_scan.specs.Lexer.{IsLexemeAt, ScanEndsAt, Scanner}
use Rattle.ly_scan.specs.Matching.{IsMatch}
use Rattle.ly_scan.specs.Pieces.{CanFollow, EndIsDecided, IsUndecided, IsDecided, behind}
use Rattle.ly_scan.specs.Walk.{Walk}
use Rattle.ly_scan.specs.declared.matching.Match.{Match}
use Rattle.ly_scan.specs.declared.matching.Match.TheVariants.{BadCut, Stuck, Win}

-- nothing may come behind a text, whether it has ended or not
pub none_follows : (ended : Bool) → CanFollow ended []
none_follows ended _ = refl

-- the match of some bytes, whatever comes behind them
abbrev pub IsMatchFast : Bool → Walk → (ℕ → Cut) → List ℕ → Match → Type 0
IsMatchFast ended walk cut bytes m = (more : List ℕ) → CanFollow ended more → IsMatch walk cut (bytes ++ more) m

-- that of a text that has ended
pub whole_match : (walk : Walk) (cut : ℕ → Cut) (text : List ℕ) (ended : Bool) (m : Match)
    → IsMatchFast ended walk cut text m → IsMatch walk cut text m
whole_match walk cut text ended m h =
    subst (λ t. IsMatch walk cut t m) (append-nil text) (h [] (none_follows ended))

-- that of the bytes at a place
pub match_at : (s : Scanner) (q : Place) (ended : Bool) (walk : Walk) (bytes : List ℕ) (m is : Match) → m ≡ is
    → walk ≡ s.walk q.condition q.line → bytes ≡ q.rest → IsMatchFast ended walk s.cut bytes m
    → IsMatchFast ended (s.walk q.condition q.line) s.cut q.rest is
match_at s q ended walk bytes m is same walks left h =
    subst (λ x. IsMatchFast ended (s.walk q.condition q.line) s.cut q.rest x) same
    (subst (λ w. IsMatchFast ended w s.cut q.rest m) walks
    (subst (λ t. IsMatchFast ended walk s.cut t m) left h))

-- a match is a lexeme
pub stands_fast : (s : Scanner) (q : Place) (ended : Bool) (rule : RuleNo) (matched taken : ℕ)
    → IsMatchFast ended (s.walk q.condition q.line) s.cut q.rest (Win rule matched taken)
    → IsDecided ended s q (record { rule = rule; matched = matched; taken = taken })
stands_fast s q ended rule matched taken h =
    let here = whole_match (s.walk q.condition q.line) s.cut q.rest ended (Win rule matched taken) h in
    let token = taken_within (s.cut rule.0) matched taken here.0.some_byte here.1 in record {
      is = h;
      some = token.0;
      within = omega (arith, token.1, here.0.within);
    }

-- or a run ends there, at a cut
pub ends_cut : (s : Scanner) (q : Place) (ended : Bool) (at : ℕ) → at ≡ q.at
    → IsMatchFast ended (s.walk q.condition q.line) s.cut q.rest BadCut → EndIsDecided ended s q (bad_cut at)
ends_cut s q ended at here h more follows = (here, h more follows)

some_left : (rest more : List ℕ) → rest ≢ [] → rest ++ more ≢ []
some_left [] more some e = some refl
some_left (b ∷ rest) more some e = cc

-- or stuck
pub ends_stuck : (s : Scanner) (q : Place) (ended : Bool) (at : ℕ) → at ≡ q.at → q.rest ≢ []
    → IsMatchFast ended (s.walk q.condition q.line) s.cut q.rest Stuck → EndIsDecided ended s q (stuck at)
ends_stuck s q ended at here some h more follows = (some_left q.rest more some, here, h more follows)

-- behind no byte it is the same place
behind_none : (q : Place) → behind q [] ≡ q
behind_none q = λ i. record { line = q.line; condition = q.condition; at = q.at; rest = append-nil q.rest i }

-- a lexeme that stands at a place whatever comes is the one there
pub lexeme_at : (s : Scanner) (q : Place) (ended : Bool) (t : Lexeme) → IsDecided ended s q t → IsLexemeAt s q t
lexeme_at s q ended t h = subst (λ x. IsLexemeAt s x t) (behind_none q) (h.is [] (none_follows ended))

-- and a run that ends there whatever comes ends there
pub end_at : (s : Scanner) (q : Place) (ended : Bool) (e : End) → EndIsDecided ended s q e → ScanEndsAt s q e
end_at s q ended e h = subst (λ x. ScanEndsAt s x e) (behind_none q) (h [] (none_follows ended))

-- what a lexer answers, where that is a lexeme
pub answered : (ended : Bool) (s : Scanner) (q : Place) (o : Option Lexeme) (t : Lexeme) → o ≡ Some t
    → MatchOption o ((ended ≡ false) × IsUndecided s q) (IsDecided ended s q) → IsDecided ended s q t
answered ended s q o t e h
    = subst (λ o. MatchOption o ((ended ≡ false) × IsUndecided s q) (IsDecided ended s q)) e h
