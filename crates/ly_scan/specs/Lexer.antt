-- The lexeme that a scanner finds at a place of a text, in terms of its walk alone.
use Rattle.std.specs.Prelude.{◌≡◌, ◌≢◌, ℕ, [], length, Bool, Some, None}
use Rattle.ly_base.specs.Lexed.{Place}
use Rattle.ly_base.specs.declared.cut.Cut.{Cut}
use Rattle.ly_base.specs.declared.lexeme.End.{End}
use Rattle.ly_base.specs.declared.lexeme.End.TheVariants.{Clean, Stuck, BadCut}
use Rattle.ly_base.specs.declared.lexeme.Lexeme.{Lexeme}
use Rattle.ly_scan.specs.Cuts.{token_len}
use Rattle.ly_scan.specs.Walk.{Walk, IsLongest, HasNone}

-- A scanner: the results of its walk for a text that begins in a condition, at the start of a line or not, and the cut
-- of each rule.
pub record Scanner : Type 0 where
  pub walk : ℕ → Bool → Walk
  pub cut : ℕ → Cut

-- n bytes are the longest prefix from a place whose walk has a rule, and r is that rule
abbrev pub IsLongestAt : Scanner → Place → ℕ → ℕ → Type 0
IsLongestAt s p n r = IsLongest (s.walk p.condition p.line) p.rest (length p.rest) n r

-- the lexeme is the longest prefix from the place whose walk has a rule, with what its cut leaves
abbrev pub IsLexemeAt : Scanner → Place → Lexeme → Type 0
IsLexemeAt s p t = IsLongestAt s p t.matched t.rule.0 × (token_len (s.cut t.rule.0) t.matched ≡ Some t.taken)

-- scanning ends at the place in this way
abbrev pub ScanEndsAt : Scanner → Place → End → Type 0
ScanEndsAt s p Clean = p.rest ≡ []
ScanEndsAt s p (Stuck b) = (p.rest ≢ []) × (b ≡ p.at) × HasNone (s.walk p.condition p.line) p.rest (length p.rest)
ScanEndsAt s p (BadCut b) =
    (b ≡ p.at) × ((n : ℕ) × ((r : ℕ) × IsLongestAt s p n r × (token_len (s.cut r) n ≡ None)))
