-- The tokens of a run on its way.
use Rattle.std.specs.Prelude.{◌≡◌, ◌≤◌, ◌+◌, ◌<◌, ℕ, List, All, length, true}
use Rattle.ly_base.specs.Lexed.{LexedTo, Place, Token, tokens_from}
use Rattle.ly_base.specs.declared.lexeme.Lexeme.{Lexeme}
use Rattle.ly_listing.specs.Labels.{begin_by, labelling}
use Rattle.ly_listing.specs.declared.rule_labels.RuleLabels.{RuleLabels}
use Rattle.ly_scan.specs.KnownWalks.{AreKnown, Known}
use Rattle.ly_scan.specs.Lexer.{IsLexemeAt, Scanner}
use Rattle.ly_scan.specs.Walk.{Walk}

-- the lexemes from p lead to q, and these are their tokens
abbrev pub SoFar : RuleLabels → Scanner → Place → Place → List (Token (List ℕ)) → Type 0
SoFar l s p q tokens =
    (ts : List Lexeme) × LexedTo (IsLexemeAt s) (begin_by l) p ts q
    × (tokens ≡ tokens_from (labelling l) p.at p.rest ts)

-- Lexemes lead from p on to q, and these are their tokens. What is known of the walks over what is left at p is so of
-- what is left at q.
pub record LeadsOn (l : RuleLabels) (s : Scanner) (p q : Place) (told : List (Token (List ℕ))) : Type 0 where
  pub so_far : SoFar l s p q told
  pub fewer : length q.rest ≤ length p.rest
  pub known : (ahead : ℕ → Walk) (known : Known) → AreKnown ahead true p.rest known → AreKnown ahead true q.rest known

-- The bytes that are left at a place are the last ones of a text.
pub record StandsIn (text : List ℕ) (p : Place) : Type 0 where
  pub whole : p.at + length p.rest ≡ length text
  pub bytes : All (λ b. b < 256) p.rest
