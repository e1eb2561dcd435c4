-- Where every text ends cleanly.
use Rattle.std.proofs.Common.{◌≡◌, ◌∙◌, ◌<◌, ◌+◌, ℕ, List, [], ◌∷◌, ◌++◌, All, Bool, Option, Some, None, ap, arith}
use Rattle.std.proofs.Common.{inl, inr, false, length, refl, subst, take, true}
use Rattle.std.specs.Prelude.{option_and_then, slice_get, unwrap_or}
use Rattle.std.proofs.lemmas.Bool.{cases_lt}
use Rattle.std.proofs.lemmas.List.Elements.{All-drop, All-head}
use Rattle.ly_base.specs.Lexed.{Lexed, Place, place_after, start_of}
use Rattle.ly_base.specs.declared.lexeme.End.{End}
use Rattle.ly_base.specs.declared.lexeme.End.TheVariants.{BadCut, Clean, Stuck}
use Rattle.ly_base.specs.declared.lexeme.Lexeme.{Lexeme}
use Rattle.ly_lexread.specs.declared.action.LexAction.{LexAction}
use Rattle.ly_scan.proofs.LexingLemmas.{lexes}
use Rattle.ly_scan.specs.Lexer.{IsLexemeAt, ScanEndsAt, Scanner}
use Rattle.ly_listing.specs.Listings.{LeavesTokens}
use Rattle.ly_tokens.specs.Printing.{condition_set}
use Rattle.ly_tokens.specs.Private.Clean.{AreSetBelow, BeginsEverywhere, HasRule}

-- no run is stuck where a byte alone has a rule
not_stuck : (s : Scanner) (p : Place) (b : ℕ) (more : List ℕ) (byte : ℕ) → p.rest ≡ b ∷ more
    → HasRule s p.condition p.line b → ScanEndsAt s p (Stuck byte) → ⊥
not_stuck s p b more byte e rule stuck = stuck.2 1 rule.0 (omega arith) (omega (arith, ap length e))
    (ap (λ w. s.walk p.condition p.line (take 1 w)) e ∙ rule.1)

-- where each byte alone has a rule, and each cut leaves a token, a run is clean
clean_from : (s : Scanner) (next : ℕ → Option ℕ) (n : ℕ) → BeginsEverywhere s n
    → ((i c : ℕ) → next i ≡ Some c → c < n) → (ts : List Lexeme) (p : Place) (e : End) → p.condition < n
    → All (λ b. b < 256) p.rest → Lexed (IsLexemeAt s) (ScanEndsAt s) next p ts e → LeavesTokens e → e ≡ Clean
clean_from s next n all below [] p Clean low bytes run leaves = refl
clean_from s next n all below [] p (Stuck byte) low bytes run leaves = by_rest p.rest refl
  where
    by_rest : (rest : List ℕ) → p.rest ≡ rest → Stuck byte ≡ Clean
    by_rest [] e = absurd (run.0 e)
    by_rest (b ∷ more) e = absurd (not_stuck s p b more byte e
        (all p.condition b p.line low (All-head (λ x. x < 256) b more (subst (All (λ x. x < 256)) e bytes))) run)
clean_from s next n all below [] p (BadCut byte) low bytes run leaves = absurd leaves
clean_from s next n all below (t ∷ ts) p e low bytes run leaves =
    clean_from s next n all below ts (place_after next p t) e (by_set (next t.rule.0) refl)
    (All-drop (λ b. b < 256) t.taken p.rest bytes) run.1 leaves
  where
    by_set : (o : Option ℕ) → next t.rule.0 ≡ o → unwrap_or (next t.rule.0) p.condition < n
    by_set None e = rw e low
    by_set (Some c) e = rw e (below t.rule.0 c e)

pub clean_everywhere : (s : Scanner) (next : ℕ → Option ℕ) (n : ℕ) (text : List ℕ) → BeginsEverywhere s n
    → ((i c : ℕ) → next i ≡ Some c → c < n) → 0 < n → All (λ b. b < 256) text
    → ((ts : List Lexeme) (e : End) → Lexed (IsLexemeAt s) (ScanEndsAt s) next (start_of text) ts e → LeavesTokens e)
    → (ts : List Lexeme) × Lexed (IsLexemeAt s) (ScanEndsAt s) next (start_of text) ts Clean
clean_everywhere s next n text all below some bytes leaves =
    let run = lexes s next (length text) (start_of text) (omega arith) in
    let clean = clean_from s next n all below run.0 (start_of text) run.1 some bytes run.2
    (leaves run.0 run.1 run.2) in (
      run.0,
      subst (λ e. Lexed (IsLexemeAt s) (ScanEndsAt s) next (start_of text) run.0 e) clean run.2,
    )

-- rules of bytes up to one more
pub rules_below : (s : Scanner) (c : ℕ) (line : Bool) (n : ℕ) → ((b : ℕ) → b < n → HasRule s c line b)
    → HasRule s c line n → (b : ℕ) → b < n + 1 → HasRule s c line b
rules_below s c line n all one b lt = elim (cases_lt b n) [
  | inl less ↦ all b less
  | inr more ↦ let same : n ≡ b = omega (arith, lt, more) in subst (HasRule s c line) same one
]

-- conditions up to one more
pub conditions_below : (s : Scanner) (n : ℕ) → BeginsEverywhere s n
    → ((b : ℕ) → b < 256 → HasRule s n false b) → ((b : ℕ) → b < 256 → HasRule s n true b) → BeginsEverywhere s (n + 1)
conditions_below s n all elsewhere at_line c b line lt byte = elim (cases_lt c n) [
  | inl less ↦ all c b line less byte
  | inr more ↦ let same : n ≡ c = omega (arith, lt, more) in subst (λ k. HasRule s k line b) same (by_line line)
]
  where
    by_line : (line : Bool) → HasRule s n line b
    by_line false = elsewhere b byte
    by_line true = at_line b byte

-- conditions that each action sets are below a number
pub set_below : (actions : List LexAction) (n : ℕ)
    → ((k : ℕ) (a : LexAction) (c : ℕ) → slice_get actions k ≡ Some a → a.begin ≡ Some c → c < n)
    → AreSetBelow actions n
set_below actions n all i c e = by_action (slice_get actions i) refl e
  where
    by_action : (o : Option LexAction) → slice_get actions i ≡ o → option_and_then (λ (a : LexAction). a.begin) o
        ≡ Some c
        → c < n
    by_action None at is = absurd cc
    by_action (Some a) at is = all i a c at is
