-- The numbered rules of a grammar.
use Rattle.std.proofs.Common.{◌≡◌, ◌<◌, ◌≤◌, ℕ, zero, suc, List, [], ◌∷◌, All, slice_get, map, Some, refl, subst}
use Rattle.std.proofs.Common.{length}
use Rattle.std.proofs.Common.{arith}
use Rattle.std.proofs.lemmas.List.Elements.{All-tail}
use Rattle.ly_join.specs.Grammar.{GrammarRule, IsRule, IsGrammar, RuleWithin, accept_rule, grammar_from}

-- a rule that stands among some meets what all of these meet
pub all_at : (P : GrammarRule → Type 0) (rules : List GrammarRule) (k : ℕ) (r : GrammarRule) → All P rules
    → slice_get (map Some rules) k ≡ Some (Some r) → P r
all_at P [] k r all here = absurd (cc)
all_at P (x ∷ rules) zero r all here = let e : x ≡ r = cc in subst P e (all 0 x (omega arith))
all_at P (x ∷ rules) (suc k) r all here = all_at P rules k r (All-tail P x rules all) here

-- rules over symbols that there are, behind that of the whole text, are a grammar's
pub grammar_of : (terminals accept start : ℕ) (rules : List GrammarRule) → start < accept → 0 < terminals
    → All (RuleWithin terminals accept) rules
    → IsGrammar (grammar_from terminals accept start (accept_rule accept start ∷ rules))
grammar_of terminals accept start rules within some all = record {
  augmented = record { end_within = some; start_within = within; rule_0 = refl; within = within_at };
  whole = there (accept_rule accept start ∷ rules);
} where
  there : (rs : List GrammarRule) (p : ℕ) → p < length (map Some rs)
      → (r : GrammarRule) × (slice_get (map Some rs) p ≡ Some (Some r))
  there [] p lt = absurd (omega (arith, lt))
  there (r ∷ rs) zero lt = (r, refl)
  there (r ∷ rs) (suc p) lt = there rs p (omega (arith, lt))

  within_at : (p : ℕ) (r : GrammarRule) → IsRule
      (grammar_from terminals accept start (accept_rule accept start ∷ rules)) p r
      → 1 ≤ p → RuleWithin terminals accept r
  within_at zero r here le = absurd (omega arith)
  within_at (suc k) r here le = all_at (RuleWithin terminals accept) rules k r all here
