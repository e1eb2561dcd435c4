-- Which rules have trees for their bodies, and which nonterminals the start symbol leads to.
use Rattle.std.specs.Prelude.{ℕ, List, [], ◌∷◌, ◌++◌, Option, Some, None, Contains}
use Rattle.ly_join.specs.Grammar.{Grammar, GrammarRule, IsRule, Symbol, terminal, nonterminal}

-- the start symbol leads to the nonterminal: it is that, or a rule has it in its body whose left side is led to
pub data IsReachedBy (G : Grammar) : ℕ → Type 0 where
  start : IsReachedBy G G.start
  through : (p : ℕ) (r : GrammarRule) (A : ℕ) → IsRule G p r → IsReachedBy G r.left → Contains r.body (nonterminal A)
      → IsReachedBy G A

-- from each nonterminal of a body to a left side
abbrev pub uses : ℕ → List Symbol → List (ℕ × ℕ)
uses left [] = []
uses left (terminal t ∷ w) = uses left w
uses left (nonterminal A ∷ w) = (A, left) ∷ uses left w

-- what a function makes of the rules that are there
abbrev pub of_rules : {X : Type 0} → (GrammarRule → List X) → List (Option GrammarRule) → List X
of_rules f [] = []
of_rules f (None ∷ rules) = of_rules f rules
of_rules f (Some r ∷ rules) = f r ++ of_rules f rules

-- all edges from a nonterminal to the left side of a rule that uses it
abbrev pub use_edges : List (Option GrammarRule) → List (ℕ × ℕ)
use_edges rules = of_rules (λ r. uses r.left r.body) rules
