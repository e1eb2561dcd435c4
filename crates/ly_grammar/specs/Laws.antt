-- What follows from the definitions of useful rules.
use Rattle.std.specs.Prelude.{◌≡◌, ◌↔◌, ℕ, List, Contains}
use Rattle.ly_base.specs.Lexed.{Token}
use Rattle.ly_base.specs.Trees.{Tree, Trees}
use Rattle.ly_join.specs.Grammar.{Grammar, GrammarRule, IsRule, nonterminal}
use Rattle.ly_grammar.specs.Derivations.{AreTrees, IsSentence, IsTree, IsUseful}
use Rattle.ly_grammar.specs.Reduction.{KeepsUseful}

-- the start symbol leads to the nonterminal: it is the start symbol, or it occurs in a rule whose body has trees and
-- whose left side the start symbol leads to
pub data IsLed (G : Grammar) : ℕ → Type 0 where
  at_start : IsLed G G.start
  by_rule : (p : ℕ) (r : GrammarRule) (A : ℕ) → IsRule G p r → (ts : Trees) × AreTrees G r.body ts → IsLed G r.left
      → Contains r.body (nonterminal A) → IsLed G A

-- a rule is useful exactly if its body has trees and the start symbol leads to its left side
abbrev pub UsefulIsLed : Type 0
UsefulIsLed = (G : Grammar) (p : ℕ) (r : GrammarRule) → IsRule G p r
    → IsUseful G p ↔ (((ts : Trees) × AreTrees G r.body ts) × IsLed G r.left)

-- without its other rules a grammar has the same trees of the start symbol, and so the same sentences
abbrev pub KeepsTrees : Type 0
KeepsTrees = (G R : Grammar) → KeepsUseful G R → (d : Tree)
    → IsTree G (nonterminal G.start) d ↔ IsTree R (nonterminal R.start) d

abbrev pub KeepsSentences : Type 0
KeepsSentences = (G R : Grammar) → KeepsUseful G R → (ts : List (Token ℕ)) → IsSentence G ts ↔ IsSentence R ts

-- the useful rules of a grammar with their numbers, and rule 0, form exactly one grammar
abbrev pub UsefulRulesAreOne : Type 0
UsefulRulesAreOne = (G R S : Grammar) → KeepsUseful G R → KeepsUseful G S → R ≡ S
