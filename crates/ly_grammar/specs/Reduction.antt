-- A grammar with its useless rules removed, its nullable nonterminals and its FIRST sets.
use Rattle.std.specs.Prelude.{◌≡◌, ◌↔◌, ℕ, ◌≤◌, List, [], ◌∷◌, ◌⊎◌, Bool, true, false, Option, None, slice_index_or}
use Rattle.std.specs.Prelude.{length, IsTrue}
use Rattle.std.specs.Prelude.{refl}
use Rattle.std.specs.Coded.{Coded, code_by, coded×, coded_bool, coded_ℕ, coded_list}
use Rattle.std.specs.FinSet as set
use Rattle.ly_join.specs.GrammarCode.{grammar_code}
use Rattle.ly_sets.specs.NumberSet.{NumberSet, Member}
use Rattle.ly_sets.specs.SetMatrix.{Matrix, row}
use Rattle.ly_join.specs.Grammar.{Grammar, GrammarRule, IsAugmented, IsRule, nonterminal}
use Rattle.ly_grammar.specs.Derivations.{BeginsYield, IsNullable, IsReduced, IsUseful}

-- the rules whose number is marked; the others are removed
abbrev pub kept_rules : List Bool → List (Option GrammarRule) → List (Option GrammarRule)
kept_rules [] rules = []
kept_rules (k ∷ kept) [] = []
kept_rules (true ∷ kept) (r ∷ rules) = r ∷ kept_rules kept rules
kept_rules (false ∷ kept) (r ∷ rules) = None ∷ kept_rules kept rules

-- the grammar of the rules that are marked
abbrev pub restricted : List Bool → Grammar → Grammar
restricted kept G = record G { rules = kept_rules kept G.rules }

-- A reduced grammar, with whether each nonterminal is nullable, and which terminals may begin what it derives.
pub record Reduction : Type 0 where
  pub grammar : Grammar
  pub nullable : List Bool
  pub first : List NumberSet

-- the second grammar has the useful rules of the first with their numbers, and rule 0, and no other
pub record KeepsUseful (G R : Grammar) : Type 0 where
  pub terminals : R.terminals ≡ G.terminals
  pub accept : R.accept ≡ G.accept
  pub start : R.start ≡ G.start
  pub numbers : length R.rules ≡ length G.rules
  pub rules : (p : ℕ) (r : GrammarRule) → IsRule R p r ↔ (IsRule G p r × ((p ≡ 0) ⊎ IsUseful G p))

-- The grammar is reduced, and the nullable nonterminals and FIRST sets of the reduction are right.
pub record IsReduction (G : Grammar) (r : Reduction) : Type 0 where
  pub keeps : KeepsUseful G r.grammar
  pub augmented : IsAugmented r.grammar
  pub reduced : IsReduced r.grammar
  pub nullable : (A : ℕ) → A ≤ G.accept → IsTrue (slice_index_or r.nullable A false)
      ↔ IsNullable r.grammar (nonterminal A ∷ [])
  pub first : (A t : ℕ) → A ≤ G.accept → Member (row r.first A) t ↔ BeginsYield r.grammar (nonterminal A ∷ []) t

-- the reduction to the marked rules of a grammar
abbrev pub reduction_of : Grammar → List Bool → List Bool → Matrix → Reduction
reduction_of G kept nullable first
    = record { grammar = restricted kept G; nullable = nullable; first = first.sets }

abbrev pub reduction_code : Coded Reduction
reduction_code = code_by (Grammar × (List Bool × List NumberSet))
    (coded× grammar_code (coded× (coded_list coded_bool) (coded_list (set.code coded_ℕ))))
    (λ r. (r.grammar, (r.nullable, r.first))) (λ p. record { grammar = p.0; nullable = p.1.0; first = p.1.1 })
    (λ _. refl)
