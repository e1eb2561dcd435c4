-- Encodings of grammars, for deciding equality of types that contain one.
use Rattle.std.specs.Prelude.{◌≡◌, ℕ, ◌⊎◌, List, Option, refl}
use mathlib.Core.Logic.{inl, inr}
use Rattle.std.specs.Coded.{Coded, code_by, coded×, coded⊎, coded_ℕ, coded_list, coded_option}
use Rattle.ly_join.specs.Grammar.{Grammar, GrammarRule, Symbol, terminal, nonterminal}

-- a symbol as a number of one of two kinds
abbrev pub to_number : Symbol → ℕ ⊎ ℕ
to_number (terminal t) = inl t
to_number (nonterminal A) = inr A

abbrev pub of_number : ℕ ⊎ ℕ → Symbol
of_number (inl t) = terminal t
of_number (inr A) = nonterminal A

abbrev pub of_to : (X : Symbol) → of_number (to_number X) ≡ X
of_to (terminal t) = refl
of_to (nonterminal A) = refl

abbrev pub symbol_code : Coded Symbol
symbol_code = code_by (ℕ ⊎ ℕ) (coded⊎ coded_ℕ coded_ℕ) to_number of_number of_to

-- a rule as its left side and its body
abbrev pub rule_code : Coded GrammarRule
rule_code = code_by (ℕ × List Symbol) (coded× coded_ℕ (coded_list symbol_code)) (λ r. (r.left, r.body))
    (λ p. record { left = p.0; body = p.1 }) (λ _. refl)

-- a grammar as its numbers and its rules
abbrev pub grammar_code : Coded Grammar
grammar_code = code_by (ℕ × (ℕ × (ℕ × List (Option GrammarRule))))
    (coded× coded_ℕ (coded× coded_ℕ (coded× coded_ℕ (coded_list (coded_option rule_code)))))
    (λ g. (g.terminals, (g.accept, (g.start, g.rules))))
    (λ p. record { terminals = p.0; accept = p.1.0; start = p.1.1.0; rules = p.1.1.1 }) (λ _. refl)
