-- Grammars over numbered symbols, with a rule for the whole text (Knuth 1965).
use Rattle.std.specs.Prelude.{◌≡◌, ℕ, ◌<◌, ◌≤◌, List, [], ◌∷◌, map, All, Option, Some, slice_get, length}
use Rattle.ly_join.specs.declared.symbol.Symbol as code
use Rattle.ly_join.specs.declared.symbol.Symbol.TheVariants.{Terminal, Nonterminal}

-- A terminal or a nonterminal, by its number. Terminal 0 is the end of the text.
pub data Symbol : Type 0 where
  terminal : ℕ → Symbol
  nonterminal : ℕ → Symbol

-- A rule: a nonterminal and a body that may replace it.
pub record GrammarRule : Type 0 where
  pub left : ℕ
  pub body : List Symbol

-- Rules by number, where a removed rule keeps its number; the number of terminals; the nonterminal of the whole text,
-- whose number is greater than any other's; and the start symbol of the sentences.
pub record Grammar : Type 0 where
  pub terminals : ℕ
  pub accept : ℕ
  pub start : ℕ
  pub rules : List (Option GrammarRule)

-- rule p of the grammar is r
abbrev pub IsRule : Grammar → ℕ → GrammarRule → Type 0
IsRule G p r = slice_get G.rules p ≡ Some (Some r)

-- the rule of the whole text: the start symbol, and the end
abbrev pub accept_rule : ℕ → ℕ → GrammarRule
accept_rule accept start = record { left = accept; body = nonterminal start ∷ terminal 0 ∷ [] }

-- a symbol that rules may contain: neither the end nor the whole text
abbrev pub SymbolWithin : ℕ → ℕ → Symbol → Type 0
SymbolWithin terminals accept (terminal t) = (0 < t) × (t < terminals)
SymbolWithin terminals accept (nonterminal A) = A < accept

-- All symbols of a rule are of this kind.
pub record RuleWithin (terminals accept : ℕ) (r : GrammarRule) : Type 0 where
  pub left : r.left < accept
  pub body : All (SymbolWithin terminals accept) r.body

-- Rule 0 is that of the whole text, and no other rule contains the whole text or the end (an augmented grammar).
pub record IsAugmented (G : Grammar) : Type 0 where
  pub end_within : 0 < G.terminals
  pub start_within : G.start < G.accept
  pub rule_0 : IsRule G 0 (accept_rule G.accept G.start)
  pub within : (p : ℕ) (r : GrammarRule) → IsRule G p r → 1 ≤ p → RuleWithin G.terminals G.accept r

-- The grammar is augmented, and none of its rules is removed.
pub record IsGrammar (G : Grammar) : Type 0 where
  pub augmented : IsAugmented G
  pub whole : (p : ℕ) → p < length G.rules → (r : GrammarRule) × IsRule G p r

-- the symbol of the definitions for a symbol of the code
abbrev pub symbol_of : code.Symbol → Symbol
symbol_of (Terminal t) = terminal t.0
symbol_of (Nonterminal A) = nonterminal A.0

-- the grammar of these rules, none of them removed
abbrev pub grammar_from : ℕ → ℕ → ℕ → List GrammarRule → Grammar
grammar_from terminals accept start rules
    = record { terminals = terminals; accept = accept; start = start; rules = map Some rules }
