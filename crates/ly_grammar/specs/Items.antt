-- Items of rules, and where they are valid (Knuth 1965; Aho, Sethi and Ullman 1986, 4.7). Strings of symbols have their
-- last symbol first, as stacks have.
use Rattle.std.specs.Prelude.{◌≡◌, ◌≢◌, ◌↔◌, ℕ, suc, List, [], ◌∷◌, length, All, AllPairs}
use Rattle.ly_join.specs.Grammar.{Grammar, IsRule, GrammarRule, Symbol, nonterminal, terminal}
use Rattle.ly_grammar.specs.Derivations.{First}

-- symbols, last first, put before others, in the order of the text
abbrev pub onto : List Symbol → List Symbol → List Symbol
onto [] w = w
onto (X ∷ before) w = onto before (X ∷ w)

-- The item of rule p with a dot between the symbols before it, last first, and those after it is valid at the string
-- with this terminal as its lookahead.
pub data Valid (G : Grammar) : List Symbol → ℕ → List Symbol → List Symbol → ℕ → Type 0 where
  at_start : {r : GrammarRule} {w : List Symbol} → IsRule G 0 r → w ≡ r.body → Valid G [] 0 [] w 0
  closed : {g : List Symbol} {p : ℕ} {before after : List Symbol} {B t : ℕ} {q : ℕ} {r : GrammarRule} {w : List Symbol}
      {u : ℕ}
      → Valid G g p before (nonterminal B ∷ after) t → IsRule G q r → r.left ≡ B → w ≡ r.body → First G after t u
      → Valid G g q [] w u
  moved : {g : List Symbol} {p : ℕ} {before after : List Symbol} {X : Symbol} {t : ℕ}
      → Valid G g p before (X ∷ after) t → Valid G (X ∷ g) p (X ∷ before) after t

-- the item is valid at the string with some lookahead: it is one of the string's core
abbrev pub InCore : Grammar → List Symbol → ℕ → List Symbol → List Symbol → Type 0
InCore G g p before after = (t : ℕ) × Valid G g p before after t

-- the end isn't among the symbols
abbrev pub HasNoEnd : List Symbol → Type 0
HasNoEnd [] = Unit {0}
HasNoEnd (X ∷ w) = (X ≢ terminal 0) × HasNoEnd w

-- the string doesn't contain the end, and its core isn't empty (a viable prefix)
abbrev pub IsViable : Grammar → List Symbol → Type 0
IsViable G g = HasNoEnd g × (p : ℕ) × (before : List Symbol) × (after : List Symbol) × InCore G g p before after

-- two strings have the same core
abbrev pub SameCore : Grammar → List Symbol → List Symbol → Type 0
SameCore G g h = (p : ℕ) (before after : List Symbol) → InCore G g p before after ↔ InCore G h p before after

-- Both strings are viable, and have the same core.
pub record Merges (G : Grammar) (g h : List Symbol) : Type 0 where
  pub left : IsViable G g
  pub right : IsViable G h
  pub cores : SameCore G g h

-- The terminal is in the merged lookahead of a rule at a string: the complete rule is valid with it at a string of the
-- same core. (The sets of canonical LR(1) items, merged where their cores are equal.)
pub record InLookahead (G : Grammar) (g : List Symbol) (p t : ℕ) : Type 0 where
  pub at : List Symbol
  pub merges : Merges G g at
  pub before : List Symbol
  pub valid : Valid G at p before [] t

-- an item of the string's core has the symbol after its dot
abbrev pub IsNextSymbol : Grammar → List Symbol → Symbol → Type 0
IsNextSymbol G g X = (p : ℕ) × (before : List Symbol) × (after : List Symbol) × InCore G g p before (X ∷ after)

-- an item of the string's core is the whole rule
abbrev pub IsComplete : Grammar → List Symbol → ℕ → Type 0
IsComplete G g p = (before : List Symbol) × InCore G g p before []

-- More cores of viable strings than n: n + 1 strings, no two of the same core.
pub record HasMoreCores (G : Grammar) (n : ℕ) : Type 0 where
  pub strings : List (List Symbol)
  pub count : length strings ≡ suc n
  pub viable : All (IsViable G) strings
  pub apart : AllPairs (λ g h. SameCore G g h → ⊥) strings
