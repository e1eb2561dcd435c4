-- The relations between nonterminal transitions (DeRemer and Pennello 1982, 4). A transition is a state and a
-- nonterminal that leaves it.
use Rattle.std.specs.Prelude.{◌≡◌, ℕ, List, [], ◌∷◌, Some}
use Rattle.ly_join.specs.Grammar.{Grammar, IsRule, GrammarRule, Symbol, nonterminal, terminal}
use Rattle.ly_grammar.specs.Derivations.{IsNullable}
use Rattle.ly_grammar.specs.Items.{IsNextSymbol, onto}
use Rattle.ly_lr0.specs.Automaton.{Gotos, Reaches}

module _ (G : Grammar) (goto : Gotos) where
  -- the nonterminal leaves the state
  abbrev pub IsTransition : ℕ → ℕ → Type 0
  IsTransition p A = (r : ℕ) × (goto p (nonterminal A) ≡ Some r)

  -- the terminal leaves the state: an item of its core has it after the dot. So the end may leave a state too.
  abbrev pub Leaves : ℕ → ℕ → Type 0
  Leaves s t = (g : List Symbol) × Reaches goto 0 g s × IsNextSymbol G g (terminal t)

  -- DR: the terminal leaves the state that the transition leads to
  abbrev pub DirectlyReads : ℕ → ℕ → ℕ → Type 0
  DirectlyReads p A t = (r : ℕ) × (goto p (nonterminal A) ≡ Some r) × Leaves r t

  -- (p, A) reads (r, C): it leads to r, and C is nullable
  abbrev pub Reads : ℕ → ℕ → ℕ → ℕ → Type 0
  Reads p A r C = (goto p (nonterminal A) ≡ Some r) × IsTransition r C × IsNullable G (nonterminal C ∷ [])

  -- (p, A) includes (q, B): in a rule of B, A comes after symbols that lead from q to p, and only nullable symbols
  -- follow A.
  pub record Includes (p A q B : ℕ) : Type 0 where
    pub number : ℕ
    pub rule : GrammarRule
    pub is_rule : IsRule G number rule
    pub is_left : rule.left ≡ B
    pub before : List Symbol
    pub after : List Symbol
    pub is_body : onto before (nonterminal A ∷ after) ≡ rule.body
    pub nullable : IsNullable G after
    pub leads : Reaches goto q before p
    pub from : IsTransition p A
    pub to : IsTransition q B

  -- (s, rule) looks back to (p, A): the body of the rule, which is one of A, leads from p to s.
  pub record LooksBack (s number p A : ℕ) : Type 0 where
    pub rule : GrammarRule
    pub is_rule : IsRule G number rule
    pub is_left : rule.left ≡ A
    pub before : List Symbol
    pub is_body : onto before [] ≡ rule.body
    pub leads : Reaches goto p before s
    pub from : IsTransition p A

  -- Read: the least solution of DR along reads
  pub data Read : ℕ → ℕ → ℕ → Type 0 where
    directly : {p A t : ℕ} → DirectlyReads p A t → Read p A t
    along_reads : {p A r C t : ℕ} → Reads p A r C → Read r C t → Read p A t

  -- Follow: the least solution of Read along includes
  pub data Follow : ℕ → ℕ → ℕ → Type 0 where
    by_read : {p A t : ℕ} → Read p A t → Follow p A t
    along_includes : {p A q B t : ℕ} → Includes p A q B → Follow q B t → Follow p A t

  -- LA: the union of Follow along lookback
  abbrev pub LookaheadBy : ℕ → ℕ → ℕ → Type 0
  LookaheadBy s number t = (p : ℕ) × (A : ℕ) × LooksBack s number p A × Follow p A t
