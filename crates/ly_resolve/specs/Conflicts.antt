-- Conflicts: what precedence doesn't settle (POSIX, XCU yacc, "Conflicts").
use Rattle.std.specs.Prelude.{◌≡◌, ◌↔◌, ◌⊎◌, ℕ, ◌<◌, List, AllPairs, Contains}
use Rattle.ly_join.specs.Grammar.{Grammar, Symbol}
use Rattle.ly_grammar.specs.Items.{IsViable, Merges}
use Rattle.ly_lr0.specs.Automaton.{ComesBefore}
use Rattle.ly_resolve.specs.Actions.{Action, Judge, Stays, PrecedenceVerdict, IsAction, IsRaw, reduce, shift}
use Rattle.ly_resolve.specs.Actions.{unsettled}

-- a shift against a reduction, or two reductions
pub data Kind : Type 0 where
  shift_reduce : Kind
  reduce_reduce : Kind

-- A conflict: a rule that isn't chosen at the strings with the core of a prefix, before a terminal.
pub record Conflict : Type 0 where
  pub prefix : List Symbol
  pub terminal : ℕ
  pub kind : Kind
  pub rule : ℕ
  pub choice : Action

-- The rules that are counted, given the possible actions and the verdict of precedence on each rule.
module _ (IsAsked : Action → Type 0) (verdict : ℕ → PrecedenceVerdict) where
  -- A shift against a reduction is counted if precedence has no verdict. Of the reductions that stay, each but the
  -- earliest is counted.
  abbrev pub CountsAs : Kind → ℕ → Type 0
  CountsAs shift_reduce p = IsAsked shift × IsAsked (reduce p) × (verdict p ≡ unsettled)
  CountsAs reduce_reduce p = Stays IsAsked verdict p × (q : ℕ) × (q < p) × Stays IsAsked verdict q

-- the rule is counted at a string before a terminal
abbrev pub IsCounted : Grammar → Judge → List Symbol → ℕ → Kind → ℕ → Type 0
IsCounted G judge g t = CountsAs (IsRaw G g t) (λ p. judge p t)

-- the least of the strings with the same core (the access prefix of a state)
abbrev pub IsLeast : Grammar → List Symbol → Type 0
IsLeast G g = IsViable G g × ((h : List Symbol) → Merges G g h → (h ≡ g) ⊎ ComesBefore g h)

-- The conflict is one of the grammar, and its choice is the chosen action.
pub record IsConflict (G : Grammar) (judge : Judge) (c : Conflict) : Type 0 where
  pub least : IsLeast G c.prefix
  pub counted : IsCounted G judge c.prefix c.terminal c.kind c.rule
  pub choice : IsAction G judge c.prefix c.terminal c.choice

-- a shift against a reduction comes before two reductions
abbrev pub IsKindBefore : Kind → Kind → Type 0
IsKindBefore shift_reduce reduce_reduce = Unit {0}
IsKindBefore _ _ = ⊥

-- conflicts ordered by prefix, then terminal, then kind, then rule
abbrev pub IsBefore : Conflict → Conflict → Type 0
IsBefore c d = ComesBefore c.prefix d.prefix ⊎ ((c.prefix ≡ d.prefix)
    × ((c.terminal < d.terminal) ⊎ ((c.terminal ≡ d.terminal)
    × (IsKindBefore c.kind d.kind ⊎ ((c.kind ≡ d.kind) × (c.rule < d.rule))))))

-- All conflicts of a grammar, in their order.
pub record AreConflicts (G : Grammar) (judge : Judge) (cs : List Conflict) : Type 0 where
  pub are : (c : Conflict) → Contains cs c ↔ IsConflict G judge c
  pub ordered : AllPairs IsBefore cs
