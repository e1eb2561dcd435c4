-- Tables while they are filled, row after row.
use Rattle.std.specs.Prelude.{◌≡◌, ℕ, ◌+◌, ◌<◌, ◌≤◌, ◌-◌, List, Some, None, length, slice_get}
use Rattle.ly_base.specs.declared.numbers.StateNo.{StateNo}
use Rattle.ly_join.specs.Grammar.{IsRule, GrammarRule, nonterminal}
use Rattle.ly_join.specs.Joined.{Spec}
use Rattle.ly_lr0.specs.Automaton.{Lr0Automaton, goto_of, prefix_of}
use Rattle.ly_pack.specs.Machine.{TableRule}
use Rattle.ly_pack.specs.Rows.{Entries}
use Rattle.ly_pack.specs.Values.{action_from}
use Rattle.ly_pack.specs.declared.action.TableAction as code
use Rattle.ly_resolve.specs.Actions.{Action, IsAction, IsRaw, Judge}
use Rattle.ly_emit.specs.Tables.{IsEntryFor, shape_in}

-- All entries are right, and in the rows before this one each that is wanted is there.
pub record AreFilledTo {E : Type 0} (IsRight : ℕ → ℕ → E → Type 0) (IsWanted : ℕ → ℕ → Type 0) (count : ℕ)
    (entries : Entries E) : Type 0 where
  pub right : (row column : ℕ) (x : E) → entries row column ≡ Some x → IsRight row column x
  pub whole : (row column : ℕ) → row < count → entries row column ≡ None → IsWanted row column → ⊥

-- the entry has what is done in the state before the terminal
abbrev pub IsActionAt : Lr0Automaton → Judge → ℕ → ℕ → code.TableAction → Type 0
IsActionAt M judge k t a = (b : Action) × IsAction M.grammar judge (prefix_of M k) t b
    × IsEntryFor M k t b (action_from a)

-- an action is asked for in the state before the terminal
abbrev pub IsAskedAt : Lr0Automaton → ℕ → ℕ → Type 0
IsAskedAt M k t = (a : Action) × IsRaw M.grammar (prefix_of M k) t a

-- the entries of the states before this one are what is done there
abbrev pub AreActionsTo : Lr0Automaton → Judge → ℕ → Entries code.TableAction → Type 0
AreActionsTo M judge = AreFilledTo (IsActionAt M judge) (IsAskedAt M)

-- the nonterminal leads from the state to this one
abbrev pub IsGotoAt : Lr0Automaton → ℕ → ℕ → StateNo → Type 0
IsGotoAt M k A s = goto_of M k (nonterminal A) ≡ Some s.0

-- it leads somewhere
abbrev pub IsLedAt : Lr0Automaton → ℕ → ℕ → Type 0
IsLedAt M k A = (s : ℕ) × (goto_of M k (nonterminal A) ≡ Some s)

-- the entries of the states before this one are where they go
abbrev pub AreGotosTo : Lr0Automaton → ℕ → Entries StateNo → Type 0
AreGotosTo M = AreFilledTo (IsGotoAt M) (IsLedAt M)

-- The rules are those of the specification before this one, but for rule 0.
pub record AreRulesTo (s : Spec) (count : ℕ) (rules : List TableRule) : Type 0 where
  pub numbers : length rules + 1 ≡ count
  pub these : (p : ℕ) (r : GrammarRule) → 1 ≤ p → p < count → IsRule s.grammar p r
      → slice_get rules (p - 1) ≡ Some (record { left = r.left; body_length = length r.body; shape = shape_in s p })
