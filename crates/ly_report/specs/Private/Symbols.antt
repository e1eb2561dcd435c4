-- Symbols and conflicts that can be printed.
use Rattle.std.specs.Prelude.{◌<◌, length, All}
use Rattle.ly_join.specs.Grammar.{Symbol, nonterminal, terminal}
use Rattle.ly_join.specs.Joined.{Spec}
use Rattle.ly_lr0.specs.Automaton.{Lr0Automaton, prefix_of}
use Rattle.ly_resolve.specs.declared.conflict.Conflict.{Conflict}

-- the specification says what the symbol is
abbrev pub IsNamed : Spec → Symbol → Type 0
IsNamed s (terminal t) = t < length s.terminals
IsNamed s (nonterminal A) = A < length s.nonterminals

-- the state has a prefix of symbols that have names, and the terminal has one
pub record IsTellable (s : Spec) (M : Lr0Automaton) (c : Conflict) : Type 0 where
  pub state : c.state.0 < length M.states
  pub prefix : All (IsNamed s) (prefix_of M c.state.0)
  pub terminal : c.terminal.0 < length s.terminals
