-- The lengths of the lists of a specification.
use Rattle.std.specs.Prelude.{◌≡◌, length}
use Rattle.ly_join.specs.Joined.{Spec}

-- There is a precedence for each terminal and a note for each rule, and the symbols of the grammar are these terminals
-- and nonterminals.
pub record HasSizes (s : Spec) : Type 0 where
  pub precedences : length s.precedences ≡ length s.terminals
  pub notes : length s.notes ≡ length s.grammar.rules
  pub terminals : s.grammar.terminals ≡ length s.terminals
  pub nonterminals : s.grammar.accept ≡ length s.nonterminals
