-- Transitions, as contracts see them.
use Rattle.ly_join.specs.Grammar.{symbol_of}
use Rattle.ly_lr0.specs.Automaton.{Transition}
use Rattle.ly_lr0.specs.declared.transition.Transition as code

abbrev pub transition_of : code.Transition → Transition
transition_of t = record { symbol = symbol_of t.symbol; target = t.target.0 }
