-- Transitions by the kinds of their symbols.
use Rattle.std.specs.Prelude.{◌≡◌, List, false, true, All}
use Rattle.ly_join.specs.Grammar.{symbol_of}
use Rattle.ly_lr0.specs.Automaton.{is_terminal}
use Rattle.ly_lr0.specs.declared.transition.Transition.{Transition}

-- all are over terminals
abbrev pub AreOverTerminals : List Transition → Type 0
AreOverTerminals ts = All (λ t. is_terminal (symbol_of t.symbol) ≡ true) ts

-- all are over nonterminals
abbrev pub AreOverNonterminals : List Transition → Type 0
AreOverNonterminals ts = All (λ t. is_terminal (symbol_of t.symbol) ≡ false) ts
