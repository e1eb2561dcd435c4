-- Automata as they are stored.
use Rattle.std.specs.Prelude.{List, map, Option, option_map}
use Rattle.ly_base.specs.Entry.{target_of}
use Rattle.ly_base.specs.declared.entry.Entry.{Entry}
use Rattle.ly_base.specs.declared.numbers.RuleNo.{RuleNo}
use Rattle.ly_subset.specs.Automaton.{Automaton}
use Rattle.ly_subset.specs.declared.dfa.Dfa.TheInside.{Inside}

abbrev pub automaton_of : Inside → Automaton
automaton_of d = record {
  class_of = d.class_of.items;
  classes = d.classes;
  rules = map (option_map (λ r. r.0)) d.rules.items;
  starts = d.starts;
  entries = map target_of d.entries.items;
}

-- an automaton with other states
abbrev pub with_states : Automaton → List (Option RuleNo) → List Entry → Automaton
with_states A rules entries = record A {
  rules = map (option_map (λ r. r.0)) rules;
  entries = map target_of entries;
}
