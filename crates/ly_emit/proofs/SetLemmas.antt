-- The parser's tables in a table set.
use Rattle.std.proofs.Common.{◌≡◌, ◌∙◌, ℕ, ap, length, map, sym}
use Rattle.std.specs.Option.{option_map}
use Rattle.std.proofs.lemmas.List.{length-map}
use Rattle.ly_base.specs.declared.numbers.StateNo.{StateNo}
use Rattle.ly_grammar.specs.Reduction.{KeepsUseful}
use Rattle.ly_join.specs.Joined.{Spec}
use Rattle.ly_join.specs.Sizes.{HasSizes}
use Rattle.ly_lr0.specs.Automaton.{Lr0Automaton}
use Rattle.ly_pack.specs.Machine.{Machine}
use Rattle.ly_pack.specs.Rows.{Comb, comb_entry, grid_of}
use Rattle.ly_pack.specs.Values.{actions_from, gotos_from, machine_from, rule_from}
use Rattle.ly_pack.specs.declared.action.TableAction as code
use Rattle.ly_report.specs.Report.{terminal_name}
use Rattle.ly_tables.specs.TableSet.{machine_of}
use Rattle.ly_tables.specs.Values.{set_of}
use Rattle.ly_tables.specs.declared.table_parts.TableParts.{TableParts}
use Rattle.ly_emit.specs.Tables.{IsMachineOf}

module _ (p : TableParts) (terminals nonterminals : ℕ) (actions : Comb code.TableAction) (gotos : Comb StateNo)
    (same_actions : p.actions ≡ actions) (same_gotos : p.gotos ≡ gotos) where
  -- the tables of a set are those that its parts are of
  machine_of_set : length (map (λ name. name.items) p.terminals.items) ≡ terminals → p.nonterminals ≡ nonterminals
      → machine_of (set_of p) ≡ machine_from terminals nonterminals (comb_entry actions) (comb_entry gotos)
      p.defaults.items p.rules.items
  machine_of_set wide narrow i = record {
    terminals = wide i;
    nonterminals = narrow i;
    actions = grid_of (states i) (wide i) (actions_from (comb_entry (same_actions i)));
    defaults = map (option_map (λ p. p.0)) p.defaults.items;
    gotos = grid_of (states i) (narrow i) (gotos_from (comb_entry (same_gotos i)));
    rules = map rule_from p.rules.items;
  }
    where
      states : length (map (option_map (λ p. p.0)) p.defaults.items) ≡ length p.defaults.items
      states = length-map p.defaults.items (option_map (λ p. p.0))

  -- where the symbols are those of a specification, and the tables a machine of it, the set's are this machine
  pub set_machine : (s : Spec) (M : Lr0Automaton) (machine : Machine) → HasSizes s → KeepsUseful s.grammar M.grammar
      → IsMachineOf s M machine → map (λ name. name.items) p.terminals.items ≡ map terminal_name s.terminals
      → p.nonterminals ≡ M.grammar.accept
      → machine_from terminals nonterminals (comb_entry actions) (comb_entry gotos) p.defaults.items p.rules.items
      ≡ machine → machine_of (set_of p) ≡ machine
  set_machine s M machine sizes useful is names accept packed = machine_of_set (ap length names
      ∙ length-map s.terminals terminal_name ∙ sym sizes.terminals ∙ sym useful.terminals ∙ sym is.1.terminals
      ∙ sym is.2.terminals ∙ sym (ap (λ m. m.terminals) packed))
      (accept ∙ sym is.1.nonterminals ∙ sym is.2.nonterminals ∙ sym (ap (λ m. m.nonterminals) packed)) ∙ packed
