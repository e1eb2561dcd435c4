-- Rows and machines, as contracts see them.
use Rattle.std.specs.Prelude.{ℕ, List, Option, length, map}
use Rattle.std.specs.Option.{option_map}
use Rattle.ly_base.specs.Shape.{shape_of}
use Rattle.ly_base.specs.declared.numbers.RuleNo.{RuleNo}
use Rattle.ly_base.specs.declared.numbers.StateNo.{StateNo}
use Rattle.ly_pack.specs.Machine.{Machine, TableAction, TableRule, shift, reduce, accept, error}
use Rattle.ly_pack.specs.Rows.{Entries, grid_of}
use Rattle.ly_pack.specs.declared.action.TableAction as code
use Rattle.ly_pack.specs.declared.action.TableAction.TheVariants.{Shift, Reduce, Accept, Error}
use Rattle.ly_pack.specs.declared.machine_parts.MachineParts.{MachineParts}
use Rattle.ly_pack.specs.declared.rule.TableRule as rule

abbrev pub action_from : code.TableAction → TableAction
action_from (Shift state) = shift state.0
action_from (Reduce p) = reduce p.0
action_from Accept = accept
action_from Error = error

abbrev pub actions_from : Entries code.TableAction → Entries TableAction
actions_from entries state t = option_map action_from (entries state t)

abbrev pub gotos_from : Entries StateNo → Entries ℕ
gotos_from entries state left = option_map (λ s. s.0) (entries state left)

abbrev pub rule_from : rule.TableRule → TableRule
rule_from r = record { left = r.left.0; body_length = r.body_length; shape = shape_of r.tree }

abbrev pub machine_from : ℕ → ℕ → Entries code.TableAction → Entries StateNo → List (Option RuleNo)
    → List rule.TableRule → Machine
machine_from terminals nonterminals actions gotos defaults rules = record {
  terminals = terminals;
  nonterminals = nonterminals;
  actions = grid_of (length defaults) terminals (actions_from actions);
  defaults = map (option_map (λ p. p.0)) defaults;
  gotos = grid_of (length defaults) nonterminals (gotos_from gotos);
  rules = map rule_from rules;
}

-- the machine with these parts, by the entries of their rows
abbrev pub machine_of_parts : {A G : Type 0} → (A → Entries code.TableAction) → (G → Entries StateNo)
    → MachineParts A G → Machine
machine_of_parts actions gotos parts = machine_from parts.terminals parts.nonterminals (actions parts.actions)
    (gotos parts.gotos) parts.defaults.items parts.rules.items
