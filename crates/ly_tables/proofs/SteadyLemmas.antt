-- The machine of a table set's parts, and what the check of it says.
use Rattle.std.proofs.Common.{◌≡◌, ◌∙◌, ℕ, List, ap, length, map, sym, Option}
use Rattle.std.specs.Prelude.{option_map}
use Rattle.std.proofs.lemmas.List.{length-map}
use Rattle.ly_base.specs.declared.numbers.RuleNo.{RuleNo}
use Rattle.ly_loop.specs.Endless.{AreTablesRefused}
use Rattle.ly_loop.specs.declared.fault.LoopFault.{LoopFault}
use Rattle.ly_loop.specs.declared.fault.LoopFault.TheVariants.{Endless, OutOfMemory}
use Rattle.ly_pack.specs.Machine.{Machine}
use Rattle.ly_pack.specs.Rows.{comb_entry, grid_of}
use Rattle.ly_pack.specs.Values.{actions_from, gotos_from, machine_from, rule_from}
use Rattle.ly_pack.specs.declared.rule.TableRule as code
use Rattle.ly_tables.specs.Private.Refused.{IsUnsteady, refusal_of}
use Rattle.ly_tables.specs.TableSet.{TableSet, machine_of}

-- the machine over a set's rows, with its rules and defaults, is that of the set
pub machine_over : (s : TableSet) (n : ℕ) (defaults : List (Option RuleNo)) (rules : List code.TableRule)
    → n ≡ length s.terminals → map (option_map (λ (p : RuleNo). p.0)) defaults ≡ s.defaults
    → map rule_from rules ≡ s.rules
    → machine_from n s.nonterminals (comb_entry s.actions) (comb_entry s.gotos) defaults rules ≡ machine_of s
machine_over s n defaults rules terminals same_defaults same_rules =
    let states = sym (length-map defaults (option_map (λ (p : RuleNo). p.0))) ∙ ap length same_defaults in
    λ i. record {
      terminals = terminals i;
      nonterminals = s.nonterminals;
      actions = grid_of (states i) (terminals i) (actions_from (comb_entry s.actions));
      defaults = same_defaults i;
      gotos = grid_of (states i) s.nonterminals (gotos_from (comb_entry s.gotos));
      rules = same_rules i;
    }

-- a machine that the check refuses isn't steady
pub unsteady : (m : Machine) (f : LoopFault) → AreTablesRefused m f → IsUnsteady m (refusal_of f)
unsteady m (Endless below top token) first =
    λ steady. first.endless (steady below.0 top.0 token.0 first.known first.edge)
unsteady m OutOfMemory first = tt
