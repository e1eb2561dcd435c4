use Rattle.std.proofs.Common.{◌∙◌, Global, Vec, ap, map, sym, ℕ}
use Rattle.std.specs.Prelude.{option_map}
use Rattle.std.proofs.lemmas.List.{length-map}
use Rattle.ly_base.specs.declared.numbers.RuleNo.{RuleNo}
use Rattle.ly_pack.specs.Values.{rule_from}
use Rattle.ly_tables.specs.Values.{set_of}
use Rattle.ly_tables.proofs.SteadyLemmas.{machine_over}
use Rattle.ly_tables.proofs.table_parts.TableParts.machine.Goals as goal

pub returns : goal.returns
returns c =
    let p = c.args.self.now in
    c.new.ensures
    ∙ machine_over (set_of p) c.len.result c.deref.result.now c.deref-2.result.now
    (c.len.ensures ∙ p.terminals.ok.0 ∙ sym (length-map p.terminals.items (λ (name : Vec ℕ Global). name.items)))
    (ap (map (option_map (λ (p : RuleNo). p.0))) c.deref.ensures.value)
    (ap (map rule_from) c.deref-2.ensures.value)
