use Rattle.std.proofs.Common.{◌∙◌, sym, subst}
use Rattle.ly_pack.specs.Machine.{IsMachine}
use Rattle.ly_pack.specs.Rows.{comb_entry, dense_entry}
use Rattle.ly_pack.proofs.PackLemmas.{machine_same}
use Rattle.ly_pack.proofs.pack_machine.pack.Goals as goal

pub new-requires-clause-whole : goal.new-requires-clause-whole
new-requires-clause-whole c =
    let p = c.into_parts-terminals.result in
    let so = c.into_parts-terminals.ensures in
    subst IsMachine (sym (machine_same p.terminals p.nonterminals (comb_entry c.in_ok-pack_rows.field-0)
    (dense_entry p.actions) (comb_entry c.in_ok-pack_rows-2.field-0) (dense_entry p.gotos) p.defaults.items
    p.rules.items c.in_ok-pack_rows.ensures.entries c.in_ok-pack_rows-2.ensures.entries ∙ so.same)) so.whole

pub returns : goal.returns
returns c =
    let p = c.into_parts-terminals.result in
    c.new.ensures ∙ machine_same p.terminals p.nonterminals (comb_entry c.in_ok-pack_rows.field-0)
    (dense_entry p.actions) (comb_entry c.in_ok-pack_rows-2.field-0) (dense_entry p.gotos) p.defaults.items
    p.rules.items c.in_ok-pack_rows.ensures.entries c.in_ok-pack_rows-2.ensures.entries
    ∙ c.into_parts-terminals.ensures.same
