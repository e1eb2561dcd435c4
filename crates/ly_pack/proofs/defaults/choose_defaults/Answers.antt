use Rattle.std.proofs.Common.{◌∙◌, ◌≤◌, sym, subst, refl, arith}
use Rattle.std.proofs.Math.ListN.{length-map}
use Rattle.ly_pack.specs.Defaults.{HasDefaultsOf}
use Rattle.ly_pack.specs.Machine.{IsMachine, Machine}
use Rattle.ly_pack.specs.Private.Tally.{HaveDefaults, reductions}
use Rattle.ly_pack.specs.Rows.{dense_entry}
use Rattle.ly_pack.specs.Values.{machine_from, rule_from}
use Rattle.ly_pack.proofs.DefaultLemmas.{counted_legal, has_defaults, still_machine}
use Rattle.ly_pack.proofs.defaults.choose_defaults.Goals as goal

pub take_defaults-requires : goal.take_defaults-requires
take_defaults-requires c state rule row some =
    let p = c.into_parts-parts.result in
    let so = c.into_parts-parts.ensures in
    let is = counted_legal p.terminals p.nonterminals p.actions p.actions (dense_entry p.gotos) p.defaults.items
    p.defaults.items p.rules.items refl (subst IsMachine (sym so.same) so.whole) state rule
    (omega (arith, row, so.sizes.actions))
    (subst (λ w. 1 ≤ reductions (dense_entry p.actions) w state rule) so.sizes.actions_wide some) in
    omega (arith, is.1, length-map p.rules.items rule_from, c.len.ensures, p.rules.ok.0)

pub new-requires-clause-whole : goal.new-requires-clause-whole
new-requires-clause-whole c =
    let p = c.into_parts-parts.result in
    let so = c.into_parts-parts.ensures in
    still_machine p.terminals p.nonterminals p.actions c.take_defaults.new.actions (dense_entry p.gotos)
    p.defaults.items c.in_ok-parts.field-0.items p.rules.items
    (c.in_ok-parts.ensures.states ∙ so.sizes.actions)
    (subst (λ w. HaveDefaults w p.actions c.take_defaults.new.actions c.in_ok-parts.field-0.items) so.sizes.actions_wide
    c.in_ok-parts.ensures.taken)
    (subst IsMachine (sym so.same) so.whole)

pub returns : goal.returns
returns c =
    let p = c.into_parts-parts.result in
    let so = c.into_parts-parts.ensures in
    subst (HasDefaultsOf c.args.machine) (sym c.new.ensures)
    (subst (λ (before : Machine). HasDefaultsOf before (machine_from p.terminals p.nonterminals
    (dense_entry c.take_defaults.new.actions) (dense_entry p.gotos) c.in_ok-parts.field-0.items p.rules.items)) so.same
    (has_defaults p.terminals p.nonterminals p.actions c.take_defaults.new.actions (dense_entry p.gotos)
    p.defaults.items c.in_ok-parts.field-0.items p.rules.items
    (c.in_ok-parts.ensures.states ∙ so.sizes.actions)
    (subst (λ w. HaveDefaults w p.actions c.take_defaults.new.actions c.in_ok-parts.field-0.items) so.sizes.actions_wide
    c.in_ok-parts.ensures.taken)))
