use Rattle.std.proofs.Common.{refl, subst}
use Rattle.lytab_c.proofs.ToldLemmas.{build_told, refusal_told}
use Rattle.lytab_c.specs.Private.Putting.{AreTablesPut}
use Rattle.lytab_c.proofs.building.build_into.Goals as goal

pub returns-in-Ok : goal.returns-in-Ok
returns-in-Ok c =
    let made = c.in-Ok.made in
    let told = c.in-Ok.ensures.built in
    let old = c.args.block.now in
    let new = c.put_tables.new.block in
    let built = c.put_tables.new.built in
    build_told c.args.lex.now c.args.yacc.now old new built c.put_tables.result made.tables.items made.conflicts
    (told.0, told.1, told.2, told.3)
    (subst (λ bytes. AreTablesPut bytes made.conflicts old new built c.put_tables.result) c.deref.ensures.value
    c.put_tables.ensures)

pub returns-in-Err : goal.returns-in-Err
returns-in-Err c =
    refusal_told c.args.lex.now c.args.yacc.now c.args.block.now c.args.block.now c.tell_fault.new.self
    c.tell_fault.result c.in-Err.fault c.in-Err.ensures.refused c.tell_fault.ensures refl
