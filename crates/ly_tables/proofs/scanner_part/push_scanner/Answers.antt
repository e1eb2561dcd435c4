use Rattle.std.proofs.Common.{◌≡◌, ◌++◌, subst, OnOk}
use Rattle.std.proofs.lemmas.Result.{on_ok_weaker}
use Rattle.ly_base.specs.declared.numbers.StateNo.{StateNo}
use Rattle.ly_tables.specs.Ranges.{width_of}
use Rattle.ly_tables.specs.Spelling.{comb, number, scanner_sections}
use Rattle.ly_tables.specs.TableSet.{TableSet}
use Rattle.ly_tables.proofs.JoinLemmas.{scanner_joined}
use Rattle.ly_tables.proofs.scanner_part.push_scanner.Goals as goal

pub returns : goal.returns
returns c =
    let i = c.set.inside.parts in
    let w = width_of c.args.version in
    subst (λ (s : TableSet). OnOk c.push_comb.result
    (c.push_comb.new.out.items ≡ c.args.out.now.items ++ scanner_sections w s)) c.set.view_is
    (on_ok_weaker c.push_comb.result (scanner_joined w c.args.out.now.items i.scan_rules.items i.conditions.items
    i.accepted.items (number w i.class_count) i.classes.items (comb w (λ (n : StateNo). n.0) i.scan_rows)
    (rw c.deref.ensures.value at c.in_ok-push_scan_rules.ensures)
    (rw c.deref-2.ensures.value at c.in_ok-push_conditions.ensures) c.in_ok-push_count.ensures
    (rw c.deref-3.ensures.value at c.in_ok-extend_from_slice.ensures.items)
    (rw c.deref-4.ensures.value at c.in_ok-push_accepted.ensures)) c.push_comb.ensures)
