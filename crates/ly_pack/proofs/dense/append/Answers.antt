use Rattle.std.proofs.Common.{◌≡◌, ◌∙◌, [], Option, Some, None, ap, inl, inr, subst, sym}
use Rattle.std.specs.Prelude.{if◌then◌else◌, nat_eq}
use Rattle.std.proofs.lemmas.Bool.{cases_Bool, cond-false, cond-true, eqb-true}
use Rattle.std.proofs.lemmas.List.{append-nil}
use Rattle.ly_pack.specs.Rows.{entry_in}
use Rattle.ly_pack.specs.declared.cell.Cell.{Cell}
use Rattle.ly_pack.proofs.CellLemmas.{entry_in-behind, entry_in-insert}
use Rattle.ly_pack.proofs.dense.append.Goals as goal

pub returns-in_ok-push-clause-entries : goal.returns-in_ok-push-clause-entries
returns-in_ok-push-clause-entries g c t =
    let old = c.args.cells.now.items in
    let column = c.args.column in
    let x : Cell g.row.E.Denot = record { column = column; entry = c.in-Some.entry } in
    ap (λ cs. entry_in cs t) c.in_ok-push.ensures.items
    ∙ entry_in-insert old x [] c.requires t
    ∙ ap (λ cs. if nat_eq t column then Some x.entry else entry_in cs t) (append-nil old)
    ∙ ap (λ (o : Option g.row.E.Denot). if nat_eq t column then o else entry_in old t) (sym c.in-Some.is)

pub returns-in_default-clause-entries : goal.returns-in_default-clause-entries
returns-in_default-clause-entries g c t =
    let old = c.args.cells.now.items in
    let column = c.args.column in
    elim (cases_Bool (nat_eq t column)) [
      | inl here ↦
          let none : entry_in old column ≡ None = ap (λ cs. entry_in cs column) (sym (append-nil old))
          ∙ entry_in-behind old [] column c.requires in
          subst (λ k. entry_in old k ≡ None) (sym (eqb-true t column here)) none
          ∙ sym c.in_default.is
          ∙ sym (cond-true (nat_eq t column) c.args.entry (entry_in old t) here)
      | inr other ↦ sym (cond-false (nat_eq t column) c.args.entry (entry_in old t) other)
    ]
