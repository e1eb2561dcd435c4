-- Cells that pass the test are the same.
use Rattle.std.proofs.Common.{◌≡◌, ◌∙◌, ◌&&◌, Bool, true, ap, refl}
use Rattle.std.specs.Prelude.{nat_eq}
use Rattle.std.proofs.lemmas.Bool.{and_parts, eqb-true}
use Rattle.ly_pack.specs.contracts.action.TableActionPartialEq.TheImpl as action
use Rattle.ly_pack.specs.declared.action.TableAction.{TableAction}
use Rattle.ly_pack.specs.declared.action.TableAction.TheVariants.{Accept, Error, Reduce, Shift}
use Rattle.ly_pack.specs.declared.cell.Cell.{Cell}

abbrev same_action : TableAction → TableAction → Bool
same_action a b = (action.eq-value).it a b

action_same : (a b : TableAction) → same_action a b ≡ true → a ≡ b
action_same (Shift s) (Shift t) e = ap (λ n. Shift (record { 0 = n })) (eqb-true s.0 t.0 e)
action_same (Reduce p) (Reduce q) e = ap (λ n. Reduce (record { 0 = n })) (eqb-true p.0 q.0 e)
action_same Accept Accept e = refl
action_same Error Error e = refl
action_same (Shift s) (Reduce q) e = absurd (cc)
action_same (Shift s) Accept e = absurd (cc)
action_same (Shift s) Error e = absurd (cc)
action_same (Reduce p) (Shift t) e = absurd (cc)
action_same (Reduce p) Accept e = absurd (cc)
action_same (Reduce p) Error e = absurd (cc)
action_same Accept (Shift t) e = absurd (cc)
action_same Accept (Reduce q) e = absurd (cc)
action_same Accept Error e = absurd (cc)
action_same Error (Shift t) e = absurd (cc)
action_same Error (Reduce q) e = absurd (cc)
action_same Error Accept e = absurd (cc)

pub cell_same : (x y : Cell TableAction) → (nat_eq x.column y.column && same_action x.entry y.entry) ≡ true → x ≡ y
cell_same x y e =
    let p = and_parts (nat_eq x.column y.column) (same_action x.entry y.entry) e in
    ap (λ n. record { column = n; entry = x.entry }) (eqb-true x.column y.column p.0)
    ∙ ap (λ a. record { column = y.column; entry = a }) (action_same x.entry y.entry p.1)
