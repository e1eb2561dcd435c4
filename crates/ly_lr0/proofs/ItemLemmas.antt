-- Items that pass the test are one.
use Rattle.std.proofs.Common.{◌≡◌, ◌∙◌, Bool, true, refl, ap}
use Rattle.std.specs.Prelude.{nat_eq, ◌&&◌}
use Rattle.std.proofs.lemmas.Bool.{and_parts, eq-eqb, eqb-true}
use Rattle.ly_lr0.specs.declared.item.Item.{Item}

abbrev pub same_item : Item → Item → Bool
same_item i j = nat_eq i.rule j.rule && nat_eq i.dot j.dot

pub item_same : (i j : Item) → same_item i j ≡ true → i ≡ j
item_same i j e =
    let p = and_parts (nat_eq i.rule j.rule) (nat_eq i.dot j.dot) e in
    ap (λ n. record { rule = n; dot = i.dot }) (eqb-true i.rule j.rule p.0)
    ∙ ap (λ n. record { rule = j.rule; dot = n }) (eqb-true i.dot j.dot p.1)

pub item_self : (i : Item) → same_item i i ≡ true
item_self i = rw (eq-eqb i.rule i.rule refl, eq-eqb i.dot i.dot refl) refl
