use Rattle.std.proofs.Common.{◌∙◌, ◌++◌, ap, subst, sym}
use Rattle.std.specs.Prelude.{◌↔◌, Contains}
use Rattle.std.proofs.lemmas.Bool.Decides.{Decides-eqb}
use Rattle.std.proofs.lemmas.Slice.Eq.{slice_eq-Decides}
use Rattle.ly_lr0.specs.declared.item.Item.{Item}
use Rattle.ly_lr0.specs.Private.Nonkernel.{AreNonkernel, IsNonkernel}
use Rattle.ly_lr0.proofs.ConstructLemmas.{nonkernel_kept, nonkernel_listed}
use Rattle.ly_lr0.proofs.ListLemmas.{moves_of_none, rules_of_none}
use Rattle.ly_lr0.proofs.nonkernel.Nonkernel.enter.Goals as goal

pub returns-then-eq : goal.returns-then-eq
returns-then-eq c =
    let same = (slice_eq-Decides Decides-eqb c.deref-before.result.now c.args.entered.now c.eq.result c.eq.ensures).0
    c.if-eq.true in
    subst (λ es. AreNonkernel c.args.reduced.now.grammar es c.args.self.now) (sym c.deref-before.ensures.value ∙ same)
    c.requires.before

pub list_moves-requires : goal.list_moves-requires
list_moves-requires c = nonkernel_kept c.args.reduced.now.grammar c.args.entered.now c.deref.result.now
    (subst (λ is. (i : Item) → Contains is i ↔ IsNonkernel c.args.reduced.now.grammar c.args.entered.now i)
    (sym c.deref.ensures.value) (λ i.
    let listed = c.in_ok-list_items.ensures i in
    let same = nonkernel_listed c.args.reduced.now.grammar c.args.by_left.now c.args.entered.now c.requires.by_left
    c.requires.within i in (λ h. same.0 (listed.0 h), λ h. listed.1 (same.1 h))))

pub complete_rules-requires : goal.complete_rules-requires
complete_rules-requires c = nonkernel_kept c.args.reduced.now.grammar c.args.entered.now c.deref-2.result.now
    (subst (λ is. (i : Item) → Contains is i ↔ IsNonkernel c.args.reduced.now.grammar c.args.entered.now i)
    (sym c.deref-2.ensures.value) (λ i.
    let listed = c.in_ok-list_items.ensures i in
    let same = nonkernel_listed c.args.reduced.now.grammar c.args.by_left.now c.args.entered.now c.requires.by_left
    c.requires.within i in (λ h. same.0 (listed.0 h), λ h. listed.1 (same.1 h))))

pub returns : goal.returns
returns c =
    let G = c.args.reduced.now.grammar in
    let items = c.list_items.new.items.items in record {
      of_these = c.in_ok-extend_from_slice.ensures.items ∙ ap (λ es. es ++ c.args.entered.now) c.clear.ensures.items;
      items = λ i.
          let listed = c.in_ok-list_items.ensures i in
          let same = nonkernel_listed G c.args.by_left.now c.args.entered.now c.requires.by_left c.requires.within i
          in (
            λ h. same.0 (listed.0 h),
            λ h. listed.1 (same.1 h),
          );
      moves = moves_of_none G c.deref.result.now items c.list_moves.new.moves.items c.in_ok-list_moves.ensures.each
          c.deref.ensures.value;
      complete = rules_of_none G c.deref-2.result.now items c.in_ok-self.field-0.items c.in_ok-self.ensures.each
          c.deref-2.ensures.value;
    }
