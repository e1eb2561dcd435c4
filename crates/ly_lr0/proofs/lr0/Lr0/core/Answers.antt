use Rattle.std.proofs.Common.{◌≡◌, ◌∙◌, ◌<◌, ◌-◌, ◌∷◌, suc, ap, arith, drop, length, map, subst, sym}
use Rattle.std.specs.Prelude.{◌↔◌, Contains}
use Rattle.std.proofs.lemmas.List.{get_or-map, length-map}
use Rattle.std.proofs.Math.Seq.{drop-cons}
use Rattle.ly_join.specs.Grammar.{symbol_of}
use Rattle.ly_lr0.specs.Automaton.{Lr0Automaton, HasInCore}
use Rattle.ly_lr0.specs.Private.Closing.{AreKept}
use Rattle.ly_lr0.specs.Private.Items.{IsClosed, IsKernel, IsMovedOver}
use Rattle.ly_lr0.specs.declared.item.Item.{Item}
use Rattle.ly_lr0.proofs.ConstructLemmas.{items_kept}
use Rattle.ly_lr0.proofs.CoreItemLemmas.{closed_in_core, kernel_kept, longer_kernel}
use Rattle.ly_lr0.proofs.lr0.Lr0.core.Goals as goal

pub closed-requires-clause-kept : goal.closed-requires-clause-kept
closed-requires-clause-kept c =
    let R = c.self.inside.reduced.now.grammar in
    subst (AreKept R) (sym c.deref.ensures.value)
    (kernel_kept R c.self.invariant.automaton.augmented _ _ c.loop-left.invariant.kernel)

pub kernel_behind-requires : goal.kernel_behind-requires
kernel_behind-requires c =
    let R = c.self.inside.reduced.now.grammar in
    let K = c.loop-left.kernel.items in
    let kept = kernel_kept R c.self.invariant.automaton.augmented _ K c.loop-left.invariant.kernel in
    let closed : (i : Item) → Contains c.in_ok-items.items.items i ↔ IsClosed R K i.rule i.dot
    = subst (λ ks. (i : Item) → Contains c.in_ok-items.items.items i ↔ IsClosed R ks i.rule i.dot)
    c.deref.ensures.value c.in_ok-items.ensures in
    subst (AreKept R) (sym c.deref-in-loop-left.ensures.value)
    (items_kept R K c.in_ok-items.items.items closed kept)

pub loop-left-preserved : goal.loop-left-preserved
loop-left-preserved c =
    let R = c.self.inside.reduced.now.grammar in
    let K = c.loop-left.kernel.items in
    let items = c.in_ok-items.items.items in
    let ks = c.in_ok-kernel.kernel.items in
    let prefix = c.in_ok-prefix.prefix.items in
    let P = map symbol_of prefix in
    let at = c.loop-left.left - 1 in
    let X = symbol_of c.index.result.now in
    let some = c.loop-left-test.true in
    let within = c.loop-left.invariant.within in
    let less : at < length P = omega (arith, some, within, length-map prefix symbol_of) in
    let left : suc at ≡ c.loop-left.left = omega (arith, some) in
    let front : drop at P ≡ X ∷ drop c.loop-left.left P =
    drop-cons P at X less
    ∙ ap (λ Y. Y ∷ drop (suc at) P) (get_or-map symbol_of prefix at c.index.result.now X (omega (arith, some, within))
    ∙ ap symbol_of (sym c.index.ensures))
    ∙ ap (λ n. X ∷ drop n P) left in
    let closed : (i : Item) → Contains items i ↔ IsClosed R K i.rule i.dot
    = subst (λ ls. (i : Item) → Contains items i ↔ IsClosed R ls i.rule i.dot)
    c.deref.ensures.value c.in_ok-items.ensures in
    let moved : (i : Item) → Contains ks i ↔ IsMovedOver R items X i
    = subst (λ is. (i : Item) → Contains ks i ↔ IsMovedOver R is X i)
    c.deref-in-loop-left.ensures.value c.in_ok-kernel.ensures in
    record {
      within = omega arith;
      kernel = subst (λ g. IsKernel R g ks) (sym front)
          (longer_kernel R c.self.invariant.automaton.augmented (drop c.loop-left.left P) X K items ks
          c.loop-left.invariant.kernel closed moved);
    }

pub closed-requires-2-clause-kept : goal.closed-requires-2-clause-kept
closed-requires-2-clause-kept c =
    let R = c.self.inside.reduced.now.grammar in
    subst (AreKept R) (sym c.deref-2.ensures.value)
    (kernel_kept R c.self.invariant.automaton.augmented _ _ c.loop-left.invariant.kernel)

pub returns : goal.returns
returns c =
    let R = c.self.inside.reduced.now.grammar in
    let K = c.loop-left.kernel.items in
    let items = c.in_ok-closed.field-0.items in
    let P = map symbol_of c.in_ok-prefix.prefix.items in
    let none : c.loop-left.left ≡ 0 = let test = c.loop-left-test.false in omega arith in
    let kernel : IsKernel R P K = subst (λ n. IsKernel R (drop n P) K) none c.loop-left.invariant.kernel in
    let closed : (i : Item) → Contains items i ↔ IsClosed R K i.rule i.dot
    = subst (λ ls. (i : Item) → Contains items i ↔ IsClosed R ls i.rule i.dot)
    c.deref-2.ensures.value c.in_ok-closed.ensures in
    let same : R ≡ c.args.self.now.grammar = ap (λ (M : Lr0Automaton). M.grammar) c.self.view_is in
    subst (λ g. (i : Item) → Contains items i ↔ HasInCore c.args.self.now.grammar g i.rule i.dot)
    c.in_ok-prefix.ensures
    (subst (λ G. (i : Item) → Contains items i ↔ HasInCore G P i.rule i.dot) same
    (closed_in_core R c.self.invariant.automaton.augmented c.self.invariant.automaton.reduced P K items kernel closed))
