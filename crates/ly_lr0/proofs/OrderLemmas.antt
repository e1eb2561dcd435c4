-- Orders: of symbols, of strings, and of items in lists.
use Rattle.std.proofs.Common.{◌≡◌, inl, inr, List, [], ◌∷◌, sym, ◌∙◌, subst, arith}
use Rattle.std.specs.Prelude.{Contains}
use Rattle.std.specs.declared.cmp.Ordering.TheVariants.{Less}
use Rattle.std.specs.Cmp.{IsTotalOrder}
use Rattle.std.proofs.lemmas.Cmp.{nat_cmp_total, on_total, then_total}
use Rattle.ly_base.proofs.ListLemmas.{rising_one}
use Rattle.ly_join.specs.Grammar.{Symbol, nonterminal, terminal}
use Rattle.ly_lr0.specs.declared.item.Item.{Item}
use Rattle.ly_lr0.specs.Automaton.{ComesBefore, IsLess}
use Rattle.ly_lr0.specs.Private.Items.{AreRising, item_cmp}

pub less_trans : (X Y Z : Symbol) → IsLess X Y → IsLess Y Z → IsLess X Z
less_trans (terminal t) (terminal u) (terminal v) a b = omega arith
less_trans (terminal t) (terminal u) (nonterminal C) a b = tt
less_trans (terminal t) (nonterminal B) (terminal v) a b = absurd b
less_trans (terminal t) (nonterminal B) (nonterminal C) a b = tt
less_trans (nonterminal A) (terminal u) Z a b = absurd a
less_trans (nonterminal A) (nonterminal B) (terminal v) a b = absurd b
less_trans (nonterminal A) (nonterminal B) (nonterminal C) a b = omega arith

pub less_off : (X : Symbol) → IsLess X X → ⊥
less_off (terminal t) a = omega arith
less_off (nonterminal A) a = omega arith

pub before_trans : (f g h : List Symbol) → ComesBefore f g → ComesBefore g h → ComesBefore f h
before_trans f g [] a b = absurd (none g b)
  where
    none : (g : List Symbol) → ComesBefore g [] → ⊥
    none [] b = b
    none (X ∷ g) b = b
before_trans [] g (Z ∷ h) a b = tt
before_trans (X ∷ f) [] (Z ∷ h) a b = absurd a
before_trans (X ∷ f) (Y ∷ g) (Z ∷ h) (inl a) (inl b) = inl (before_trans f g h a b)
before_trans (X ∷ f) (Y ∷ g) (Z ∷ h) (inl a) (inr b) = inl (subst (ComesBefore f) b.0 a)
before_trans (X ∷ f) (Y ∷ g) (Z ∷ h) (inr a) (inl b) = inl (subst (λ w. ComesBefore w h) (sym a.0) b)
before_trans (X ∷ f) (Y ∷ g) (Z ∷ h) (inr a) (inr b) = inr (a.0 ∙ b.0, less_trans X Y Z a.1 b.1)

-- no string comes before itself
pub not_before_itself : (g : List Symbol) → ComesBefore g g → ⊥
not_before_itself [] a = a
not_before_itself (X ∷ g) (inl a) = not_before_itself g a
not_before_itself (X ∷ g) (inr a) = less_off X a.1

-- or before another that comes before it
pub before_off : (g h : List Symbol) → ComesBefore g h → ComesBefore h g → ⊥
before_off g h a b = not_before_itself g (before_trans g h g a b)

pub item_total : IsTotalOrder item_cmp
item_total = then_total (on_total (λ i. i.rule) nat_cmp_total) (on_total (λ i. i.dot) nat_cmp_total)

item_off : (i j : Item) → item_cmp i j ≡ Less → item_cmp j i ≡ Less → ⊥
item_off i j a b = let turned = item_total.antisymm i j in cc

-- kernels with the same items are one
pub kernels_one : (ks ls : List Item) → AreRising ks → AreRising ls → ((i : Item) → Contains ks i → Contains ls i)
    → ((i : Item) → Contains ls i → Contains ks i) → ks ≡ ls
kernels_one = rising_one (λ i j. item_cmp i j ≡ Less) item_off
