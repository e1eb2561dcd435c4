-- The items of a state, by the kernels of the beginnings of its prefix.
use Rattle.std.proofs.Common.{◌≡◌, ◌⊎◌, inl, inr, ℕ, suc, List, [], ◌∷◌, ◌++◌, refl, sym, ◌∙◌, ap, subst}
use Rattle.std.specs.Prelude.{◌↔◌, Contains}
use Rattle.std.proofs.lemmas.List.Elements.{Contains-append_left, Contains-push, Contains-push_cases}
use Rattle.ly_base.proofs.MemberLemmas.{Contains-first, Contains-one}
use Rattle.ly_join.specs.Grammar.{Grammar, IsAugmented, IsRule, GrammarRule, Symbol, symbol_of}
use Rattle.ly_grammar.specs.Derivations.{IsReduced}
use Rattle.ly_lr0.specs.Automaton.{HasInCore}
use Rattle.ly_lr0.specs.Private.Closing.{AreKept, IsMove}
use Rattle.ly_lr0.specs.Private.Items.{HasItem, IsBehind, IsClosed, IsKernel, IsMovedOver}
use Rattle.ly_lr0.specs.declared.item.Item.{Item}
use Rattle.ly_lr0.specs.declared.item.Move.{Move}
use Rattle.ly_lr0.proofs.CoreLemmas.{item_of_valid, valid_of_item}
use Rattle.ly_lr0.proofs.KernelLemmas.{closed_of_item, item_of_closed}

-- items that have the same rule and the same dot
item_by_parts : (i : Item) (p d : ℕ) → p ≡ i.rule → d ≡ i.dot → record { rule = p; dot = d } ≡ i
item_by_parts i p d e f = ap (λ n. record { rule = n; dot = d }) e ∙ ap (λ n. record { rule = i.rule; dot = n }) f

-- what a list of items moves to, with one item more
module _ (G : Grammar) (X : Symbol) (is is' : List Item) (i : Item) (ks ks' : List Item)
    (are : (j : Item) → Contains ks j ↔ IsMovedOver G is X j) (more : is' ≡ is ++ i ∷ []) where
  older : (j : Item) → IsMovedOver G is X j → IsMovedOver G is' X j
  older j h = (
    h.0,
    h.1,
    subst (λ xs. Contains xs (record { rule = j.rule; dot = h.0 })) (sym more)
        (Contains-append_left is (i ∷ []) (record { rule = j.rule; dot = h.0 }) h.2),
    h.3,
  )

  split : (j : Item) (h : IsMovedOver G is' X j)
      → IsMovedOver G is X j ⊎ (i ≡ record { rule = j.rule; dot = h.0 })
  split j h = elim (Contains-push_cases is i (record { rule = j.rule; dot = h.0 })
      (subst (λ xs. Contains xs (record { rule = j.rule; dot = h.0 })) more h.2)) [
        | inl old ↦ inl (h.0, h.1, old, h.3)
        | inr same ↦ inr same
      ]

  pub moved_more : (m : Move) → IsMove G i m → symbol_of m.symbol ≡ X → ks' ≡ ks ++ m.item ∷ []
      → (j : Item) → Contains ks' j ↔ IsMovedOver G is' X j
  moved_more m is_move over grown j = (
    λ c. elim (Contains-push_cases ks m.item j (subst (λ xs. Contains xs j) grown c)) [
      | inl old ↦ older j ((are j).0 old)
      | inr same ↦
          let rule : i.rule ≡ j.rule = sym is_move.rule ∙ ap (λ x. x.rule) same in (
            i.dot,
            sym (ap (λ x. x.dot) same) ∙ is_move.dot,
            subst (λ xs. Contains xs (record { rule = j.rule; dot = i.dot })) (sym more)
                (subst (Contains (is ++ i ∷ [])) (sym (item_by_parts i j.rule i.dot (sym rule) refl))
                (Contains-push is i)),
            subst (λ p. IsBehind G p i.dot X) rule (subst (IsBehind G i.rule i.dot) over is_move.behind),
          )
    ],
    λ h. subst (λ xs. Contains xs j) (sym grown) (elim (split j h) [
      | inl old ↦ Contains-append_left ks (m.item ∷ []) j ((are j).1 old)
      | inr same ↦ subst (Contains (ks ++ m.item ∷ []))
          (item_by_parts j m.item.rule m.item.dot (is_move.rule ∙ ap (λ x. x.rule) same)
          (is_move.dot ∙ ap (λ x. suc x.dot) same ∙ sym h.1)) (Contains-push ks m.item)
    ]),
  )

  pub moved_same : (IsBehind G i.rule i.dot X → ⊥) → ks' ≡ ks → (j : Item) → Contains ks' j ↔ IsMovedOver G is' X j
  moved_same off same j = (
    λ c. older j ((are j).0 (subst (λ xs. Contains xs j) same c)),
    λ h. subst (λ xs. Contains xs j) (sym same) (elim (split j h) [
      | inl old ↦ (are j).1 old
      | inr last ↦ absurd (off (subst (λ (x : Item). IsBehind G x.rule x.dot X) (sym last) h.3))
    ]),
  )

module _ (G : Grammar) (augmented : IsAugmented G) where
  -- the kernel of the start
  pub start_kernel : (ks : List Item) → ks ≡ record { rule = 0; dot = 0 } ∷ [] → IsKernel G [] ks
  start_kernel ks same i = (
    λ c. let one = Contains-one _ i (subst (λ xs. Contains xs i) same c) in
        (sym (ap (λ x. x.rule) one), sym (ap (λ x. x.dot) one)),
    λ h. subst (λ xs. Contains xs i) (sym same)
        (subst (Contains (record { rule = 0; dot = 0 } ∷ [])) (item_by_parts i 0 0 (sym h.0) (sym h.1))
        (Contains-first _ [])),
  )

  -- the rules of a kernel's items are the grammar's
  pub kernel_kept : (g : List Symbol) (ks : List Item) → IsKernel G g ks → AreKept G ks
  kernel_kept [] ks k i c = let h = (k i).0 c in
      subst (λ p. (r : GrammarRule) × IsRule G p r) (sym h.0) (_, augmented.rule_0)
  kernel_kept (X ∷ g) ks k i c = let h = (k i).0 c in (h.3.0, h.3.1)

  -- what the items of a string move to is the kernel of a longer one
  pub longer_kernel : (g : List Symbol) (X : Symbol) (ks is ls : List Item) → IsKernel G g ks
      → ((i : Item) → Contains is i ↔ IsClosed G ks i.rule i.dot)
      → ((i : Item) → Contains ls i ↔ IsMovedOver G is X i) → IsKernel G (X ∷ g) ls
  longer_kernel g X ks is ls k closed moved i = (
    λ c. let h = (moved i).0 c in
        (h.0, h.1, item_of_closed G g ks k ((closed (record { rule = i.rule; dot = h.0 })).0 h.2), h.3),
    λ h. (moved i).1
        (h.0, h.1, (closed (record { rule = i.rule; dot = h.0 })).1 (closed_of_item G g ks k h.2), h.3),
  )

  -- and what a kernel closes to are the items of the string's core
  pub closed_in_core : IsReduced G → (g : List Symbol) (ks is : List Item) → IsKernel G g ks
      → ((i : Item) → Contains is i ↔ IsClosed G ks i.rule i.dot)
      → (i : Item) → Contains is i ↔ HasInCore G g i.rule i.dot
  closed_in_core reduced g ks is k closed i = (
    λ c. let s = valid_of_item G augmented reduced (item_of_closed G g ks k ((closed i).0 c)) in
        (s.before, s.after, (s.lookahead, s.valid), s.dot),
    λ h. (closed i).1 (closed_of_item G g ks k (subst (λ n. HasItem G g i.rule n) h.3 (item_of_valid h.2.1))),
  )
