-- Kernels: each string's items are those that its kernel closes to.
use Rattle.std.proofs.Common.{◌≡◌, ℕ, zero, suc, List, [], ◌∷◌, Some, refl, sym, ◌∙◌, ap, subst, arith}
use Rattle.std.specs.Prelude.{slice_get, Contains}
use Rattle.std.proofs.lemmas.Option.{get_or_from_slice_get, slice_get_within}
use Rattle.ly_join.specs.Grammar.{Grammar, IsAugmented, IsRule, Symbol, SymbolWithin, accept_rule, nonterminal}
use Rattle.ly_grammar.proofs.SearchLemmas.{rule_is_one}
use Rattle.ly_lr0.specs.declared.item.Item.{Item}
use Rattle.ly_lr0.specs.Private.Items.{HasItem, IsBehind, IsClosed, IsKernel, SameItems, added, at_start, closed}
use Rattle.ly_lr0.specs.Private.Items.{given, moved}
use Rattle.ly_lr0.proofs.ClosingLemmas.{behind_one}

module _ (G : Grammar) where
  -- what is closed to from a kernel is closed to from another with the same items
  pub closed_same : (ks ls : List Item) → ((i : Item) → Contains ks i → Contains ls i) → {p d : ℕ} → IsClosed G ks p d
      → IsClosed G ls p d
  closed_same ks ls same (given {p = p} {d = d} c) = given (same (record { rule = p; dot = d }) c)
  closed_same ks ls same (added c b is left) = added (closed_same ks ls same c) b is left

  pub item_of_closed : (g : List Symbol) (ks : List Item) → IsKernel G g ks → {p d : ℕ} → IsClosed G ks p d
      → HasItem G g p d
  item_of_closed [] ks k (given {p = p} {d = d} c) =
      let e = (k (record { rule = p; dot = d })).0 c in
      subst (λ n. HasItem G [] n d) (sym e.0) (subst (λ n. HasItem G [] 0 n) (sym e.1) at_start)
  item_of_closed (X ∷ g) ks k (given {p = p} {d = d} c) =
      let e = (k (record { rule = p; dot = d })).0 c in
      subst (λ n. HasItem G (X ∷ g) p n) (sym e.1) (moved e.2 e.3)
  item_of_closed g ks k (added c b is left) = closed (item_of_closed g ks k c) b is left

  pub closed_of_item : (g : List Symbol) (ks : List Item) → IsKernel G g ks → {p d : ℕ} → HasItem G g p d
      → IsClosed G ks p d
  closed_of_item g ks k (at_start) = given ((k (record { rule = 0; dot = 0 })).1 (refl, refl))
  closed_of_item g ks k (closed i b is left) = added (closed_of_item g ks k i) b is left
  closed_of_item g ks k (moved {p = p} {d = d} i b) = given ((k (record { rule = p; dot = suc d })).1 (d, refl, i, b))

  -- strings of one kernel have the same items
  pub kernel_same : (g h : List Symbol) (ks : List Item) → IsKernel G g ks → IsKernel G h ks → SameItems G g h
  kernel_same g h ks k l p d = (
    λ i. item_of_closed h ks l (closed_of_item g ks k i),
    λ i. item_of_closed g ks k (closed_of_item h ks l i),
  )

  -- an item behind a symbol comes from one before it
  pub item_before : {g : List Symbol} {X : Symbol} {p d : ℕ} → HasItem G (X ∷ g) p d
      → (q : ℕ) × (e : ℕ) × HasItem G g q e × IsBehind G q e X
  item_before (closed i b is left) = item_before i
  item_before (moved {p = p} {d = d} i b) = (p, d, i, b)

  -- and is one only of strings that end with the symbol
  pub ends_with : {g : List Symbol} {X : Symbol} {p d e : ℕ} → HasItem G g p e → e ≡ suc d → IsBehind G p d X
      → slice_get g 0 ≡ Some X
  ends_with at_start same b = absurd (omega (arith, same))
  ends_with (closed i c is left) same b = absurd (omega (arith, same))
  ends_with {X = X} {d = d} (moved {p = p} {d = e} {X = Y} i c) same b =
      let at : e ≡ d = omega (arith, same) in
      ap (λ Z. Some Z) (behind_one G p d Y X (subst (λ n. IsBehind G p n Y) at c) b)

  -- so strings of the same items end with the same symbol
  pub end_alike : (g h : List Symbol) (X : Symbol) (p d : ℕ) → SameItems G (X ∷ g) h → HasItem G (X ∷ g) p d
      → slice_get h 0 ≡ Some X
  end_alike g h X p d same i =
      let before = item_before i in
      ends_with ((same before.0 (suc before.1)).0 (moved before.2 before.3)) refl before.3

  module _ (augmented : IsAugmented G) where
    -- rule 0 is no rule that closing adds
    no_accept : (p d : ℕ) → IsBehind G p d (nonterminal G.accept) → ⊥
    no_accept zero d b =
        let same : b.0 ≡ accept_rule G.accept G.start = rule_is_one G 0 b.0 _ b.1 augmented.rule_0 in
        at_zero d (ap (λ r. slice_get r.body d) (sym same) ∙ b.2)
      where
        at_zero : (d : ℕ) → slice_get (accept_rule G.accept G.start).body d ≡ Some (nonterminal G.accept) → ⊥
        at_zero zero e =
            let same : G.start ≡ G.accept = cc in
            let less = augmented.start_within in omega arith
        at_zero (suc zero) e = cc
        at_zero (suc (suc d)) e = cc
    no_accept (suc p) d b =
        let within = augmented.within (suc p) b.0 b.1 (omega arith) in
        let here = within.body d (nonterminal G.accept) (slice_get_within b.0.body d (nonterminal G.accept) b.2) in
        let at = subst (SymbolWithin G.terminals G.accept) (get_or_from_slice_get b.0.body d
        (nonterminal G.accept) (nonterminal G.accept) b.2) here in
        omega (arith, at)

    item_at_0 : {h : List Symbol} {p d : ℕ} → HasItem G h p d → p ≡ 0 → d ≡ 0 → h ≡ []
    item_at_0 at_start e f = refl
    item_at_0 (closed {p = q} {d = c} {r = r} i b is left) e f =
        let same : r ≡ accept_rule G.accept G.start =
        rule_is_one G 0 r _ (subst (λ n. IsRule G n r) e is) augmented.rule_0 in
        absurd (no_accept q c (subst (λ A. IsBehind G q c (nonterminal A)) (sym left ∙ ap (λ x. x.left) same) b))
    item_at_0 (moved i b) e f = absurd (omega (arith, f))

    item_behind : {h : List Symbol} {p d e : ℕ} (ks : List Item) → IsKernel G h ks → HasItem G h p d → d ≡ suc e
        → Contains ks (record { rule = p; dot = d })
    item_behind ks k at_start f = absurd (omega (arith, f))
    item_behind ks k (closed i b is left) f = absurd (omega (arith, f))
    item_behind ks k (moved {p = p} {d = d} i b) f = (k (record { rule = p; dot = suc d })).1 (d, refl, i, b)

    -- strings of the same items have one kernel
    pub kernel_one : (g h : List Symbol) (ks ls : List Item) → IsKernel G g ks → IsKernel G h ls → SameItems G g h
        → (i : Item) → Contains ks i → Contains ls i
    kernel_one [] h ks ls k l same i c =
        let e = (k i).0 c in
        let there = (same 0 0).0 at_start in
        let start : h ≡ [] = item_at_0 there refl refl in
        (subst (λ w. IsKernel G w ls) start l i).1 e
    kernel_one (X ∷ g) h ks ls k l same i c =
        let e = (k i).0 c in
        item_behind ls l ((same i.rule i.dot).0 (subst (λ n. HasItem G (X ∷ g) i.rule n) (sym e.1) (moved e.2 e.3))) e.1
