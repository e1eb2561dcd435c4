-- What begins the symbols that stand behind a dot, and where they are nullable.
use Rattle.std.proofs.Common.{◌≡◌, ◌∙◌, ◌⊎◌, ◌↔◌, inl, inr, ℕ, zero, suc, ◌+◌, ◌<◌, List, [], ◌∷◌, ◌++◌, refl}
use Rattle.std.proofs.Common.{sym, ap, subst, arith, length, drop, map, All, append-nil, ◌≤◌}
use Rattle.std.specs.Prelude.{slice_index_or}
use Rattle.std.proofs.Math.ListN.{get_or-map}
use Rattle.std.proofs.lemmas.List.{drop_all, length-map}
use Rattle.ly_base.specs.Lexed.{Token}
use Rattle.ly_base.specs.Trees.{Trees, leaf, node, none, more, yield_of, yields_of}
use Rattle.ly_join.specs.Grammar.{Grammar, Symbol, symbol_of, terminal}
use Rattle.ly_join.specs.declared.symbol.Symbol as code
use Rattle.ly_grammar.specs.Derivations.{AreTrees, BeginsYield, IsNullable}
use Rattle.ly_relate.proofs.ReachLemmas.{left_empty, nullable_tree, right_empty}
use Rattle.ly_relate.proofs.WalkLemmas.{drop_at, nullable_cons, shown_symbol, no_symbol}

-- a terminal begins itself alone
pub begins_terminal : (G : Grammar) (k t : ℕ) → (k ≡ t) ↔ BeginsYield G (terminal k ∷ []) t
begins_terminal G k t = (
  λ e. let x : Token ℕ = record { terminal = k; at = 0; bytes = [] } in
      (more (leaf x) none, (refl, tt), x, [], refl, e),
  λ (ts, are, x, rest, yields, kind). one ts are x rest yields kind,
)
  where
    one : (ts : Trees) → AreTrees G (terminal k ∷ []) ts → (x : Token ℕ) (rest : List (Token ℕ))
        → yields_of ts ≡ x ∷ rest → x.terminal ≡ t → k ≡ t
    one none lacks x rest yields kind = absurd lacks
    one (more (node q us) ts) are x rest yields kind = absurd are.0
    one (more (leaf y) ts) are x rest yields kind =
        let same : y ≡ x = cc in
        sym are.0 ∙ ap (λ z. z.terminal) same ∙ kind

-- what begins the first of some symbols begins them
pub begins_first : (G : Grammar) (X : Symbol) (w : List Symbol) (t : ℕ) → BeginsYield G (X ∷ []) t
    → (ts : Trees) × AreTrees G w ts → BeginsYield G (X ∷ w) t
begins_first G X w t (none, lacks, x, rest, yields, kind) us = absurd lacks
begins_first G X w t (more d ts, are, x, rest, yields, kind) us =
    let alone : yield_of d ≡ x ∷ rest = from ts are.1 yields in (
      more d us.0,
      (are.0, us.1),
      x,
      rest ++ yields_of us.0,
      ap (λ ys. ys ++ yields_of us.0) alone,
      kind,
    )
  where
    from : (ts : Trees) → AreTrees G [] ts → yield_of d ++ yields_of ts ≡ x ∷ rest → yield_of d ≡ x ∷ rest
    from none are e = sym (append-nil (yield_of d)) ∙ e
    from (more e ts) are y = absurd are

-- so does what begins the others, where the first is nullable
pub begins_behind : (G : Grammar) (X : Symbol) (w : List Symbol) (t : ℕ) → IsNullable G (X ∷ []) → BeginsYield G w t
    → BeginsYield G (X ∷ w) t
begins_behind G X w t null (ts, are, x, rest, yields, kind) =
    let d = nullable_tree G X null in
    (more d.0 ts, (d.1, are), x, rest, ap (λ ys. ys ++ yields_of ts) d.2 ∙ yields, kind)

-- and nothing else does
pub begins_cases : (G : Grammar) (X : Symbol) (w : List Symbol) (t : ℕ) → BeginsYield G (X ∷ w) t
    → BeginsYield G (X ∷ []) t ⊎ (IsNullable G (X ∷ []) × BeginsYield G w t)
begins_cases G X w t (none, lacks, x, rest, yields, kind) = absurd lacks
begins_cases G X w t (more d ts, are, x, rest, yields, kind) = by (yield_of d) refl yields where
  by : (ys : List (Token ℕ)) → yield_of d ≡ ys → ys ++ yields_of ts ≡ x ∷ rest
      → BeginsYield G (X ∷ []) t ⊎ (IsNullable G (X ∷ []) × BeginsYield G w t)
  by [] empty e = inr (
    (more d none, (are.0, tt), append-nil (yield_of d) ∙ empty),
    (ts, are.1, x, rest, e, kind),
  )
  by (y ∷ ys) some e =
      let same : y ≡ x = cc in
      inl (more d none, (are.0, tt), y, ys, append-nil (yield_of d) ∙ some, ap (λ z. z.terminal) same ∙ kind)

-- no symbols begin with nothing
pub begins_none : (G : Grammar) (t : ℕ) → BeginsYield G [] t → ⊥
begins_none G t (none, are, x, rest, yields, kind) = cc
begins_none G t (more d ts, lacks, x, rest, yields, kind) = absurd lacks

-- of nullable symbols the first is so, and the others are
pub nullable_first : (G : Grammar) (X : Symbol) (w : List Symbol) → IsNullable G (X ∷ w)
    → IsNullable G (X ∷ []) × IsNullable G w
nullable_first G X w (none, lacks, empty) = absurd lacks
nullable_first G X w (more d ts, are, empty) = (
  (more d none, (are.0, tt), append-nil (yield_of d) ∙ left_empty (yield_of d) (yields_of ts) empty),
  (ts, are.1, right_empty (yield_of d) (yields_of ts) empty),
)

-- the symbols from a place on
pub from_place : (xs : List code.Symbol) (k : ℕ) → k < length xs
    → drop k (map symbol_of xs) ≡ symbol_of (slice_index_or xs k no_symbol) ∷ drop (k + 1) (map symbol_of xs)
from_place xs k lt = drop_at (map symbol_of xs) k (symbol_of (slice_index_or xs k no_symbol)) (shown_symbol xs k lt)

-- the trees of symbols from a place on
pub trees_from : (G : Grammar) (w : List Symbol) (k : ℕ) → (ts : Trees) × AreTrees G w ts
    → (ts : Trees) × AreTrees G (drop k w) ts
trees_from G w zero have = have
trees_from G [] (suc k) have = have
trees_from G (X ∷ w) (suc k) (none, lacks) = absurd lacks
trees_from G (X ∷ w) (suc k) (more d ts, are) = trees_from G w k (ts, are.1)

-- what all symbols meet, the one at a place does
pub symbol_within : (P : Symbol → Type 0) (xs : List code.Symbol) (k : ℕ) → All P (map symbol_of xs) → k < length xs
    → P (symbol_of (slice_index_or xs k no_symbol))
symbol_within P xs k all lt = subst P (get_or-map symbol_of xs k no_symbol)
    (all k (symbol_of no_symbol) (subst (λ n. k < n) (sym (length-map xs symbol_of)) lt))

-- One more symbol of those that are gone through.
module _ (G : Grammar) (xs : List code.Symbol) (k : ℕ) (lt : k < length xs) where
  abbrev pub here : Symbol
  here = symbol_of (slice_index_or xs k no_symbol)

  abbrev pub rest : ℕ → List Symbol
  rest n = drop n (map symbol_of xs)

  module _ (t : ℕ) (same : BeginsYield G (map symbol_of xs) t ↔ BeginsYield G (rest k) t) where
    pub begins_here : (ts : Trees) × AreTrees G (map symbol_of xs) ts → BeginsYield G (here ∷ []) t
        → BeginsYield G (map symbol_of xs) t
    begins_here trees begins = same.1 (subst (λ w. BeginsYield G w t) (sym (from_place xs k lt))
        (begins_first G here (rest (k + 1)) t begins (trees_from G (map symbol_of xs) (k + 1) trees)))

    begins_on : BeginsYield G (map symbol_of xs) t
        → BeginsYield G (here ∷ []) t ⊎ (IsNullable G (here ∷ []) × BeginsYield G (rest (k + 1)) t)
    begins_on begins = begins_cases G here (rest (k + 1)) t
        (subst (λ w. BeginsYield G w t) (from_place xs k lt) (same.0 begins))

    pub begins_no_more : (BeginsYield G (here ∷ []) t → ⊥) → (IsNullable G (here ∷ []) → ⊥)
        → BeginsYield G (map symbol_of xs) t → ⊥
    begins_no_more not_first not_nullable begins = elim (begins_on begins) [
      | inl first ↦ not_first first
      | inr behind ↦ not_nullable behind.0
    ]

    pub begins_more : (BeginsYield G (here ∷ []) t → ⊥) → IsNullable G (here ∷ [])
        → BeginsYield G (map symbol_of xs) t ↔ BeginsYield G (rest (k + 1)) t
    begins_more not_first null = (
      λ begins. elim (begins_on begins) [ inl first ↦ absurd (not_first first) | inr behind ↦ behind.1 ],
      λ begins. same.1 (subst (λ w. BeginsYield G w t) (sym (from_place xs k lt))
          (begins_behind G here (rest (k + 1)) t null begins)),
    )

  module _ (same : IsNullable G (map symbol_of xs) ↔ IsNullable G (rest k)) where
    pub nullable_no_more : (IsNullable G (here ∷ []) → ⊥) → IsNullable G (map symbol_of xs) → ⊥
    nullable_no_more never null = never (nullable_first G here (rest (k + 1))
        (subst (IsNullable G) (from_place xs k lt) (same.0 null))).0

    pub nullable_more : IsNullable G (here ∷ []) → IsNullable G (map symbol_of xs) ↔ IsNullable G (rest (k + 1))
    nullable_more one = (
      λ null. (nullable_first G here (rest (k + 1)) (subst (IsNullable G) (from_place xs k lt) (same.0 null))).1,
      λ null. same.1 (subst (IsNullable G) (sym (from_place xs k lt)) (nullable_cons G here (rest (k + 1)) one null)),
    )

-- behind all symbols nothing is left
pub rest_none : (xs : List code.Symbol) (k : ℕ) → length xs ≤ k → drop k (map symbol_of xs) ≡ []
rest_none xs k past = drop_all k (map symbol_of xs) (omega (arith, past, length-map xs symbol_of))
