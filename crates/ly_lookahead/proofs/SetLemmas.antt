-- What one more number and one more lookback does to sets in rows.
use Rattle.std.proofs.Common.{◌≡◌, ◌≢◌, ◌∙◌, ◌⊎◌, inl, inr, ◌↔◌, ◌++◌, [], ◌∷◌, ℕ, suc, ◌+◌, ◌<◌, List, true, false}
use Rattle.std.proofs.Common.{Contains, Some, ap, arith, drop, length, refl, slice_get, slice_index_or, slice_set}
use Rattle.std.proofs.Common.{subst, sym, take}
use Rattle.std.proofs.Common.{map, replicate}
use Rattle.std.specs.Prelude.{option_map}
use Rattle.std.specs.FinSet as set
use Rattle.std.specs.FinSet.{contains-empty}
use Rattle.std.specs.Ordering.{nat_cmp}
use Rattle.std.proofs.lemmas.Bool.{cases_eq}
use Rattle.std.proofs.lemmas.List.{get_or-set_same, get_or-set_other}
use Rattle.std.proofs.lemmas.Option.{slice_get-get_or, slice_get-map}
use Rattle.std.proofs.lemmas.List.Elements.{Contains-append_cases, Contains-append_left}
use Rattle.std.proofs.lemmas.List.Elements.{Contains-append_right}
use Rattle.ly_base.proofs.MemberLemmas.{Contains-first, Contains-one}
use Rattle.ly_join.proofs.ListLemmas.{member_at}
use Rattle.ly_sets.specs.NumberSet.{NumberSet, Member}
use Rattle.ly_sets.specs.SetMatrix.{row}
use Rattle.ly_sets.proofs.NumberSetLemmas.{contains-insert_nat}
use Rattle.ly_sets.proofs.MatrixLemmas.{row-empty}
use Rattle.ly_digraph.proofs.UnionLemmas.{Member-union_cases, Member-union_left, Member-union_right}
use Rattle.ly_lr0.specs.Automaton.{Lr0Automaton, state_at}
use Rattle.ly_relate.specs.Related.{Lookback}
use Rattle.ly_relate.specs.Values.{lookback_from}
use Rattle.ly_relate.specs.declared.walks.Lookback as lookback
use Rattle.ly_relate.proofs.GotoLemmas.{split_at}
use Rattle.ly_lookahead.specs.Private.Sets.{AreLookedBack, ComesBack, IsRowOf}

-- ONE MORE MEMBER OF A LIST

-- what the first of a list and one more hold
take_more : {X : Type 0} (xs : List X) (i : ℕ) (x y : X) → slice_get xs i ≡ Some x
    → Contains (take (i + 1) xs) y ↔ (Contains (take i xs) y ⊎ (x ≡ y))
take_more xs i x y at = (to, back) where
  split : take (i + 1) xs ≡ take i xs ++ x ∷ []
  split = ap (λ n. take n xs) (let e : i + 1 ≡ suc i = omega arith in e) ∙ (split_at xs i x at).1

  to : Contains (take (i + 1) xs) y → Contains (take i xs) y ⊎ (x ≡ y)
  to has = elim (Contains-append_cases (take i xs) (x ∷ []) y (subst (λ w. Contains w y) split has)) [
    | inl before ↦ inl before
    | inr last ↦ inr (Contains-one x y last)
  ]

  back : Contains (take i xs) y ⊎ (x ≡ y) → Contains (take (i + 1) xs) y
  back (inl before) = subst (λ w. Contains w y) (sym split) (Contains-append_left (take i xs) (x ∷ []) y before)
  back (inr same) = subst (λ w. Contains w y) (sym split)
      (Contains-append_right (take i xs) (x ∷ []) y (subst (Contains (x ∷ [])) same (Contains-first x [])))

-- and are in it
take_within : {X : Type 0} (xs : List X) (i : ℕ) (x y : X) → slice_get xs i ≡ Some x → Contains (take i xs) y
    → Contains xs y
take_within xs i x y at has = subst (λ w. Contains w y) (sym (split_at xs i x at).0)
    (Contains-append_left (take i xs) (x ∷ drop (suc i) xs) y has)

-- what stands in a list that was gone over
pub shown_at : {X Y : Type 0} (f : X → Y) (d : X) (xs : List X) (i : ℕ) → i < length xs
    → slice_get (map f xs) i ≡ Some (f (slice_index_or xs i d))
shown_at f d xs i lt = slice_get-map f xs i ∙ ap (option_map f) (slice_get-get_or xs i d lt)

-- NUMBERS IN ROWS

insert_cases : (s : NumberSet) (n q : ℕ) → Member (set.insert s n) q → (q ≡ n) ⊎ Member s q
insert_cases s n q m = elim (cases_eq q n) [
  | inl e ↦ inl e
  | inr ne ↦ inr (let e = contains-insert_nat s n q in grind (arith, e, m))
]

insert_same : (s : NumberSet) (n : ℕ) → Member (set.insert s n) n
insert_same s n = let e = contains-insert_nat s n n in grind (arith, e)

insert_kept : (s : NumberSet) (n q : ℕ) → Member s q → Member (set.insert s n) q
insert_kept s n q m = elim (cases_eq q n) [
  | inl e ↦ subst (Member (set.insert s n)) (sym e) (insert_same s n)
  | inr ne ↦ let e = contains-insert_nat s n q in grind (arith, e, m)
]

-- the row that was written, and the others
row_same : (old new : List NumberSet) (i : ℕ) (s : NumberSet) → new ≡ slice_set old i s → i < length old → row new i ≡ s
row_same old new i s is lt = ap (λ w. row w i) is ∙ get_or-set_same old i s set.empty lt

row_other : (old new : List NumberSet) (i r : ℕ) (s : NumberSet) → new ≡ slice_set old i s → r ≢ i
    → row new r ≡ row old r
row_other old new i r s is ne = ap (λ w. row w r) is ∙ get_or-set_other old i r s set.empty ne

-- one more number in a row
pub inserted_one : (old new : List NumberSet) (n q : ℕ) → n < length old
    → new ≡ slice_set old n (set.insert (row old n) q) → (i t : ℕ)
    → Member (row new i) t ↔ (Member (row old i) t ⊎ ((i ≡ n) × (t ≡ q)))
inserted_one old new n q lt is i t = (to, back) where
  s : NumberSet
  s = set.insert (row old n) q

  to : Member (row new i) t → Member (row old i) t ⊎ ((i ≡ n) × (t ≡ q))
  to m = elim (cases_eq i n) [
    | inl e ↦
        let own : Member s t
        = subst (λ w. Member w t) (row_same old new n s is lt) (subst (λ k. Member (row new k) t) e m) in
        elim (insert_cases (row old n) q t own) [
          | inl same ↦ inr (e, same)
          | inr was ↦ inl (subst (λ k. Member (row old k) t) (sym e) was)
        ]
    | inr ne ↦ inl (subst (λ w. Member w t) (row_other old new n i s is ne) m)
  ]

  in_row : Member s t → i ≡ n → Member (row new i) t
  in_row m e = subst (λ k. Member (row new k) t) (sym e)
      (subst (λ w. Member w t) (sym (row_same old new n s is lt)) m)

  back : Member (row old i) t ⊎ ((i ≡ n) × (t ≡ q)) → Member (row new i) t
  back (inl was) = elim (cases_eq i n) [
    | inl e ↦ in_row (insert_kept (row old n) q t (subst (λ k. Member (row old k) t) e was)) e
    | inr ne ↦ subst (λ w. Member w t) (sym (row_other old new n i s is ne)) was
  ]
  back (inr (e, same)) = in_row (subst (Member s) (sym same) (insert_same (row old n) q)) e

-- nothing is in rows at first
pub rows_empty : (rows : ℕ) (sets : List NumberSet) → sets ≡ replicate rows set.empty → (i t : ℕ)
    → Member (row sets i) t → ⊥
rows_empty rows sets is i t m =
    let lacks : false ≡ true = sym (contains-empty nat_cmp t) ∙ subst (λ s. Member s t) (row-empty rows i)
    (subst (λ w. Member (row w i) t) is m) in
    cc

-- LOOKBACKS

-- a lookback as contracts see it

pub lookback_seen : (ls : List Lookback) (items : List lookback.Lookback) (i : ℕ) (x : lookback.Lookback)
    → map lookback_from items ≡ ls → slice_get items i ≡ Some x → slice_get ls i ≡ Some (lookback_from x)
lookback_seen ls items i x e at = ap (λ w. slice_get w i) (sym e) ∙ slice_get-map lookback_from items i
    ∙ ap (option_map lookback_from) at

module _ (M : Lr0Automaton) (first : List ℕ) (ls : List Lookback) (i : ℕ) (l : Lookback)
    (at : slice_get ls i ≡ Some l) where
  -- what comes along one more lookback
  come_more : (sets : List NumberSet) (r t : ℕ) → ComesBack M first (take (i + 1) ls) sets r t
      ↔ (ComesBack M first (take i ls) sets r t ⊎ (IsRowOf M first l r × Member (row sets l.node) t))
  come_more sets r t = (to, back) where
    to : ComesBack M first (take (i + 1) ls) sets r t
        → ComesBack M first (take i ls) sets r t ⊎ (IsRowOf M first l r × Member (row sets l.node) t)
    to (k, has, is, m) = elim ((take_more ls i l k at).0 has) [
      | inl was ↦ inl (k, was, is, m)
      | inr same ↦ inr (
        subst (λ y. IsRowOf M first y r) (sym same) is,
        subst (λ y. Member (row sets y.node) t) (sym same) m,
      )
    ]

    back : ComesBack M first (take i ls) sets r t ⊎ (IsRowOf M first l r × Member (row sets l.node) t)
        → ComesBack M first (take (i + 1) ls) sets r t
    back (inl (k, has, is, m)) = (k, (take_more ls i l k at).1 (inl has), is, m)
    back (inr (is, m)) = (l, (take_more ls i l l at).1 (inr refl), is, m)

  -- one more lookback, of a rule that isn't complete in its state
  pub looked_past : (old new : List NumberSet) → (Contains (state_at M l.state).complete l.rule → ⊥)
      → AreLookedBack M first (take i ls) old new → AreLookedBack M first (take (i + 1) ls) old new
  looked_past old new lacks before r t = (to, back) where
    to : Member (row new r) t → Member (row old r) t ⊎ ComesBack M first (take (i + 1) ls) old r t
    to m = elim ((before r t).0 m) [ inl was ↦ inl was | inr comes ↦ inr ((come_more old r t).1 (inl comes)) ]

    back : Member (row old r) t ⊎ ComesBack M first (take (i + 1) ls) old r t → Member (row new r) t
    back (inl was) = (before r t).1 (inl was)
    back (inr comes) = elim ((come_more old r t).0 comes) [
      | inl earlier ↦ (before r t).1 (inr earlier)
      | inr last ↦ let is = last.0 in absurd (lacks (member_at (state_at M l.state).complete is.0 l.rule is.1))
    ]

  -- the row of a node stays
  pub stays : (old new : List NumberSet)
      → ((m : Lookback) (k : ℕ) → Contains ls m → l.node ≡ slice_index_or first m.state 0 + k → ⊥)
      → AreLookedBack M first (take i ls) old new → (t : ℕ) → Member (row new l.node) t ↔ Member (row old l.node) t
  stays old new apart before t = (to, λ m. (before l.node t).1 (inl m)) where
    to : Member (row new l.node) t → Member (row old l.node) t
    to m = elim ((before l.node t).0 m) [
      | inl was ↦ was
      | inr (k, has, is, n) ↦ absurd (apart k is.0 (take_within ls i l k at has) is.2)
    ]

  module _ (k : ℕ) (there : slice_get (state_at M l.state).complete k ≡ Some l.rule)
      (one : (j : ℕ) → slice_get (state_at M l.state).complete j ≡ Some l.rule → j ≡ k) where
    abbrev to_row : ℕ
    to_row = slice_index_or first l.state 0 + k

    -- one more lookback, of the rule at a place
    pub looked_more : (old now new : List NumberSet) → to_row < length now
        → new ≡ slice_set now to_row (set.union (row now to_row) (row now l.node))
        → ((t : ℕ) → Member (row now l.node) t ↔ Member (row old l.node) t)
        → AreLookedBack M first (take i ls) old now → AreLookedBack M first (take (i + 1) ls) old new
    looked_more old now new lt is same before r t = (to, back) where
      s : NumberSet
      s = set.union (row now to_row) (row now l.node)

      earlier : Member (row now r) t → Member (row old r) t ⊎ ComesBack M first (take (i + 1) ls) old r t
      earlier m = elim ((before r t).0 m) [ inl was ↦ inl was | inr comes ↦ inr ((come_more old r t).1 (inl comes)) ]

      to : Member (row new r) t → Member (row old r) t ⊎ ComesBack M first (take (i + 1) ls) old r t
      to m = elim (cases_eq r to_row) [
        | inl e ↦
            let own : Member s t
            = subst (λ w. Member w t) (row_same now new to_row s is lt) (subst (λ q. Member (row new q) t) e m) in
            elim (Member-union_cases (row now to_row) (row now l.node) t own) [
              | inl was ↦ earlier (subst (λ q. Member (row now q) t) (sym e) was)
              | inr came ↦ inr ((come_more old r t).1 (inr ((k, there, e), (same t).0 came)))
            ]
        | inr ne ↦ earlier (subst (λ w. Member w t) (row_other now new to_row r s is ne) m)
      ]

      kept : Member (row now r) t → Member (row new r) t
      kept m = elim (cases_eq r to_row) [
        | inl e ↦
            let was = subst (λ q. Member (row now q) t) e m in
            subst (λ q. Member (row new q) t) (sym e) (subst (λ w. Member w t) (sym (row_same now new to_row s is lt))
            (Member-union_left (row now to_row) (row now l.node) t was))
        | inr ne ↦ subst (λ w. Member w t) (sym (row_other now new to_row r s is ne)) m
      ]

      back : Member (row old r) t ⊎ ComesBack M first (take (i + 1) ls) old r t → Member (row new r) t
      back (inl was) = kept ((before r t).1 (inl was))
      back (inr comes) = elim ((come_more old r t).0 comes) [
        | inl earlier ↦ kept ((before r t).1 (inr earlier))
        | inr last ↦
            let place = last.0 in
            let e : r ≡ to_row = place.2 ∙ ap (λ j. slice_index_or first l.state 0 + j) (one place.0 place.1) in
            subst (λ q. Member (row new q) t) (sym e) (subst (λ w. Member w t) (sym (row_same now new to_row s is lt))
            (Member-union_right (row now to_row) (row now l.node) t ((same t).1 last.1)))
      ]
