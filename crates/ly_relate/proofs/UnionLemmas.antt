-- Pairs that are found one rule and one transition after another.
use Rattle.std.proofs.Common.{◌≡◌, ◌⊎◌, ◌↔◌, inl, inr, ℕ, ◌+◌, ◌<◌, List, [], ◌∷◌, ◌++◌}
use Rattle.std.proofs.Common.{refl, sym, subst, length, take, slice_index_or, Contains}
use Rattle.std.proofs.lemmas.List.{take_more}
use Rattle.std.proofs.lemmas.List.Elements.{Contains-append_left, Contains-push, Contains-push_cases}
use Rattle.ly_digraph.specs.Digraph.{Digraph, IsEdge}
use Rattle.ly_relate.specs.Private.Gotos.{Numbering}
use Rattle.ly_relate.specs.Private.Walks.{AreBack, AreEdgesTo, IncludesByOne, IsIncludingBy, IsLookingBack}
use Rattle.ly_relate.specs.Private.Walks.{LooksBackByOne}
use Rattle.ly_relate.specs.Related.{Lookback}

-- edges that were added twice
pub edges_union : (old g new : Digraph) (n : ℕ) (P R Q : ℕ → Type 0) → ((i : ℕ) → Q i ↔ (P i ⊎ R i))
    → AreEdgesTo old g n P → AreEdgesTo g new n R → AreEdgesTo old new n Q
edges_union old g new n P R Q both before after i j = (to, back) where
  to : IsEdge new i j → IsEdge old i j ⊎ ((j ≡ n) × Q i)
  to has = elim ((after i j).0 has) [
    | inl was ↦ elim ((before i j).0 was) [
      | inl old ↦ inl old
      | inr (e, is) ↦ inr (e, (both i).1 (inl is))
    ]
    | inr (e, is) ↦ inr (e, (both i).1 (inr is))
  ]

  back : IsEdge old i j ⊎ ((j ≡ n) × Q i) → IsEdge new i j
  back (inl was) = (after i j).1 (inl ((before i j).1 (inl was)))
  back (inr (e, is)) = elim ((both i).0 is) [
    | inl p ↦ (after i j).1 (inl ((before i j).1 (inr (e, p))))
    | inr r ↦ (after i j).1 (inr (e, r))
  ]

-- lookbacks that were added twice
pub back_union : (old mid new : List Lookback) (n : ℕ) (P R Q : ℕ → ℕ → Type 0) → ((s p : ℕ) → Q s p ↔ (P s p ⊎ R s p))
    → AreBack old mid n P → AreBack mid new n R → AreBack old new n Q
back_union old mid new n P R Q both before after s p m = (to, back) where
  to : Contains new (record { state = s; rule = p; node = m })
      → Contains old (record { state = s; rule = p; node = m }) ⊎ ((m ≡ n) × Q s p)
  to has = elim ((after s p m).0 has) [
    | inl was ↦ elim ((before s p m).0 was) [
      | inl old ↦ inl old
      | inr (e, is) ↦ inr (e, (both s p).1 (inl is))
    ]
    | inr (e, is) ↦ inr (e, (both s p).1 (inr is))
  ]

  back : Contains old (record { state = s; rule = p; node = m }) ⊎ ((m ≡ n) × Q s p)
      → Contains new (record { state = s; rule = p; node = m })
  back (inl was) = (after s p m).1 (inl ((before s p m).1 (inl was)))
  back (inr (e, is)) = elim ((both s p).0 is) [
    | inl q ↦ (after s p m).1 (inl ((before s p m).1 (inr (e, q))))
    | inr r ↦ (after s p m).1 (inr (e, r))
  ]

-- the same lookbacks, said otherwise
pub back_same : (old new : List Lookback) (n : ℕ) (P Q : ℕ → ℕ → Type 0) → ((s p : ℕ) → P s p ↔ Q s p)
    → AreBack old new n P → AreBack old new n Q
back_same old new n P Q same are s p m = (to, back) where
  to : Contains new (record { state = s; rule = p; node = m })
      → Contains old (record { state = s; rule = p; node = m }) ⊎ ((m ≡ n) × Q s p)
  to has = elim ((are s p m).0 has) [
    | inl was ↦ inl was
    | inr (e, is) ↦ inr (e, (same s p).0 is)
  ]

  back : Contains old (record { state = s; rule = p; node = m }) ⊎ ((m ≡ n) × Q s p)
      → Contains new (record { state = s; rule = p; node = m })
  back (inl was) = (are s p m).1 (inl was)
  back (inr (e, is)) = (are s p m).1 (inr (e, (same s p).1 is))

-- one more of the first of a list
pub take_Contains : (rules : List ℕ) (k : ℕ) (d p : ℕ) → k < length rules
    → Contains (take (k + 1) rules) p ↔ (Contains (take k rules) p ⊎ (slice_index_or rules k d ≡ p))
take_Contains rules k d p lt = (to, back) where
  to : Contains (take (k + 1) rules) p → Contains (take k rules) p ⊎ (slice_index_or rules k d ≡ p)
  to has = Contains-push_cases (take k rules) (slice_index_or rules k d) p
      (subst (λ w. Contains w p) (take_more rules k d lt) has)

  back : Contains (take k rules) p ⊎ (slice_index_or rules k d ≡ p) → Contains (take (k + 1) rules) p
  back (inl was) = subst (λ w. Contains w p) (sym (take_more rules k d lt))
      (Contains-append_left (take k rules) (slice_index_or rules k d ∷ []) p was)
  back (inr e) = subst (λ w. Contains w p) (sym (take_more rules k d lt))
      (subst (Contains (take k rules ++ slice_index_or rules k d ∷ [])) e
      (Contains-push (take k rules) (slice_index_or rules k d)))

pub includes_rules_more : (n : Numbering) (rules : List ℕ) (k d m : ℕ) → k < length rules → (i : ℕ)
    → IncludesByOne n (take (k + 1) rules) m i
    ↔ (IncludesByOne n (take k rules) m i ⊎ IsIncludingBy n.automaton n.gotos (slice_index_or rules k d) i m)
includes_rules_more n rules k d m lt i = (to, back) where
  to : IncludesByOne n (take (k + 1) rules) m i
      → IncludesByOne n (take k rules) m i ⊎ IsIncludingBy n.automaton n.gotos (slice_index_or rules k d) i m
  to (p, has, is) = elim ((take_Contains rules k d p lt).0 has) [
    | inl was ↦ inl (p, was, is)
    | inr e ↦ inr (subst (λ q. IsIncludingBy n.automaton n.gotos q i m) (sym e) is)
  ]

  back : IncludesByOne n (take k rules) m i ⊎ IsIncludingBy n.automaton n.gotos (slice_index_or rules k d) i m
      → IncludesByOne n (take (k + 1) rules) m i
  back (inl (p, has, is)) = (p, (take_Contains rules k d p lt).1 (inl has), is)
  back (inr is) = (slice_index_or rules k d, (take_Contains rules k d (slice_index_or rules k d) lt).1 (inr refl), is)

pub looks_rules_more : (n : Numbering) (rules : List ℕ) (k d m : ℕ) → k < length rules → (s p : ℕ)
    → LooksBackByOne n (take (k + 1) rules) m s p
    ↔ (LooksBackByOne n (take k rules) m s p
    ⊎ ((p ≡ slice_index_or rules k d) × IsLookingBack n.automaton n.gotos m s p))
looks_rules_more n rules k d m lt s p = (to, back) where
  to : LooksBackByOne n (take (k + 1) rules) m s p
      → LooksBackByOne n (take k rules) m s p ⊎ ((p ≡ slice_index_or rules k d)
      × IsLookingBack n.automaton n.gotos m s p)
  to (has, is) = elim ((take_Contains rules k d p lt).0 has) [
    | inl was ↦ inl (was, is)
    | inr e ↦ inr (sym e, is)
  ]

  back : LooksBackByOne n (take k rules) m s p
      ⊎ ((p ≡ slice_index_or rules k d) × IsLookingBack n.automaton n.gotos m s p)
      → LooksBackByOne n (take (k + 1) rules) m s p
  back (inl (has, is)) = ((take_Contains rules k d p lt).1 (inl has), is)
  back (inr (e, is)) = ((take_Contains rules k d p lt).1 (inr (sym e)), is)
