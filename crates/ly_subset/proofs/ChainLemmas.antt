-- What chains tell of the positions that may come after a set.
use Rattle.std.proofs.Common.{◌≡◌, ◌<◌, ◌≤◌, ◌+◌, ◌∙◌, ℕ, List, [], ◌∷◌, ◌++◌}
use Rattle.std.proofs.Common.{sym, ap, subst, arith, inl, inr, length, Contains, All, get_or, ◌⊎◌}
use Rattle.std.specs.Prelude.{AllPairs, ◌↔◌, ◌-◌, MatchBool}
use Rattle.std.specs.List.{range_with_len}
use Rattle.std.proofs.lemmas.Bool.{cases_eq, cases_lt, le-leb, lt-leb}
use Rattle.std.proofs.Math.Dec.{leb}
use Rattle.std.proofs.lemmas.List.{get_or_append_left, get_or_default, get_or_push}
use Rattle.std.proofs.lemmas.List.Elements.{All-contains, Contains-get_or}
use Rattle.std.proofs.lemmas.List.FromFn.{get_or-range_with_len, length-range_with_len}
use Rattle.ly_base.proofs.MemberLemmas.{Contains-none}
use Rattle.ly_position.specs.Nfa.{Nfa, BeginsChain, GoesOnChain, Follows, ReadsByte}
use Rattle.ly_subset.specs.Private.Chains.{AreChains, IsChain, IsLastReader, IsSpanAfter, ReadsNone}
use Rattle.ly_subset.specs.Private.Found.{IsEntered, IsLed}
use Rattle.ly_subset.specs.Private.Packed.{run_of}
use Rattle.ly_subset.specs.declared.found.Found.{Found}

contains_range : (a n q : ℕ) → Contains (range_with_len a n) q ↔ ((a ≤ q) × (q < a + n))
contains_range a n q = (
  λ h. let less : h.0 < n = omega (arith, h.1, length-range_with_len a n) in
      let at : a + h.0 ≡ q = sym (get_or-range_with_len a n h.0 q less) ∙ h.2 in
      (omega (arith, at), omega (arith, at, less)),
  λ h. let less : q - a < n = omega (arith, h.0, h.1) in (
    q - a,
    omega (arith, less, length-range_with_len a n),
    get_or-range_with_len a n (q - a) q less ∙ (let back : a + (q - a) ≡ q = omega (arith, h.0) in back),
  ),
)

-- the numbers of a run are those from its first to its last
pub contains_run : (first last q : ℕ) → Contains (run_of first last) q ↔ ((first ≤ q) × (q ≤ last))
contains_run first last q = let so = contains_range first (last + 1 - first) q in (
  λ h. let both = so.0 h in (both.0, omega (arith, both.0, both.1)),
  λ h. so.1 (h.0, omega (arith, h.0, h.1)),
)

-- what the tests of both ends tell
pub run_if : (first last q : ℕ) → first ≤ q → MatchBool (leb q last) (Contains (run_of first last) q)
    (Contains (run_of first last) q → ⊥)
run_if first last q low = elim (cases_lt last q) [
  | inl past ↦ rw (lt-leb q last past) (λ h. omega (arith, past, ((contains_run first last q).0 h).1))
  | inr within ↦ rw (le-leb q last within) ((contains_run first last q).1 (low, within))
]

pub run_if_not : (first last q : ℕ) → q < first → MatchBool (leb first q) (Contains (run_of first last) q)
    (Contains (run_of first last) q → ⊥)
run_if_not first last q below = rw (lt-leb first q below)
    (λ h. omega (arith, below, ((contains_run first last q).0 h).0))

-- a position that only the one before it follows begins a chain
pub chain_begins : (n : Nfa) (p : ℕ) → BeginsChain n p → IsChain n p p
chain_begins n p so = record {
  rises = omega arith;
  follows = λ r q l m. let same : r ≡ p = omega (arith, l, m) in
      subst (λ x. Follows n x q ↔ ((p ≤ q + 1) × (q < x))) (sym same) (
        λ h. let e = (so q).0 h in (omega (arith, e), omega (arith, e)),
        λ h. (so q).1 (omega (arith, h.0, h.1)),
      );
}

-- and one that the one before it follows too, and what follows that one, goes on its chain
pub chain_goes_on : (n : Nfa) (first p : ℕ) → 0 < first → IsChain n first (p - 1) → GoesOnChain n p → IsChain n first p
chain_goes_on n first p some so next = record {
  rises = omega (arith, so.rises);
  follows = λ r q l m. elim (cases_lt r p) [
    | inl before ↦ so.follows r q l (omega (arith, before))
    | inr past ↦ let same : r ≡ p = omega (arith, m, past) in
        subst (λ x. Follows n x q ↔ ((first ≤ q + 1) × (q < x))) (sym same) (λ h. there q ((next q).0 h), back q)
  ];
}
  where
    there : (q : ℕ) → (q + 1 ≡ p) ⊎ Follows n (p - 1) q → (first ≤ q + 1) × (q < p)
    there q (inl e) = (omega (arith, e, so.rises), omega (arith, e))
    there q (inr h) = let both = (so.follows (p - 1) q so.rises (omega arith)).0 h in
        (both.0, omega (arith, both.1))

    back : (q : ℕ) → (first ≤ q + 1) × (q < p) → Follows n p q
    back q h = elim (cases_eq (q + 1) p) [
      | inl e ↦ (next q).1 (inl e)
      | inr ne ↦ (next q).1 (inr ((so.follows (p - 1) q so.rises (omega arith)).1
          (h.0, omega (arith, h.1, ne))))
    ]

-- one position more has its chain
pub chain_more : (n : Nfa) (firsts : List ℕ) (first number : ℕ) → length firsts ≡ number
    → ((q : ℕ) → q < number → 0 < get_or firsts q 0 → IsChain n (get_or firsts q 0) q)
    → (0 < first → IsChain n first number) → (p : ℕ) → p < number + 1 → 0 < get_or (firsts ++ first ∷ []) p 0
    → IsChain n (get_or (firsts ++ first ∷ []) p 0) p
chain_more n firsts first number count so one p l = elim (cases_lt p number) [
  | inl before ↦ subst (λ f. 0 < f → IsChain n f p)
      (sym (get_or_append_left firsts (first ∷ []) 0 p (omega (arith, before, count)))) (so p before)
  | inr past ↦ let same : number ≡ p = omega (arith, l, past) in
      subst (λ f. 0 < f → IsChain n f p) (sym (get_or_push firsts first 0 p (count ∙ same)))
      (subst (λ k. 0 < first → IsChain n first k) same one)
]

module _ (n : Nfa) (ps : List ℕ) (b : ℕ) (rising : AllPairs (λ p q. p < q) ps) where
  -- a later member is no less
  no_less : (i j : ℕ) → i ≤ j → j < length ps → get_or ps i 0 ≤ get_or ps j 0
  no_less i j l m = elim (cases_eq i j) [
    | inl same ↦ omega (arith, ap (λ k. get_or ps k 0) same)
    | inr ne ↦ let less : get_or ps i 0 < get_or ps j 0 = rising i j 0 (omega (arith, l, ne)) m in omega (arith, less)
  ]

  at_place : (p : ℕ) → (c : Contains ps p) → get_or ps c.0 0 ≡ p
  at_place p c = get_or_default ps c.0 0 p c.1 ∙ c.2

  -- no member reads the byte that none did in turn
  pub none_found : (passed : ℕ) → length ps ≤ passed
      → ((k : ℕ) → k < length ps → length ps ≤ k + passed → ReadsByte n (get_or ps k 0) b → ⊥) → ReadsNone n ps b
  none_found passed all none p c r
      = none c.0 c.1 (omega (arith, all)) (subst (λ x. ReadsByte n x b) (sym (at_place p c)) r)

  -- the first one from the back that does is the last
  pub last_found : (passed k : ℕ) → k + passed + 1 ≡ length ps → ReadsByte n (get_or ps k 0) b
      → ((j : ℕ) → j < length ps → length ps ≤ j + passed → ReadsByte n (get_or ps j 0) b → ⊥)
      → IsLastReader n ps b (get_or ps k 0)
  last_found passed k at reads none = record {
    is_one = Contains-get_or ps k 0 (omega (arith, at));
    reads = reads;
    above = λ p c r. elim (cases_lt k c.0) [
      | inl after ↦ absurd
          (none c.0 c.1 (omega (arith, after, at)) (subst (λ x. ReadsByte n x b) (sym (at_place p c)) r))
      | inr before ↦ omega (arith, no_less c.0 k before (omega (arith, at)), at_place p c)
    ];
  }

  pub passed_more : (passed k : ℕ) → k + passed + 1 ≡ length ps → (ReadsByte n (get_or ps k 0) b → ⊥)
      → ((j : ℕ) → j < length ps → length ps ≤ j + passed → ReadsByte n (get_or ps j 0) b → ⊥)
      → (j : ℕ) → j < length ps → length ps ≤ j + (passed + 1) → ReadsByte n (get_or ps j 0) b → ⊥
  passed_more passed k at not none j l m r = elim (cases_eq j k) [
    | inl same ↦ not (subst (λ i. ReadsByte n (get_or ps i 0) b) same r)
    | inr ne ↦ none j l (omega (arith, m, at, ne)) r
  ]

  -- no member below a bound reads the byte that none before the first above it does
  pub none_below : (bound i : ℕ) → i < length ps → bound ≤ get_or ps i 0
      → ((k : ℕ) → k < i → ReadsByte n (get_or ps k 0) b → ⊥) → (p : ℕ) → Contains ps p → ReadsByte n p b → bound ≤ p
  none_below bound i l up none p c r = elim (cases_lt c.0 i) [
    | inl before ↦ absurd (none c.0 before (subst (λ x. ReadsByte n x b) (sym (at_place p c)) r))
    | inr past ↦ omega (arith, no_less i c.0 past c.1, at_place p c, up)
  ]

  pub none_at_all : (bound i : ℕ) → length ps ≤ i → ((k : ℕ) → k < i → ReadsByte n (get_or ps k 0) b → ⊥) → (p : ℕ)
      → Contains ps p → ReadsByte n p b → bound ≤ p
  none_at_all bound i all none p c r = absurd (none c.0 (omega (arith, all, c.1))
      (subst (λ x. ReadsByte n x b) (sym (at_place p c)) r))

-- what the chain of the last position that reads a byte tells of all that do
pub span_is : (n : Nfa) (firsts ps : List ℕ) (b last : ℕ) → AreChains n firsts → All (λ p. p < length n.positions) ps
    → IsLastReader n ps b last → (get_or firsts last 0 ≡ 0 → ⊥)
    → ((p : ℕ) → Contains ps p → ReadsByte n p b → get_or firsts last 0 ≤ p)
    → IsSpanAfter n ps b (record { first = get_or firsts last 0 - 1; last = last - 1 })
span_is n firsts ps b last chains within is_last some below =
    let first = get_or firsts last 0 in
    let less : last < length n.positions = All-contains (λ p. p < length n.positions) ps last within is_last.is_one in
    let chain : IsChain n first last = chains.chain last (omega (arith, less, chains.count)) (omega (arith, some)) in
    record {
      rises = omega (arith, chain.rises);
      within = omega (arith, less);
      stepped = λ q. (
        λ h. let both = (contains_run (first - 1) (last - 1) q).0 h in (
          last,
          is_last.is_one,
          is_last.reads,
          (chain.follows last q chain.rises (omega arith)).1
              (omega (arith, both.0), omega (arith, both.1, chain.rises, some)),
        ),
        λ h. let top = is_last.above h.0 h.1 h.2 in
            let both = (chain.follows h.0 q (below h.0 h.1 h.2) top).0 h.3 in
            (contains_run (first - 1) (last - 1) q).1 (omega (arith, both.0), omega (arith, both.1, top)),
      );
    }

-- where no position reads the byte, none may come
pub led_none : (n : Nfa) (ps : List ℕ) (b : ℕ) (old new : Found) → ReadsNone n ps b → IsEntered old [] new
    → IsLed n ps b old new
led_none n ps b old new none entered = record {
  members = [];
  stepped = λ q. (λ h. Contains-none q h, λ s. absurd (none s.0 s.1 s.2));
  entered = entered;
}

-- a run has a member, and its last is below a bound that all are below
pub run_some : (first last : ℕ) → first ≤ last → (q : ℕ) × Contains (run_of first last) q
run_some first last l = (first, (contains_run first last first).1 (omega arith, l))

pub run_within : (below first last : ℕ) → last < below → All (λ p. p < below) (run_of first last)
run_within below first last l i d m = let top = ((contains_run first last (get_or (run_of first last) i d)).0
    (Contains-get_or (run_of first last) i d m)).1 in omega (arith, top, l)
