-- Partitions that are refined: what is split is told apart, and where nothing is split the partition is stable.
use Rattle.std.proofs.Common.{◌≡◌, ◌≢◌, ◌⊎◌, ◌<◌, ◌≤◌, ◌+◌, ◌^◌, ◌∙◌, ◌++◌, ◌∷◌, [], ℕ, zero, suc, List, length}
use Rattle.std.proofs.Common.{Option, Some}
use Rattle.std.proofs.Common.{None, refl, sym, ap, subst, arith, inl, inr, get_or, below_more}
use Rattle.std.specs.Prelude.{option_map, option_and_then}
use Rattle.std.proofs.lemmas.Bool.{cases_eq, cases_lt}
use Rattle.std.proofs.lemmas.List.{append-nil, get_or_append_left, get_or_push, length-append, length_push}
use Rattle.ly_subset.specs.Automaton.{Automaton, IsAutomaton, IsTrim, next_by_class, next_of, rule_after, rule_of}
use Rattle.ly_base.specs.Keys.{IsAbsent}
use Rattle.ly_base.proofs.PigeonholeLemmas.{pigeonhole}
use Rattle.ly_minim.specs.Smallest.{Distinguished}
use Rattle.ly_minim.specs.Private.Blocks.{AreApart, AreBlocks, IsNamed, IsRefined, IsStable}
use Rattle.ly_minim.specs.Private.Signature.{block_after, block_of, signature_of}
use Rattle.ly_minim.proofs.SignatureLemmas.{seen_from, seen_to}
use Rattle.ly_minim.proofs.WalkLemmas.{ended}

module _ (A : Automaton) (of finer : List ℕ) (count more : ℕ) (before : AreBlocks (length A.rules) of count)
    (after : AreBlocks (length A.rules) finer more) (refined : IsRefined A of finer) where
  coarser : (s t : ℕ) → s < length A.rules → t < length A.rules → block_of finer s ≡ block_of finer t
      → block_of of s ≡ block_of of t
  coarser s t l m e = (seen_from A of s t ((refined s t l m).0 e)).block

  -- a finer partition has as many blocks
  pub count_le : count ≤ more
  count_le = pigeonhole count more
      (λ b d. (s : ℕ) × (s < length A.rules) × (block_of of s ≡ b) × (block_of finer s ≡ d))
      (λ b l. let u = before.used b l in (block_of finer u.0, after.within u.0 u.1, (u.0, u.1, u.2, refl)))
      (λ i h j l m p q. sym p.2 ∙ coarser p.0 q.0 p.1 q.1 (p.3 ∙ sym q.3) ∙ q.2)

  -- and one more where it splits one
  count_lt : (s t : ℕ) → s < length A.rules → t < length A.rules → block_of of s ≡ block_of of t
      → block_of finer s ≢ block_of finer t → suc count ≤ more
  count_lt s t l m e ne = pigeonhole (suc count) more
      (λ b d. ((b < count) × ((u : ℕ) × (u < length A.rules) × (block_of of u ≡ b) × (block_of finer u ≡ d))
      × (d ≢ block_of finer t)) ⊎ ((b ≡ count) × (d ≡ block_of finer t)))
      (λ b less. elim (cases_lt b count) [
        | inl below ↦ let u = before.used b below in elim (cases_eq (block_of finer u.0) (block_of finer t)) [
          | inl same ↦ (
            block_of finer s,
            after.within s l,
            inl (below, (s, l, e ∙ sym (coarser u.0 t u.1 m same) ∙ u.2, refl), ne),
          )
          | inr other ↦ (block_of finer u.0, after.within u.0 u.1, inl (below, (u.0, u.1, u.2, refl), other))
        ]
        | inr past ↦ (block_of finer t, after.within t m, inr (omega (arith, less, past), refl))
      ])
      one
    where
      R : ℕ → ℕ → Type 0
      R b d = ((b < count) × ((u : ℕ) × (u < length A.rules) × (block_of of u ≡ b) × (block_of finer u ≡ d))
          × (d ≢ block_of finer t)) ⊎ ((b ≡ count) × (d ≡ block_of finer t))

      one : (i h j : ℕ) → i < suc count → h < suc count
          → (((i < count) × ((u : ℕ) × (u < length A.rules) × (block_of of u ≡ i) × (block_of finer u ≡ j))
          × (j ≢ block_of finer t)) ⊎ ((i ≡ count) × (j ≡ block_of finer t)))
          → (((h < count) × ((u : ℕ) × (u < length A.rules) × (block_of of u ≡ h) × (block_of finer u ≡ j))
          × (j ≢ block_of finer t)) ⊎ ((h ≡ count) × (j ≡ block_of finer t))) → i ≡ h
      one i h j a b (inl p) (inl q) = sym p.1.2 ∙ coarser p.1.0 q.1.0 p.1.1 q.1.1 (p.1.3 ∙ sym q.1.3) ∙ q.1.2
      one i h j a b (inl p) (inr q) = absurd (p.2 q.1)
      one i h j a b (inr p) (inl q) = absurd (q.2 p.1)
      one i h j a b (inr p) (inr q) = p.0 ∙ sym q.0

  kept : count ≡ more → (s t : ℕ) → s < length A.rules → t < length A.rules → block_of of s ≡ block_of of t
      → block_of finer s ≡ block_of finer t
  kept same s t l m e = elim (cases_eq (block_of finer s) (block_of finer t)) [
    | inl one ↦ one
    | inr ne ↦ absurd (omega (arith, count_lt s t l m e ne, same))
  ]

  -- where no block is split, the partition is stable
  pub stable_of : count ≡ more → IsStable A of
  stable_of same = record {
    one_rule = λ s t l m e. (seen_from A of s t ((refined s t l m).0 (kept same s t l m e))).rule;
    one_next = λ s t c l m less e. (seen_from A of s t ((refined s t l m).0 (kept same s t l m e))).nexts c less;
  }

-- two numbers, if there are any, are one or not
same_option : (a b : Option ℕ) → (a ≡ b) ⊎ (a ≢ b)
same_option None None = inl refl
same_option None (Some n) = inr (λ e. cc)
same_option (Some m) None = inr (λ e. cc)
same_option (Some m) (Some n) = elim (cases_eq m n) [
  | inl e ↦ inl (ap (λ x. Some x) e)
  | inr ne ↦ inr (λ e. ne (cc))
]

-- functions that agree below a bound, or a number where they don't
agree_or : (f g : ℕ → Option ℕ) (n : ℕ) → ((c : ℕ) → c < n → f c ≡ g c) ⊎ ((c : ℕ) × (c < n) × (f c ≢ g c))
agree_or f g zero = inl (λ c l. absurd (omega (arith, l)))
agree_or f g (suc n) = elim (agree_or f g n) [
  | inl all ↦ elim (same_option (f n) (g n)) [
    | inl e ↦ inl (λ c l. elim (cases_lt c n) [
      | inl less ↦ all c less
      | inr past ↦ let same : n ≡ c = omega arith in subst (λ x. f x ≡ g x) same e
    ])
    | inr ne ↦ inr (n, omega arith, ne)
  ]
  | inr at ↦ inr (at.0, omega (arith, at.1), at.2)
]

module _ (A : Automaton) (is : IsAutomaton A) (trim : IsTrim A) (of : List ℕ) (apart : AreApart A of) where
  -- a state that leads to a rule is told apart from an ended walk
  not_ended : (s : ℕ) → s < length A.rules → Distinguished A (Some s) None
  not_ended s l = let r = trim.leads s l in
      (r.0, λ e. let off : Some r.1 ≡ None = sym r.2 ∙ e ∙ ended A r.0 in cc)

  by_blocks : (s t : Option ℕ) → ((u : ℕ) → s ≡ Some u → u < length A.rules)
      → ((u : ℕ) → t ≡ Some u → u < length A.rules)
      → option_map (block_of of) s ≢ option_map (block_of of) t → Distinguished A s t
  by_blocks None None p q ne = absurd (ne refl)
  by_blocks None (Some t) p q ne = let d = not_ended t (q t refl) in (d.0, λ e. d.1 (sym e))
  by_blocks (Some s) None p q ne = not_ended s (p s refl)
  by_blocks (Some s) (Some t) p q ne = apart s t (p s refl) (q t refl) (λ e. ne (ap (λ x. Some x) e))

  -- states from which a class leads to different blocks are told apart
  pub by_class : (s t c : ℕ) → c < A.classes → block_after A of s c ≢ block_after A of t c
      → Distinguished A (Some s) (Some t)
  by_class s t c l ne =
      let b = is.used c l in
      let d = by_blocks (next_by_class A s c) (next_by_class A t c) (λ u e. is.within _ u e)
      (λ u e. is.within _ u e) ne in
      let next : (v : ℕ) → next_of A (Some v) b.0 ≡ next_by_class A v c
      = λ v. ap (option_and_then (next_by_class A v)) b.1 in
      (b.0 ∷ d.0, λ e. d.1 (ap (λ o. rule_after A o d.0) (sym (next s)) ∙ e ∙ ap (λ o. rule_after A o d.0) (next t)))

  -- what is split is told apart
  pub apart_more : (finer : List ℕ) → IsRefined A of finer → AreApart A finer
  apart_more finer refined s t l m ne = elim (cases_eq (block_of of s) (block_of of t)) [
    | inr other ↦ apart s t l m other
    | inl block ↦ elim (same_option (rule_of A (Some s)) (rule_of A (Some t))) [
      | inr other ↦ ([], other)
      | inl rule ↦ elim (agree_or (block_after A of s) (block_after A of t) A.classes) [
        | inr at ↦ by_class s t at.0 at.1 at.2
        | inl all ↦ absurd (ne ((refined s t l m).1 (seen_to A of s t
            (record { block = block; rule = rule; nexts = all }))))
      ]
    ]
  ]

-- A finer partition so far: the states have the numbers of their signatures, which are all different.
pub record IsRefining (A : Automaton) (of : List ℕ) (n : ℕ) (finer : List ℕ) (keys : List (List ℕ)) : Type 0 where
  pub states : length finer ≡ n
  pub within : (s : ℕ) → s < n → block_of finer s < length keys
  pub key : (s : ℕ) → s < n → get_or keys (block_of finer s) [] ≡ signature_of A of s
  pub apart : (i j : ℕ) → i < length keys → j < length keys → get_or keys i [] ≡ get_or keys j [] → i ≡ j
  pub used : (b : ℕ) → b < length keys → (s : ℕ) × (s < n) × (block_of finer s ≡ b)
  pub few : length keys ≤ n

pub refining_none : (A : Automaton) (of : List ℕ) → IsRefining A of 0 [] []
refining_none A of = record {
  states = refl;
  within = λ s l. absurd (omega (arith, l));
  key = λ s l. absurd (omega (arith, l));
  apart = λ i j l. absurd (omega (arith, l));
  used = λ b l. absurd (omega (arith, l));
  few = omega arith;
}

module _ (A : Automaton) (of : List ℕ) (n : ℕ) (finer : List ℕ) (keys new : List (List ℕ)) (number : ℕ)
    (so : IsRefining A of n finer keys) (named : IsNamed keys (signature_of A of n) new number) where
  kept_key : (i : ℕ) → i < length keys → get_or new i [] ≡ get_or keys i []
  kept_key i l = ap (λ ks. get_or ks i []) named.grown ∙ get_or_append_left keys named.more [] i l

  longer : length keys ≤ length new
  longer = omega (arith, ap length named.grown, length-append keys named.more)

  old_block : (s : ℕ) → s < n → block_of (finer ++ number ∷ []) s ≡ block_of finer s
  old_block s l = let states = so.states in get_or_append_left finer (number ∷ []) 0 s (omega arith)

  new_block : block_of (finer ++ number ∷ []) n ≡ number
  new_block = get_or_push finer number 0 n so.states

  distinct : (i j : ℕ) → i < length new → j < length new → get_or new i [] ≡ get_or new j [] → i ≡ j
  distinct i j l m e = elim (cases_lt i (length keys)) [
    | inl a ↦ elim (cases_lt j (length keys)) [
      | inl b ↦ so.apart i j a b (sym (kept_key i a) ∙ e ∙ kept_key j b)
      | inr b ↦ let f = named.fresh j m b in absurd (omega (
        arith,
        f.0,
        f.1,
        named.absent i a (sym (kept_key i a) ∙ e ∙ ap (λ k. get_or new k []) (sym f.1) ∙ named.at),
      ))
    ]
    | inr a ↦ let f = named.fresh i l a in elim (cases_lt j (length keys)) [
      | inl b ↦ absurd (omega (
        arith,
        f.0,
        f.1,
        named.absent j b (sym (kept_key j b) ∙ sym e ∙ ap (λ k. get_or new k []) (sym f.1) ∙ named.at),
      ))
      | inr b ↦ f.0 ∙ sym (named.fresh j m b).0
    ]
  ]

  -- one state more
  pub refining_more : IsRefining A of (n + 1) (finer ++ number ∷ []) new
  refining_more = record {
    states = let states = so.states in omega (arith, length_push finer number);
    within = below_more (λ s. block_of (finer ++ number ∷ []) s < length new) n
        (λ s l. subst (λ b. b < length new) (sym (old_block s l)) (omega (arith, so.within s l, longer)))
        (subst (λ b. b < length new) (sym new_block) named.within);
    key = below_more (λ s. get_or new (block_of (finer ++ number ∷ []) s) [] ≡ signature_of A of s) n
        (λ s l. ap (λ b. get_or new b []) (old_block s l) ∙ kept_key (block_of finer s) (so.within s l) ∙ so.key s l)
        (ap (λ b. get_or new b []) new_block ∙ named.at);
    apart = distinct;
    used = λ b l. elim (cases_lt b (length keys)) [
      | inl less ↦ let u = so.used b less in (u.0, omega (arith, u.1), old_block u.0 u.1 ∙ u.2)
      | inr past ↦ (n, omega arith, new_block ∙ (named.fresh b l past).1)
    ];
    few = elim (cases_lt (length keys) (length new)) [
      | inl grows ↦ let first = named.fresh (length keys) grows (omega arith) in
          let few = so.few in elim (cases_lt (length keys + 1) (length new)) [
            | inl two ↦ absurd (omega (arith, (named.fresh (length keys + 1) two (omega arith)).0))
            | inr one ↦ omega (arith, one)
          ]
      | inr same ↦ let few = so.few in omega (arith, same)
    ];
  }

-- all states
pub refined_of : (A : Automaton) (of : List ℕ) (n : ℕ) (finer : List ℕ) (keys : List (List ℕ)) → n ≡ length A.rules
    → IsRefining A of n finer keys → IsRefined A of finer
refined_of A of n finer keys all so s t l m =
    let a : s < n = omega (arith, l, all) in
    let b : t < n = omega (arith, m, all) in (
      λ e. sym (so.key s a) ∙ ap (λ i. get_or keys i []) e ∙ so.key t b,
      λ e. so.apart (block_of finer s) (block_of finer t) (so.within s a) (so.within t b)
          (so.key s a ∙ e ∙ sym (so.key t b)),
    )

pub blocks_of : (A : Automaton) (of : List ℕ) (n : ℕ) (finer : List ℕ) (keys : List (List ℕ)) (count : ℕ)
    → n ≡ length A.rules → n < 2 ^ 32 → count ≡ length keys → IsRefining A of n finer keys
    → AreBlocks (length A.rules) finer count
blocks_of A of n finer keys count all fits same so = record {
  states = so.states ∙ all;
  within = λ s l. omega (arith, so.within s (omega (arith, l, all)), same);
  used = λ b l. let u = so.used b (omega (arith, l, same)) in (u.0, omega (arith, u.1, all), u.2);
  few = let few = so.few in omega (arith, all, same);
  fits = subst (λ x. x < 2 ^ 32) all fits;
}

-- a key's number
pub named_known : (keys : List (List ℕ)) (key : List ℕ) (number : ℕ) → number < length keys
    → get_or keys number [] ≡ key
    → IsNamed keys key keys number
named_known keys key number l at = record {
  more = [];
  grown = sym (append-nil keys);
  within = l;
  at = at;
  fresh = λ n less past. absurd (omega (arith, less, past));
  absent = λ n less e. l;
}

pub named_new : (keys : List (List ℕ)) (key : List ℕ) → IsAbsent keys key
    → IsNamed keys key (keys ++ key ∷ []) (length keys)
named_new keys key absent = record {
  more = key ∷ [];
  grown = refl;
  within = omega (arith, length_push keys key);
  at = get_or_push keys key [] (length keys) refl;
  fresh = λ n less past. let last : n ≡ length keys = omega (arith, length_push keys key, less, past) in
      (last, sym last);
  absent = λ n less e. absurd (absent n less e);
}
