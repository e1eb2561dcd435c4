-- Lists of terminals that are expected.
use Rattle.std.proofs.Common.{◌≡◌, ◌∙◌, ◌⊎◌, inl, inr, ℕ, zero, suc, ◌+◌, ◌<◌, ◌≤◌, List, [], ◌∷◌, ◌++◌, AllPairs}
use Rattle.std.proofs.Common.{Contains, length}
use Rattle.std.proofs.Common.{refl, sym, ap, subst, arith, ◌↔◌}
use Rattle.std.proofs.Math.ListN.{get_or}
use Rattle.std.proofs.Math.Seq.{get_or-append_seam}
use Rattle.std.proofs.lemmas.Bool.{cases_lt}
use Rattle.std.proofs.lemmas.List.{get_or_append_left, length-append}
use Rattle.std.proofs.lemmas.List.Elements.{Contains-append_cases, Contains-append_left, Contains-append_right}
use Rattle.std.proofs.lemmas.List.Kept.{AllPairs-cons}
use Rattle.ly_base.proofs.MemberLemmas.{Contains-cons_cases, Contains-first, Contains-later, Contains-none}
use Rattle.ly_base.proofs.MemberLemmas.{Contains-one}
use Rattle.ly_pack.specs.Machine.{Machine}
use Rattle.ly_parse.specs.Expected.{AreExpected, IsExpected}
use Rattle.ly_parse.specs.Feeding.{Fed, Feeds, Level, done, faulty, pushed, refused, states_on}
use Rattle.ly_pack.specs.Steady.{IsSteady}
use Rattle.ly_pack.specs.SteadyLaws.{IsStack}
use Rattle.ly_base.specs.Lexed.{Token}
use Rattle.ly_parse.proofs.ExpectedFedLemmas.{expected_is_taken, taken_is_expected, IsTaken}
use Rattle.ly_parse.proofs.SettlingLemmas.{settles_on_steady}

-- the list rises, and has those below a number
pub record AreBelow (m : Machine) (stack : List ℕ) (bound : ℕ) (ts : List ℕ) : Type 0 where
  pub ordered : AllPairs (λ x y. x < y) ts
  pub are : (t : ℕ) → Contains ts t ↔ ((t < bound) × IsExpected m t stack)

rest_pairs : (x : ℕ) (xs : List ℕ) → AllPairs (λ a b. a < b) (x ∷ xs) → AllPairs (λ a b. a < b) xs
rest_pairs x xs pairs i j d lt within = pairs (suc i) (suc j) d (omega (arith, lt)) (omega (arith, within))

pub pairs_push : (n : ℕ) (xs : List ℕ) → AllPairs (λ a b. a < b) xs → ((t : ℕ) → Contains xs t → t < n)
    → AllPairs (λ a b. a < b) (xs ++ n ∷ [])
pairs_push n [] pairs below = λ i j d lt within. absurd (omega (arith, lt, within))
pairs_push n (x ∷ xs) pairs below = AllPairs-cons (λ a b. a < b) x (xs ++ n ∷ [])
    (λ k d lt. at k d (cases_lt k (length xs)) lt)
    (pairs_push n xs (rest_pairs x xs pairs) (λ t is. below t (Contains-later x xs t is)))
  where
    at : (k d : ℕ) → (k < length xs) ⊎ (length xs ≤ k) → k < length (xs ++ n ∷ []) → x < get_or (xs ++ n ∷ []) k d
    at k d (inl front) lt = subst (λ y. x < y) (sym (get_or_append_left xs (n ∷ []) d k front))
        (pairs 0 (suc k) d (omega arith) (omega (arith, front)))
    at k d (inr past) lt = let last : k ≡ length xs = omega (arith, past, lt, length-append xs (n ∷ [])) in
        subst (λ y. x < y) (sym (ap (λ j. get_or (xs ++ n ∷ []) j d) last
        ∙ get_or-append_seam xs n [] d)) (below x (Contains-first x xs))

pub none_below : (m : Machine) (stack ts : List ℕ) → ts ≡ [] → AreBelow m stack 0 ts
none_below m stack ts none = subst (AreBelow m stack 0) (sym none) record {
  ordered = λ i j d lt low. absurd (omega (arith, low));
  are = λ t. (λ has. absurd (Contains-none t has), λ w. absurd (omega (arith, w.0)));
}

module _ (m : Machine) (stack : List ℕ) (n : ℕ) (ts : List ℕ) (was : AreBelow m stack n ts) where
  pub with_it : IsExpected m n stack → AreBelow m stack (n + 1) (ts ++ n ∷ [])
  with_it is = record {
    ordered = pairs_push n ts was.ordered (λ t has. ((was.are t).0 has).0);
    are = λ t. (
      λ has. elim (Contains-append_cases ts (n ∷ []) t has) [
        | inl old ↦ let w = (was.are t).0 old in (omega (arith, w.0), w.1)
        | inr new ↦ let same : t ≡ n = sym (Contains-one n t new) in
            (omega (arith, same), subst (λ k. IsExpected m k stack) (sym same) is)
      ],
      λ w. elim (cases_lt t n) [
        | inl old ↦ Contains-append_left ts (n ∷ []) t ((was.are t).1 (old, w.1))
        | inr new ↦ let same : n ≡ t = omega (arith, new, w.0) in
            subst (Contains (ts ++ n ∷ [])) same (Contains-append_right ts (n ∷ []) n (Contains-first n []))
      ],
    );
  }

  pub without_it : (IsExpected m n stack → ⊥) → AreBelow m stack (n + 1) ts
  without_it not = record {
    ordered = was.ordered;
    are = λ t. (
      λ has. let w = (was.are t).0 has in (omega (arith, w.0), w.1),
      λ w. elim (cases_lt t n) [
        | inl old ↦ (was.are t).1 (old, w.1)
        | inr new ↦ let same : t ≡ n = omega (arith, new, w.0) in
            absurd (not (subst (λ k. IsExpected m k stack) same w.1))
      ],
    );
  }

-- two lists that rise and have the same members are equal
pub rising_one : (xs ys : List ℕ) → AllPairs (λ a b. a < b) xs → AllPairs (λ a b. a < b) ys
    → ((t : ℕ) → Contains xs t ↔ Contains ys t) → xs ≡ ys
rising_one [] [] p q same = refl
rising_one [] (y ∷ ys) p q same = absurd (Contains-none y ((same y).1 (Contains-first y ys)))
rising_one (x ∷ xs) [] p q same = absurd (Contains-none x ((same x).0 (Contains-first x xs)))
rising_one (x ∷ xs) (y ∷ ys) p q same =
    let x_in = (same x).0 (Contains-first x xs) in
    let y_in = (same y).1 (Contains-first y ys) in
    let heads : x ≡ y = elim (Contains-cons_cases y ys x x_in) [
      | inl e ↦ sym e
      | inr far ↦ elim (Contains-cons_cases x xs y y_in) [
        | inl e ↦ e
        | inr also ↦ let a = before y ys q x far in let b = before x xs p y also in absurd (omega (arith, a, b))
      ]
    ] in
    let tails = rising_one xs ys (rest_pairs x xs p) (rest_pairs y ys q) (λ t. (
      λ has. later y ys t ((same t).0 (Contains-later x xs t has)) (let lt = before x xs p t has in
          omega (arith, lt, heads)),
      λ has. later x xs t ((same t).1 (Contains-later y ys t has)) (let lt = before y ys q t has in
          omega (arith, lt, heads)),
    )) in
    ap (λ z. z ∷ xs) heads ∙ ap (λ w. y ∷ w) tails
  where
    before : (z : ℕ) (zs : List ℕ) → AllPairs (λ a b. a < b) (z ∷ zs) → (t : ℕ) → Contains zs t → z < t
    before z zs pairs t has = subst (λ k. z < k) has.2 (pairs 0 (suc has.0) t (omega arith) (omega (arith, has.1)))

    later : (z : ℕ) (zs : List ℕ) (t : ℕ) → Contains (z ∷ zs) t → z < t → Contains zs t
    later z zs t has lt = elim (Contains-cons_cases z zs t has) [
      | inl e ↦ absurd (omega (arith, e, lt))
      | inr far ↦ far
    ]

pub all_below : (m : Machine) (stack : List ℕ) (n : ℕ) (ts : List ℕ) → n ≡ m.terminals → AreBelow m stack n ts
    → AreExpected m stack ts
all_below m stack n ts e below = record {
  ordered = below.ordered;
  are = subst (λ k. (t : ℕ)
      → Contains ts t ↔ ((t < k) × IsExpected m t stack)) e below.are;
}

-- On steady tables there is such a list.
module _ (m : Machine) (levels : List Level) (calm : IsSteady m) (edges : IsStack m (states_on levels)) where
  listed_below : (n : ℕ) → n ≤ m.terminals → (ts : List ℕ) × AreBelow m (states_on levels) n ts
  listed_below zero within = ([], none_below m (states_on levels) [] refl)
  listed_below (suc n) within =
      let less = listed_below n (omega (arith, within)) in
      let probe : Token ℕ = record { terminal = n; at = 0; bytes = [] } in
      let it = settles_on_steady m probe levels calm (omega (arith, within)) edges in
      by_out less.0 less.1 probe refl it.0 it.1
    where
      one_more : (ts : List ℕ) → AreBelow m (states_on levels) (n + 1) ts
          → (ts : List ℕ) × AreBelow m (states_on levels) (suc n) ts
      one_more ts is = (ts, subst (λ k. AreBelow m (states_on levels) k ts) (omega arith) is)

      by_out : (ts : List ℕ) → AreBelow m (states_on levels) n ts → (probe : Token ℕ) → probe.terminal ≡ n
          → (out : Fed) → Feeds m probe levels out → (ts : List ℕ) × AreBelow m (states_on levels) (suc n) ts
      by_out ts below probe same out feeds = by_taken out feeds (decides out)
        where
          decides : (out : Fed) → IsTaken out ⊎ (IsTaken out → ⊥)
          decides (pushed next) = inl tt
          decides (done term) = inl tt
          decides refused = inr (λ x. x)
          decides faulty = inr (λ x. x)

          by_taken : (out : Fed) → Feeds m probe levels out → IsTaken out ⊎ (IsTaken out → ⊥)
              → (ts : List ℕ) × AreBelow m (states_on levels) (suc n) ts
          by_taken out feeds (inl taken) = one_more (ts ++ n ∷ []) (with_it m (states_on levels) n ts below
              (subst (λ k. IsExpected m k (states_on levels)) same (taken_is_expected m probe feeds taken)))
          by_taken out feeds (inr not) = one_more ts (without_it m (states_on levels) n ts below
              (λ x. not (expected_is_taken m probe feeds
              (subst (λ k. IsExpected m k (states_on levels)) (sym same) x))))

  pub are_listed : (ts : List ℕ) × AreExpected m (states_on levels) ts
  are_listed =
      let all = listed_below m.terminals (omega arith) in
      (all.0, all_below m (states_on levels) m.terminals all.0 refl all.1)

-- of two such lists neither has more
pub one_list : (m : Machine) (stack xs ys : List ℕ) → AreExpected m stack xs → AreExpected m stack ys → xs ≡ ys
one_list m stack xs ys a b = rising_one xs ys a.ordered b.ordered
    (λ t. (λ has. (b.are t).1 ((a.are t).0 has), λ has. (a.are t).1 ((b.are t).0 has)))
