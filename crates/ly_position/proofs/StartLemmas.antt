-- Lists of entries, condition by condition.
use Rattle.std.proofs.Common.{◌≡◌, ◌≢◌, inl, inr, ◌⊎◌, ℕ, ◌+◌, ◌*◌, ◌<◌, ◌≤◌, List, [], ◌∷◌, ◌++◌, Bool, true, false}
use Rattle.std.proofs.Common.{length, get_or, set, Option, Some, None, refl, sym, ap, subst, ◌∙◌, arith, length-set}
use Rattle.std.proofs.Common.{get_or-set_same, get_or-set_other}
use Rattle.std.specs.Prelude.{All, ◌↔◌, slice_get, Contains, IsTrue}
use Rattle.std.proofs.lemmas.Bool.{cases_eq, cases_lt}
use Rattle.std.proofs.lemmas.List.{get_or_push, get_or_append_left, get_or_default}
use Rattle.std.proofs.lemmas.List.Elements.{All-append, All-contains, All-push, All-set, All-nil}
use Rattle.std.proofs.lemmas.List.Elements.{Contains-append_left, Contains-append_right, Contains-push}
use Rattle.std.proofs.lemmas.List.Elements.{Contains-push_cases}
use Rattle.ly_base.proofs.MemberLemmas.{Contains-none}
use Rattle.ly_ere.specs.declared.pattern.Rule.{Rule}
use Rattle.ly_ere.specs.Winner.{active_of}
use Rattle.ly_position.specs.Private.Program.{ProgramStep}
use Rattle.ly_position.specs.Private.Link.{IsReachList}
use Rattle.ly_position.specs.Private.Starts.{key, root_list, PutsIn, AddsIn, AddsInEach, StaysWithin, BeginsBefore}
use Rattle.ly_position.specs.Private.Starts.{AreBelow, AreRoots, BeginsIn, StartsAt}

-- an entry in one list
pub put_within : (L L' : List (List ℕ)) (k x : ℕ) → k < length L → PutsIn L L' k x → StaysWithin L L' x
put_within L L' k x less is n l all
    = rw is (All-set (All (λ p. p < n)) L k (get_or L k [] ++ x ∷ [])
    (All-push (λ p. p < n) (get_or L k []) x (all k [] less) l) all)

put_same : (L : List (List ℕ)) (k x e : ℕ) → k < length L → Contains (get_or (set L k (get_or L k [] ++ x ∷ [])) k []) e
    ↔ (Contains (get_or L k []) e ⊎ (e ≡ x))
put_same L k x e less = rw (get_or-set_same L k (get_or L k [] ++ x ∷ []) [] less) (there, back)
  where
    there : Contains (get_or L k [] ++ x ∷ []) e → Contains (get_or L k []) e ⊎ (e ≡ x)
    there h = elim (Contains-push_cases (get_or L k []) x e h) [ inl a ↦ inl a | inr b ↦ inr (sym b) ]

    back : Contains (get_or L k []) e ⊎ (e ≡ x) → Contains (get_or L k [] ++ x ∷ []) e
    back (inl a) = Contains-append_left (get_or L k []) (x ∷ []) e a
    back (inr b) = subst (λ z. Contains (get_or L k [] ++ x ∷ []) z) (sym b) (Contains-push (get_or L k []) x)

pub put_each : (L L' : List (List ℕ)) (k x : ℕ) → k < length L → PutsIn L L' k x → (j e : ℕ)
    → Contains (get_or L' j []) e ↔ (Contains (get_or L j []) e ⊎ ((j ≡ k) × (e ≡ x)))
put_each L L' k x less is j e = rw is (elim (cases_eq j k) [
  | inl same ↦ rw same (let h = put_same L k x e less in (λ a. right (h.0 a), λ a. h.1 (left a)))
  | inr other ↦ rw (get_or-set_other L k j (get_or L k [] ++ x ∷ []) [] other) (λ a. inl a, λ a. only other a)
])
  where
    right : Contains (get_or L k []) e ⊎ (e ≡ x) → Contains (get_or L k []) e ⊎ ((k ≡ k) × (e ≡ x))
    right (inl a) = inl a
    right (inr b) = inr (refl, b)

    left : Contains (get_or L k []) e ⊎ ((k ≡ k) × (e ≡ x)) → Contains (get_or L k []) e ⊎ (e ≡ x)
    left (inl a) = inl a
    left (inr b) = inr b.1

    only : (j ≢ k) → Contains (get_or L j []) e ⊎ ((j ≡ k) × (e ≡ x)) → Contains (get_or L j []) e
    only ne (inl a) = a
    only ne (inr b) = absurd (ne b.0)

-- the lists of a condition
key_odd : (c d : ℕ) (line : Bool) → (key c line ≡ 2 * d + 1) ↔ ((c ≡ d) × IsTrue line)
key_odd c d true = (λ e. (omega arith, refl), λ h. omega (arith, h.0))
key_odd c d false = (λ e. absurd (omega arith), λ h. let k = h.1 in cc)

key_even : (c d : ℕ) (line : Bool) → (key c line ≡ 2 * d) ↔ ((c ≡ d) × (line ≡ false))
key_even c d true = (λ e. absurd (omega arith), λ h. let k = h.1 in cc)
key_even c d false = (λ e. (omega arith, refl), λ h. omega (arith, h.0))

pub added_at_line : (L L' : List (List ℕ)) (d x : ℕ) → 2 * d + 1 < length L → PutsIn L L' (2 * d + 1) x
    → AddsIn L L' d true x
added_at_line L L' d x less is c line e = (λ h. there (p.0 h), λ h. p.1 (back h))
  where
    p : Contains (root_list L' c line) e ↔ (Contains (root_list L c line) e ⊎ ((key c line ≡ 2 * d + 1) × (e ≡ x)))
    p = put_each L L' (2 * d + 1) x less is (key c line) e

    there : Contains (root_list L c line) e ⊎ ((key c line ≡ 2 * d + 1) × (e ≡ x)) → Contains (root_list L c line) e
        ⊎ ((c ≡ d) × (IsTrue true → IsTrue line) × (e ≡ x))
    there (inl a) = inl a
    there (inr b) = let k = (key_odd c d line).0 b.0 in inr (k.0, (λ t. k.1), b.1)

    back : Contains (root_list L c line) e ⊎ ((c ≡ d) × (IsTrue true → IsTrue line) × (e ≡ x))
        → Contains (root_list L c line) e
        ⊎ ((key c line ≡ 2 * d + 1) × (e ≡ x))
    back (inl a) = inl a
    back (inr b) = inr ((key_odd c d line).1 (b.0, b.1 refl), b.2)

pub added_anywhere : (L M L' : List (List ℕ)) (d x : ℕ) → 2 * d + 1 < length L → 2 * d + 1 < length M
    → PutsIn L M (2 * d) x → PutsIn M L' (2 * d + 1) x → AddsIn L L' d false x
added_anywhere L M L' d x less less' is is' c line e = (λ h. there (q.0 h), λ h. q.1 (back h))
  where
    p : Contains (root_list M c line) e ↔ (Contains (root_list L c line) e ⊎ ((key c line ≡ 2 * d) × (e ≡ x)))
    p = put_each L M (2 * d) x (omega arith) is (key c line) e

    q : Contains (root_list L' c line) e ↔ (Contains (root_list M c line) e ⊎ ((key c line ≡ 2 * d + 1) × (e ≡ x)))
    q = put_each M L' (2 * d + 1) x less' is' (key c line) e

    from : Contains (root_list L c line) e ⊎ ((key c line ≡ 2 * d) × (e ≡ x)) → Contains (root_list L c line) e
        ⊎ ((c ≡ d) × (IsTrue false → IsTrue line) × (e ≡ x))
    from (inl a) = inl a
    from (inr b) = let k = (key_even c d line).0 b.0 in inr (k.0, (λ t. cc), b.1)

    there : Contains (root_list M c line) e ⊎ ((key c line ≡ 2 * d + 1) × (e ≡ x)) → Contains (root_list L c line) e
        ⊎ ((c ≡ d) × (IsTrue false → IsTrue line) × (e ≡ x))
    there (inl a) = from (p.0 a)
    there (inr b) = let k = (key_odd c d line).0 b.0 in inr (k.0, (λ t. cc), b.1)

    either_key : (b : Bool) → line ≡ b → (c ≡ d) → (e ≡ x) → Contains (root_list M c line) e
        ⊎ ((key c line ≡ 2 * d + 1) × (e ≡ x))
    either_key true t k s = inr ((key_odd c d line).1 (k, t), s)
    either_key false t k s = inl (p.1 (inr ((key_even c d line).1 (k, t), s)))

    back : Contains (root_list L c line) e ⊎ ((c ≡ d) × (IsTrue false → IsTrue line) × (e ≡ x))
        → Contains (root_list M c line) e
        ⊎ ((key c line ≡ 2 * d + 1) × (e ≡ x))
    back (inl a) = inl (p.1 (inl a))
    back (inr b) = either_key line refl b.0 b.2

pub put_length : (L L' : List (List ℕ)) (k x : ℕ) → PutsIn L L' k x → length L' ≡ length L
put_length L L' k x is = ap length is ∙ length-set L k (get_or L k [] ++ x ∷ [])

pub within_trans : (L M N : List (List ℕ)) (x : ℕ) → StaysWithin L M x → StaysWithin M N x → StaysWithin L N x
within_trans L M N x f g n l all = g n l (f n l all)

-- one more condition
pub each_more : (L M N : List (List ℕ)) (n : ℕ) (done done' : List ℕ) (d : ℕ) (b : Bool) (x : ℕ)
    → AddsInEach L M n done b x → AddsIn M N d b x → done' ≡ done ++ d ∷ [] → AddsInEach L N n done' b x
each_more L M N n done done' d b x f g is c line e l
    = rw is (λ h. there ((g c line e).0 h), λ h. (g c line e).1 (back h))
  where
    so_far : Contains (root_list L c line) e ⊎ (Contains done c × (IsTrue b → IsTrue line) × (e ≡ x))
        → Contains (root_list L c line) e ⊎ (Contains (done ++ d ∷ []) c × (IsTrue b → IsTrue line) × (e ≡ x))
    so_far (inl h) = inl h
    so_far (inr h) = inr (Contains-append_left done (d ∷ []) c h.0, h.1, h.2)

    there : Contains (root_list M c line) e ⊎ ((c ≡ d) × (IsTrue b → IsTrue line) × (e ≡ x))
        → Contains (root_list L c line) e
        ⊎ (Contains (done ++ d ∷ []) c × (IsTrue b → IsTrue line) × (e ≡ x))
    there (inl h) = so_far ((f c line e l).0 h)
    there (inr h) = inr (subst (λ k. Contains (done ++ d ∷ []) k) (sym h.0) (Contains-push done d), h.1, h.2)

    back : Contains (root_list L c line) e ⊎ (Contains (done ++ d ∷ []) c × (IsTrue b → IsTrue line) × (e ≡ x))
        → Contains (root_list M c line) e ⊎ ((c ≡ d) × (IsTrue b → IsTrue line) × (e ≡ x))
    back (inl h) = inl ((f c line e l).1 (inl h))
    back (inr h)
        = elim (Contains-push_cases done d c h.0) [
          | inl a ↦ inl ((f c line e l).1 (inr (a, h.1, h.2)))
          | inr same ↦
              inr (sym same, h.1, h.2)
        ]

pub each_skip : (L M : List (List ℕ)) (n : ℕ) (done done' : List ℕ) (d : ℕ) (b : Bool) (x : ℕ)
    → AddsInEach L M n done b x → n ≤ d → done' ≡ done ++ d ∷ [] → AddsInEach L M n done' b x
each_skip L M n done done' d b x f le is c line e l
    = rw is (λ h. so_far ((f c line e l).0 h), λ h. (f c line e l).1 (back h))
  where
    so_far : Contains (root_list L c line) e ⊎ (Contains done c × (IsTrue b → IsTrue line) × (e ≡ x))
        → Contains (root_list L c line) e ⊎ (Contains (done ++ d ∷ []) c × (IsTrue b → IsTrue line) × (e ≡ x))
    so_far (inl h) = inl h
    so_far (inr h) = inr (Contains-append_left done (d ∷ []) c h.0, h.1, h.2)

    back : Contains (root_list L c line) e ⊎ (Contains (done ++ d ∷ []) c × (IsTrue b → IsTrue line) × (e ≡ x))
        → Contains (root_list L c line) e ⊎ (Contains done c × (IsTrue b → IsTrue line) × (e ≡ x))
    back (inl h) = inl h
    back (inr h) = elim (Contains-push_cases done d c h.0) [
      | inl a ↦ inr (a, h.1, h.2)
      | inr same ↦
          absurd (omega arith)
    ]

-- one more rule
empty_within : (L : List (List ℕ)) (n : ℕ) → ((k : ℕ) → get_or L k [] ≡ []) → All (All (λ p. p < n)) L
empty_within L n none k d l = let e : get_or L k d ≡ [] = get_or_default L k d [] l ∙ none k
    in rw e (All-nil (λ p. p < n))

pub roots_none : (rules : List Rule) (entries : List (Option ℕ)) (conditions bound : ℕ) (L : List (List ℕ))
    → length L ≡ 2 * conditions → ((k : ℕ) → get_or L k [] ≡ []) → AreRoots rules entries [] conditions bound L
roots_none rules entries conditions bound L count none = record {
  count = count;
  within = empty_within L bound none;
  each = λ c line e l. (
    λ h. let at = none (key c line)
        in Contains-none e (subst (λ (xs : List ℕ). Contains xs e) at h),
    λ h. Contains-none h.0 h.2,
  );
}

later : (rules : List Rule) (entries : List (Option ℕ)) (done : List ℕ) (n c : ℕ) (line : Bool) (e : ℕ)
    → BeginsIn rules entries done c line e → BeginsIn rules entries (done ++ n ∷ []) c line e
later rules entries done n c line e h = (h.0, h.1, Contains-append_left done (n ∷ []) h.0 h.2, h.3, h.4)

pub roots_skip : (rules : List Rule) (entries : List (Option ℕ)) (done : List ℕ) (n conditions bound : ℕ)
    (L : List (List ℕ)) → AreRoots rules entries done conditions bound L → get_or entries n None ≡ None
    → AreRoots rules entries (done ++ n ∷ []) conditions bound L
roots_skip rules entries done n conditions bound L h none = record {
  count = h.count;
  within = h.within;
  each = λ c line e l. (
    λ k. later rules entries done n c line e ((h.each c line e l).0 k),
    λ k. (h.each c line e l).1 (earlier c line e k),
  );
}
  where
    earlier : (c : ℕ) (line : Bool) (e : ℕ) → BeginsIn rules entries (done ++ n ∷ []) c line e
        → BeginsIn rules entries done c line e
    earlier c line e k = elim (Contains-push_cases done n k.0 k.2) [
      | inl old ↦ (k.0, k.1, old, k.3, k.4)
      | inr same ↦ let at : get_or entries n None ≡ Some e = ap (λ i. get_or entries i None) same ∙ k.4 in cc
    ]

pub roots_more : (rules : List Rule) (entries : List (Option ℕ)) (done : List ℕ) (n conditions bound : ℕ)
    (L M : List (List ℕ)) (r : Rule) (x : ℕ) → AreRoots rules entries done conditions bound L
    → slice_get rules n ≡ Some r → get_or entries n None ≡ Some x → x < bound
    → length M ≡ length L → StaysWithin L M x → AddsInEach L M conditions (active_of r) r.pattern.line_start x
    → AreRoots rules entries (done ++ n ∷ []) conditions bound M
roots_more rules entries done n conditions bound L M r x h is at less count stays added = record {
  count = count ∙ h.count;
  within = stays bound less h.within;
  each = λ c line e l. (λ k. there c line e ((added c line e l).0 k) l, λ k. (added c line e l).1 (back c line e l k));
}
  where
    there : (c : ℕ) (line : Bool) (e : ℕ) → Contains (root_list L c line) e
        ⊎ (Contains (active_of r) c × (IsTrue r.pattern.line_start → IsTrue line) × (e ≡ x)) → c < conditions
        → BeginsIn rules entries (done ++ n ∷ []) c line e
    there c line e (inl k) l = later rules entries done n c line e ((h.each c line e l).0 k)
    there c line e (inr k) l = (
      n,
      r,
      Contains-push done n,
      record { is_rule = is; in_condition = k.0; at_line = k.1 },
      at ∙ ap (λ z. Some z) (sym k.2),
    )

    back : (c : ℕ) (line : Bool) (e : ℕ) → c < conditions → BeginsIn rules entries (done ++ n ∷ []) c line e
        → Contains (root_list L c line) e ⊎ (Contains (active_of r) c × (IsTrue r.pattern.line_start → IsTrue line)
        × (e ≡ x))
    back c line e l k = elim (Contains-push_cases done n k.0 k.2) [
      | inl old ↦ inl ((h.each c line e l).1 (k.0, k.1, old, k.3, k.4))
      | inr same ↦
          let one : k.1 ≡ r = let a : slice_get rules n ≡ Some k.1 = ap (λ i. slice_get rules i) same
          ∙ k.3.is_rule in cc
          in
          let two : e ≡ x = let a : get_or entries n None ≡ Some e = ap (λ i. get_or entries i None) same ∙ k.4
          in cc in
          inr (
            subst (λ (q : Rule). Contains (active_of q) c) one k.3.in_condition,
            subst (λ (q : Rule). (IsTrue q.pattern.line_start → IsTrue line)) one k.3.at_line,
            two,
          )
    ]

-- one more list
pub lists_more : (P : List ℕ → List ℕ → Type 0) (L S S' : List (List ℕ)) (n : ℕ) (list : List ℕ) → length S ≡ n
    → ((k : ℕ) → k < n → P (get_or L k []) (get_or S k [])) → P (get_or L n []) list → S' ≡ S ++ list ∷ []
    → (k : ℕ) → k < n + 1 → P (get_or L k []) (get_or S' k [])
lists_more P L S S' n list count old new is k l = rw is (elim (cases_lt k n) [
  | inl m ↦ rw (get_or_append_left S (list ∷ []) [] k (omega arith)) (old k m)
  | inr m ↦ let same : n ≡ k = omega arith
      in subst (λ i. P (get_or L i []) (get_or (S ++ list ∷ []) i [])) same
      (rw (get_or_push S list [] n count) new)
])

key_below : (c n : ℕ) (line : Bool) → c < n → key c line < 2 * n
key_below c n true l = omega arith
key_below c n false l = omega arith

-- of all rules, in whichever order they came
all_begin : (rules : List Rule) (entries : List (Option ℕ)) (numbers : List ℕ) (c : ℕ) (line : Bool) (e : ℕ)
    → AreBelow (length rules) numbers
    → BeginsIn rules entries numbers c line e ↔ BeginsBefore rules entries (length rules) c line e
all_begin rules entries numbers c line e are = (
  λ h. (h.0, h.1, All-contains (λ i. i < length rules) numbers h.0 are.within h.2, h.3, h.4),
  λ h. (h.0, h.1, are.all h.0 h.2, h.3, h.4),
)

pub starts_all : (g : List ProgramStep) (rules : List Rule) (entries : List (Option ℕ)) (numbers : List ℕ)
    (conditions bound : ℕ) (L S : List (List ℕ)) → AreBelow (length rules) numbers
    → AreRoots rules entries numbers conditions bound L → length S ≡ length L
    → ((k : ℕ) → k < length L → IsReachList g (get_or L k []) (get_or S k [])) → StartsAt g rules entries conditions S
starts_all g rules entries numbers conditions bound L S are roots count each = record {
  count = count ∙ roots.count;
  each = λ k l. (get_or L k [], each k (omega arith));
  begin = λ c line l. (
    root_list L c line,
    each (key c line) (omega (arith, key_below c conditions line l, roots.count)),
    λ e. let all = all_begin rules entries numbers c line e are in let at = roots.each c line e l
        in (λ k. all.0 (at.0 k), λ k. at.1 (all.1 k)),
  );
}

-- numbers that are in one of two lists
abbrev pub EachIn : ℕ → List ℕ → List ℕ → Type 0
EachIn n xs ys = (i : ℕ) → i < n → Contains xs i ⊎ Contains ys i

pub each_left : (n : ℕ) (xs ys : List ℕ) → EachIn n xs ys → EachIn (n + 1) (xs ++ n ∷ []) ys
each_left n xs ys each i l = elim (cases_lt i n) [
  | inl less ↦ elim (each i less) [ inl a ↦ inl (Contains-append_left xs (n ∷ []) i a) | inr b ↦ inr b ]
  | inr more ↦ let same : n ≡ i = omega arith
      in inl (subst (λ k. Contains (xs ++ n ∷ []) k) same (Contains-push xs n))
]

pub each_right : (n : ℕ) (xs ys : List ℕ) → EachIn n xs ys → EachIn (n + 1) xs (ys ++ n ∷ [])
each_right n xs ys each i l = elim (cases_lt i n) [
  | inl less ↦ elim (each i less) [ inl a ↦ inl a | inr b ↦ inr (Contains-append_left ys (n ∷ []) i b) ]
  | inr more ↦ let same : n ≡ i = omega arith
      in inr (subst (λ k. Contains (ys ++ n ∷ []) k) same (Contains-push ys n))
]

pub all_below : (n : ℕ) (xs ys : List ℕ) → All (λ i. i < n) xs → All (λ i. i < n) ys → EachIn n xs ys
    → AreBelow n (xs ++ ys)
all_below n xs ys first others each = record {
  within = All-append (λ i. i < n) xs ys first others;
  all = λ i l. elim (each i l) [
    | inl a ↦ Contains-append_left xs ys i a
    | inr b ↦ Contains-append_right xs ys i b
  ];
}
