-- Classes of bytes: how they are named anew, and split by one position after another.
use Rattle.std.proofs.Common.{◌≡◌, ◌≢◌, ◌⊎◌, inl, inr, ℕ, zero, suc, ◌+◌, ◌*◌, ◌<◌, ◌≤◌, List, length, Bool, true}
use Rattle.std.proofs.Common.{false}
use Rattle.std.proofs.Common.{Option, Some, None, refl, sym, ap, ◌∙◌, subst, arith, set, get_or-set_same}
use Rattle.std.proofs.Common.{get_or-set_other, below_more, get_or, slice_get, Contains, [], ◌∷◌, ◌++◌}
use Rattle.std.specs.Prelude.{if◌then◌else◌, ◌↔◌, map}
use mir.Val.{bool_byte}
use Rattle.std.proofs.lemmas.Bool.{cases_eq, cases_lt}
use Rattle.std.proofs.lemmas.Option.{same_Some, get_or_from_slice_get}
use Rattle.std.proofs.lemmas.List.{get_or_append_left, get_or_push, get_or_read, get_or-map, get_or_past, length_push}
use Rattle.std.proofs.lemmas.List.{length-map}
use Rattle.ly_base.proofs.ByteSetLemmas.{members_contain}
use Rattle.ly_base.proofs.MemberLemmas.{Contains-none}
use Rattle.ly_position.specs.Nfa.{Nfa, ReadsByte, bytes_of, follow_of, position_of}
use Rattle.ly_position.specs.Nfa as nfa
use Rattle.ly_position.specs.Position.{position_from}
use Rattle.ly_position.specs.declared.nfa.Position.{Position}
use Rattle.ly_position.specs.declared.nfa.Position.TheVariants as position
use Rattle.ly_subset.specs.Automaton.{entry_at, AppearInOrder}
use Rattle.ly_subset.specs.Classes.{AreClasses, class_at}
use Rattle.ly_subset.specs.Private.Classes.{AreLeast, AreNamed, AreOrdered, AreUnnamed, IsSplit, IsSplitBy, key_by}
use Rattle.ly_subset.specs.Private.Classes.{reads_in}

-- keys are one where classes and tests are
key_parts : (x y : ℕ) (s t : Bool) → 2 * x + (if s then 1 else 0) ≡ 2 * y + (if t then 1 else 0) → (x ≡ y) × (s ≡ t)
key_parts x y true true e = (omega (arith, e), refl)
key_parts x y false false e = (omega (arith, e), refl)
key_parts x y true false e = absurd (omega (arith, e))
key_parts x y false true e = absurd (omega (arith, e))

-- a test as a number
pub bit_is : (a b : Bool) → a ≡ b → bool_byte a ≡ (if b then 1 else 0)
bit_is true true e = refl
bit_is true false e = cc
bit_is false true e = cc
bit_is false false e = refl

pub bit_small : (b : Bool) → bool_byte b ≤ 1
bit_small true = omega arith
bit_small false = omega arith

-- the key of a byte, as it is worked out
pub key_read : (old class_of : List ℕ) (test : ℕ → Bool) (n read class bit : ℕ) → n < length class_of
    → read ≡ get_or class_of n read → class ≡ read → bit ≡ (if test n then 1 else 0)
    → class_at class_of n ≡ class_at old n → 2 * class + bit ≡ key_by old test n
key_read old class_of test n read class bit l e f g h = let same : class ≡ class_at old n = f
    ∙ get_or_read class_of n read l e 0 ∙ h in omega (arith, same, g)

-- at the start nothing is named
pub named_none : (key : ℕ → ℕ) (class_of : List ℕ) (names : List (Option ℕ)) → AreUnnamed names
    → AreNamed key 0 class_of names 0
named_none key class_of names none = record {
  named = λ k l. absurd (omega (arith, l));
  comes = λ j c e. absurd (let off : None ≡ Some c = sym (none j) ∙ e in cc);
  one = λ i j c e f. absurd (let off : None ≡ Some c = sym (none i) ∙ e in cc);
  below = λ j c e. absurd (let off : None ≡ Some c = sym (none j) ∙ e in cc);
  each = λ c l. absurd (omega (arith, l));
  in_order = λ k t l e. absurd (omega (arith, l));
  few = omega arith;
}

module _ (key : ℕ → ℕ) (n : ℕ) (class_of : List ℕ) (names : List (Option ℕ)) (count : ℕ) (fits : n < length class_of)
    (so : AreNamed key n class_of names count) where
  earlier : (c k : ℕ) → k < n → class_at (set class_of n c) k ≡ class_at class_of k
  earlier c k l = get_or-set_other class_of n k c 0 (λ e. absurd (omega (arith, l, e)))

  here : (c : ℕ) → class_at (set class_of n c) n ≡ c
  here c = get_or-set_same class_of n c 0 fits

  each_more : (d c : ℕ) → ((k : ℕ) × (k < n) × (class_at class_of k ≡ c))
      → (k : ℕ) × (k < n + 1) × (class_at (set class_of n d) k ≡ c)
  each_more d c h = (h.0, omega (arith, h.1), earlier d h.0 h.1 ∙ h.2)

  order_more : (d : ℕ) → ((t : ℕ) → d ≡ suc t → (j : ℕ) × (j < n) × (class_at class_of j ≡ t)) → (k t : ℕ) → k < n + 1
      → class_at (set class_of n d) k ≡ suc t → (j : ℕ) × (j < k) × (class_at (set class_of n d) j ≡ t)
  order_more d new k t l e = elim (cases_lt k n) [
    | inl before ↦ let h = so.in_order k t before (sym (earlier d k before) ∙ e) in
        let less : h.0 < n = omega (arith, h.1, before) in
        (h.0, h.1, earlier d h.0 less ∙ h.2)
    | inr past ↦ let same : k ≡ n = omega arith in
        let h = new t (sym (here d) ∙ ap (class_at (set class_of n d)) (sym same) ∙ e) in
        (h.0, omega (arith, h.1, same), earlier d h.0 h.1 ∙ h.2)
  ]

  -- a byte whose key has a name gets it
  pub named_known : (c : ℕ) → entry_at names (key n) ≡ Some c → AreNamed key (n + 1) (set class_of n c) names count
  named_known c e = record {
    named = below_more (λ k. entry_at names (key k) ≡ Some (class_at (set class_of n c) k)) n
        (λ k l. so.named k l ∙ ap (λ x. Some x) (sym (earlier c k l))) (e ∙ ap (λ x. Some x) (sym (here c)));
    comes = λ j d f. let h = so.comes j d f in (h.0, omega (arith, h.1), h.2);
    one = so.one;
    below = so.below;
    each = λ d l. each_more c d (so.each d l);
    in_order = order_more c (λ t f. let at = so.comes (key n) c e in
        let same : class_at class_of at.0 ≡ c = same_Some _ _ (sym (so.named at.0 at.1) ∙ ap (entry_at names) at.2
        ∙ e) in
        let h = so.in_order at.0 t at.1 (same ∙ f) in
        (h.0, omega (arith, h.1, at.1), h.2));
    few = let few = so.few in omega (arith, few);
  }

  module _ (room : key n < length names) (none : entry_at names (key n) ≡ None) where
    other : (j : ℕ) → j ≢ key n → entry_at (set names (key n) (Some count)) j ≡ entry_at names j
    other j ne = get_or-set_other names (key n) j (Some count) None ne

    given : entry_at (set names (key n) (Some count)) (key n) ≡ Some count
    given = get_or-set_same names (key n) (Some count) None room

    apart : (j c : ℕ) → entry_at names j ≡ Some c → j ≢ key n
    apart j c e same = let off : None ≡ Some c = sym none ∙ ap (entry_at names) (sym same) ∙ e in cc

    -- what has a name afterwards had it before, or is the key
    was : (j c : ℕ) → entry_at (set names (key n) (Some count)) j ≡ Some c
        → (entry_at names j ≡ Some c) ⊎ ((j ≡ key n) × (c ≡ count))
    was j c e = elim (cases_eq j (key n)) [
      | inl same ↦ inr (same, same_Some c count (sym e ∙ ap (entry_at (set names (key n) (Some count))) same ∙ given))
      | inr ne ↦ inl (sym (other j ne) ∙ e)
    ]

    one_more : (i j c : ℕ) → (entry_at names i ≡ Some c) ⊎ ((i ≡ key n) × (c ≡ count))
        → (entry_at names j ≡ Some c) ⊎ ((j ≡ key n) × (c ≡ count)) → i ≡ j
    one_more i j c (inl e) (inl f) = so.one i j c e f
    one_more i j c (inl e) (inr f) = absurd (omega (arith, so.below i c e, f.1))
    one_more i j c (inr e) (inl f) = absurd (omega (arith, so.below j c f, e.1))
    one_more i j c (inr e) (inr f) = e.0 ∙ sym f.0

    -- a byte whose key has none gets the next one
    pub named_new : AreNamed key (n + 1) (set class_of n count) (set names (key n) (Some count)) (count + 1)
    named_new = record {
      named = below_more (λ k. entry_at (set names (key n) (Some count)) (key k)
          ≡ Some (class_at (set class_of n count) k)) n
          (λ k l. other (key k) (apart (key k) _ (so.named k l)) ∙ so.named k l
          ∙ ap (λ x. Some x) (sym (earlier count k l)))
          (given ∙ ap (λ x. Some x) (sym (here count)));
      comes = λ j c e. elim (was j c e) [
        | inl before ↦ let h = so.comes j c before in (h.0, omega (arith, h.1), h.2)
        | inr now ↦ (n, omega arith, sym now.0)
      ];
      one = λ i j c e f. one_more i j c (was i c e) (was j c f);
      below = λ j c e. elim (was j c e) [
        | inl before ↦ omega (arith, so.below j c before)
        | inr now ↦ omega (arith, now.1)
      ];
      each = λ c l. elim (cases_lt c count) [
        | inl less ↦ each_more count c (so.each c less)
        | inr past ↦ (n, omega arith, here count ∙ let same : count ≡ c = omega arith in same)
      ];
      in_order = order_more count (λ t e. so.each t (omega (arith, e)));
      few = let few = so.few in omega (arith, few);
    }

-- bytes that are all named by class and test are split
pub split_named : (old : List ℕ) (test : ℕ → Bool) (new : List ℕ) (names : List (Option ℕ)) (count : ℕ)
    → length new ≡ 256 → AreNamed (key_by old test) 256 new names count → IsSplit old test new
split_named old test new names count bytes so = record {
  bytes = bytes;
  same = λ a b l m. (
    λ e. key_parts (class_at old a) (class_at old b) (test a) (test b)
        (so.one (key_by old test a) (key_by old test b) (class_at new b)
        (so.named a l ∙ ap (λ x. Some x) e) (so.named b m)),
    λ e. same_Some (class_at new a) (class_at new b) (sym (so.named a l)
        ∙ ap (entry_at names) (let same : key_by old test a ≡ key_by old test b = keys a b e.0 e.1 in same)
        ∙ so.named b m),
  );
  in_order = λ before k t l. so.in_order k t (omega (arith, l, bytes));
}
  where
    keys : (a b : ℕ) → class_at old a ≡ class_at old b → test a ≡ test b → key_by old test a ≡ key_by old test b
    keys a b e f = ap (λ x. 2 * x + (if test a then 1 else 0)) e
        ∙ ap (λ t. 2 * class_at old b + (if t then 1 else 0)) f

-- what passes no byte leaves the classes
pub split_none : (old : List ℕ) → length old ≡ 256 → IsSplit old (λ b. false) old
split_none old bytes = record {
  bytes = bytes;
  same = λ a b l m. (λ e. (e, refl), λ e. e.0);
  in_order = λ before. before;
}

-- a position in memory reads what its position does
pub reads_as : (n : Nfa) (p : ℕ) (place : Position) (b : ℕ) → b < 256
    → slice_get n.positions p ≡ Some (position_from place (follow_of (position_of n p)))
    → ReadsByte n p b ↔ (reads_in place b ≡ true)
reads_as n p place b l e
    = subst (λ (x : nfa.Position). Contains (bytes_of x) b ↔ (reads_in place b ≡ true)) (sym there) (by place)
  where
    there : position_of n p ≡ position_from place (follow_of (position_of n p))
    there = get_or_from_slice_get n.positions p _ (nfa.reading [] []) e

    by : (place : Position)
        → Contains (bytes_of (position_from place (follow_of (position_of n p)))) b ↔ (reads_in place b ≡ true)
    by (position.Reads bytes) = (λ h. ((members_contain bytes b).0 h).1, λ h. (members_contain bytes b).1 (l, h))
    by (position.Ends rule) = (λ h. Contains-none b h, λ h. absurd (cc))

-- no position reads the byte: not of those that there are, and there are no others
pub read_by_none : (n : Nfa) (count b : ℕ) → length n.positions ≤ count → ((p : ℕ) → p < count → ReadsByte n p b → ⊥)
    → (p : ℕ) → ReadsByte n p b → ⊥
read_by_none n count b all none p h = elim (cases_lt p count) [
  | inl less ↦ none p less h
  | inr past ↦ Contains-none b (subst (λ (x : nfa.Position). Contains (bytes_of x) b)
      (get_or_past n.positions p (nfa.reading [] []) (omega arith)) h)
]

same_tests : (s t : Bool) → (s ≡ true) ↔ (t ≡ true) → s ≡ t
same_tests true t h = sym (h.0 refl)
same_tests false true h = h.1 refl
same_tests false false h = refl

-- a position reads bytes
reads_byte : (n : Nfa) (p : ℕ) (place : Position) (b : ℕ)
    → slice_get n.positions p ≡ Some (position_from place (follow_of (position_of n p))) → ReadsByte n p b → b < 256
reads_byte n p place b e h = by place (subst (λ (x : nfa.Position). Contains (bytes_of x) b)
    (get_or_from_slice_get n.positions p (position_from place (follow_of (position_of n p))) (nfa.reading [] []) e) h)
  where
    by : (place : Position) → Contains (bytes_of (position_from place (follow_of (position_of n p)))) b → b < 256
    by (position.Reads bytes) h = ((members_contain bytes b).0 h).0
    by (position.Ends rule) h = Contains-none b h

-- all bytes are of one class before any position splits them
pub split_by_none : (n : Nfa) (class_of : List ℕ) → length class_of ≡ 256 → ((b : ℕ) → b < 256
    → class_at class_of b ≡ 0)
    → IsSplitBy n 0 class_of
split_by_none n class_of bytes zeros = record {
  bytes = bytes;
  same = λ a b l m. (λ e p less. absurd (omega (arith, less)), λ h. zeros a l ∙ sym (zeros b m));
  in_order = λ k t l e. absurd (omega (arith, e, zeros k (omega (arith, l, bytes))));
  read = λ p b l. absurd (omega (arith, l));
}

-- one position more splits them
pub split_by_more : (n : Nfa) (p : ℕ) (old new : List ℕ) (place : Position)
    → slice_get n.positions p ≡ Some (position_from place (follow_of (position_of n p))) → IsSplitBy n p old
    → IsSplit old (reads_in place) new → IsSplitBy n (p + 1) new
split_by_more n p old new place there before split = record {
  bytes = split.bytes;
  same = λ a b l m. (
    λ e. let both = (split.same a b l m).0 e in
        below_more (λ q. ReadsByte n q a ↔ ReadsByte n q b) p ((before.same a b l m).0 both.0)
        (let ra = reads_as n p place a l there in let rb = reads_as n p place b m there in
        (λ h. rb.1 (sym both.1 ∙ ra.0 h), λ h. ra.1 (both.1 ∙ rb.0 h))),
    λ h. let ra = reads_as n p place a l there in let rb = reads_as n p place b m there in
        (split.same a b l m).1 (
          (before.same a b l m).1 (λ q less. h q (omega (arith, less))),
          same_tests _ _ (λ e. rb.0 ((h p (omega arith)).0 (ra.1 e)), λ e. ra.0 ((h p (omega arith)).1 (rb.1 e))),
        ),
  );
  in_order = split.in_order before.in_order;
  read = λ q b l. below_more (λ r. ReadsByte n r b → b < 256) p (λ r less. before.read r b less)
      (reads_byte n p place b there)
      q l;
}

-- no position past the last reads a byte
reads_none : {A : Type 0} (n : Nfa) (p b : ℕ) → length n.positions ≤ p → ReadsByte n p b → A
reads_none n p b l h = let past : position_of n p ≡ nfa.reading [] [] = get_or_past n.positions p
    (nfa.reading [] []) l in
    Contains-none b (subst (λ (x : nfa.Position). Contains (bytes_of x) b) past h)

-- numbered in the order of the bytes
appear : (class_of : List ℕ) → AreOrdered class_of → AppearInOrder (map (λ c. Some c) class_of)
appear class_of ordered k t e = elim (cases_lt k (length class_of)) [
  | inl less ↦ let h = ordered k t less (same_Some _ _ (sym (at k less) ∙ e)) in
      (h.0, h.1, at h.0 (omega (arith, h.1, less)) ∙ ap (λ c. Some c) h.2)
  | inr past ↦ absurd (let off : None ≡ Some (suc t)
      = sym (get_or_past (map (λ c. Some c) class_of) k None (rw length-map past)) ∙ e in cc)
]
  where
    at : (j : ℕ) → j < length class_of → entry_at (map (λ c. Some c) class_of) j ≡ Some (class_at class_of j)
    at j l = get_or-map (λ c. Some c) class_of j 0 None l

-- bytes that all positions have split, and the least of each class, are the classes
pub classes_of : (n : Nfa) (class_of least : List ℕ) → IsSplitBy n (length n.positions) class_of
    → AreLeast class_of least → AreClasses n class_of (length least)
classes_of n class_of least split are_least = record {
  bytes = split.bytes;
  alike = λ a b l m. (
    λ e p. elim (cases_lt p (length n.positions)) [
      | inl less ↦ (split.same a b l m).0 e p less
      | inr past ↦ (λ h. reads_none n p a past h, λ h. reads_none n p b past h)
    ],
    λ h. (split.same a b l m).1 (λ p less. h p),
  );
  within = are_least.within;
  used = λ c l. (get_or least c 0, are_least.byte c l, are_least.in_class c l);
  in_order = appear class_of split.in_order;
  read = λ p b h. elim (cases_lt p (length n.positions)) [
    | inl less ↦ split.read p b less h
    | inr past ↦ reads_none n p b past h
  ];
}

-- The classes of the first n bytes have their least bytes.
pub record IsLeastOf (class_of : List ℕ) (n : ℕ) (least : List ℕ) : Type 0 where
  pub within : (b : ℕ) → b < n → class_at class_of b < length least
  pub byte : (c : ℕ) → c < length least → get_or least c 0 < n
  pub in_class : (c : ℕ) → c < length least → class_at class_of (get_or least c 0) ≡ c

-- a byte of a new class is its least
pub least_new : (class_of : List ℕ) (n : ℕ) (least : List ℕ) → IsLeastOf class_of n least
    → class_at class_of n ≡ length least → IsLeastOf class_of (n + 1) (least ++ n ∷ [])
least_new class_of n least so e = record {
  within = below_more (λ b. class_at class_of b < length (least ++ n ∷ [])) n
      (λ b l. rw (length_push least n) (omega (arith, so.within b l))) (rw (length_push least n) (omega (arith, e)));
  byte = λ c l. elim (cases_lt c (length least)) [
    | inl less ↦ rw (get_or_append_left least (n ∷ []) 0 c less) (omega (arith, so.byte c less))
    | inr past ↦ rw (get_or_push least n 0 c (last c l past)) (omega arith)
  ];
  in_class = λ c l. elim (cases_lt c (length least)) [
    | inl less ↦ rw (get_or_append_left least (n ∷ []) 0 c less) (so.in_class c less)
    | inr past ↦ rw (get_or_push least n 0 c (last c l past)) (e ∙ last c l past)
  ];
}
  where
    last : (c : ℕ) → c < length (least ++ n ∷ []) → length least ≤ c → length least ≡ c
    last c l past = omega (arith, l, length_push least n, past)

-- a byte of no new class is of one before
pub least_old : (class_of : List ℕ) (n : ℕ) (least : List ℕ) → n < length class_of → AreOrdered class_of
    → IsLeastOf class_of n least → class_at class_of n ≢ length least → IsLeastOf class_of (n + 1) least
least_old class_of n least fits ordered so ne = record {
  within = below_more (λ b. class_at class_of b < length least) n so.within (known (class_at class_of n) refl);
  byte = λ c l. omega (arith, so.byte c l);
  in_class = so.in_class;
}
  where
    known : (c : ℕ) → class_at class_of n ≡ c → class_at class_of n < length least
    known zero e = omega (arith, e, ne)
    known (suc t) e = let h = ordered n t fits e in omega (arith, so.within h.0 h.1, h.2, e, ne)

pub least_none : (class_of : List ℕ) → IsLeastOf class_of 0 []
least_none class_of = record {
  within = λ b l. absurd (omega (arith, l));
  byte = λ c l. absurd (omega (arith, l));
  in_class = λ c l. absurd (omega (arith, l));
}

pub least_all : (class_of : List ℕ) (n : ℕ) (least : List ℕ) → n ≡ 256 → IsLeastOf class_of n least
    → AreLeast class_of least
least_all class_of n least e so = record {
  within = λ b l. so.within b (omega (arith, l, e));
  byte = λ c l. omega (arith, so.byte c l, e);
  in_class = so.in_class;
}
