-- Lemmas on sets whose members stand in the order in which they came.
use Rattle.std.proofs.Common.{◌≡◌, ◌≢◌, ℕ, ◌+◌, ◌^◌, ◌<◌, ◌≤◌, ◌++◌, List, [], ◌∷◌, length, take, get_or, set, nat_eq}
use Rattle.std.proofs.Common.{eqb, eqb-true, Bool, not, true, false, ap, sym, subst, ◌∙◌, arith, inl, inr, ◌⊎◌}
use Rattle.std.proofs.Common.{length-set, length-take-le, length-append, get_or-take, get_or-set_same, get_or-set_other}
use Rattle.std.proofs.Common.{All, Contains}
use Rattle.std.specs.Prelude.{AllPairs}
use Rattle.std.specs.List.{list_any, IsDistinct}
use Rattle.std.specs.Cmp.{nat_eq_equiv}
use Rattle.std.proofs.lemmas.Bool.{cases_Bool, cases_eq, eq-eqb, false_from_ne_true, ne_eqb, not-false, not-true}
use Rattle.std.proofs.lemmas.Bool.Decides.{Decides-eqb}
use Rattle.std.proofs.lemmas.List.{get_or_default, get_or_read, take_more_set}
use Rattle.std.proofs.lemmas.List.Elements.{All-contains, All-from_get_or, All-push, Contains-append_left}
use Rattle.std.proofs.lemmas.List.Elements.{Contains-push, Contains-push_cases}
use Rattle.std.proofs.lemmas.List.Folds.{list_any_at}
use Rattle.std.proofs.lemmas.Map.Keys.{IsDistinct-push}
use Rattle.std.proofs.lemmas.Map.Made.{IsDistinct-from_AllPairs}
use Rattle.std.proofs.lemmas.Map.Steps.{length-le_from_distinct_below}
use Rattle.std.proofs.lemmas.Map.Views.{Contains-from_any}
use Rattle.ly_base.specs.declared.sparse_set.SparseSet.TheInside.{Inside}
use Rattle.ly_base.specs.SparseSet.{Chosen, chosen, IsPlaced, with_member, with_members}
use Rattle.ly_base.proofs.MemberLemmas.{SameMembers, Contains-cons_cases, Contains-first, Contains-later, Contains-none}

-- a member's known place is in use, and the member stands there
found : (slots places : List ℕ) (size n : ℕ) → IsPlaced slots places size → list_any (nat_eq n) (take size slots) ≡ true
    → (get_or places n 0 < size) × (get_or slots (get_or places n 0) 0 ≡ n)
found slots places size n placed h =
    let p = Contains-from_any eqb-true n (take size slots) h in
    let within : p.0 < size = let room = placed.room in omega (arith, length-take-le size slots room, p.1) in
    let there : get_or slots p.0 0 ≡ n = sym (get_or-take size slots p.0 0 within)
    ∙ get_or_default (take size slots) p.0 0 n p.1 ∙ p.2 in
    let known : get_or places n 0 ≡ p.0 = ap (λ m. get_or places m 0) (sym there) ∙ placed.placed p.0 within in
    (omega (arith, known, within), ap (λ k. get_or slots k 0) known ∙ there)

-- a number whose place is in use is a member if it stands there
pub is_member : (slots places members : List ℕ) (size n place at : ℕ) → IsPlaced slots places size
    → take size slots ≡ members → n < length places
    → place ≡ get_or places n place → place < size → at ≡ get_or slots place at
    → nat_eq at n ≡ list_any (nat_eq n) members
is_member slots places members size n place at placed view less read used stands = rw (← view) (elim (cases_eq at n) [
  | inl same ↦ eq-eqb at n same
      ∙ sym (list_any_at (nat_eq n) (take size slots) place 0 within
      (eq-eqb n (get_or (take size slots) place 0) (sym (get_or-take size slots place 0 used ∙ sym there ∙ same))))
  | inr other ↦ ne_eqb at n other
      ∙ sym (false_from_ne_true (list_any (nat_eq n) (take size slots))
      (λ h. other (there ∙ ap (λ k. get_or slots k 0) known ∙ (found slots places size n placed h).1)))
])
  where
    room : size ≤ length slots
    room = placed.room

    within : place < length (take size slots)
    within = omega (arith, length-take-le size slots room)

    known : place ≡ get_or places n 0
    known = get_or_read places n place less read 0

    there : at ≡ get_or slots place 0
    there = get_or_read slots place at (omega (arith, room)) stands 0

-- a number whose place is not in use is no member
pub is_no_member : (slots places members : List ℕ) (size n place : ℕ) → IsPlaced slots places size
    → take size slots ≡ members → n < length places
    → place ≡ get_or places n place → size ≤ place → list_any (nat_eq n) members ≡ false
is_no_member slots places members size n place placed view less read unused
    = rw (← view) (false_from_ne_true (list_any (nat_eq n) (take size slots))
    (λ h. absurd (omega (arith, get_or_read places n place less read 0, (found slots places size n placed h).0))))

-- each member stands in one slot only
members_once : (slots places : List ℕ) (size : ℕ) → IsPlaced slots places size
    → AllPairs (λ m n. m ≢ n) (take size slots)
members_once slots places size placed i j d before within same =
    let one : i ≡ j = sym (placed.placed i (omega (arith, long)))
    ∙ ap (λ m. get_or places m 0) (sym (at i (omega (arith, long))) ∙ same ∙ at j (omega (arith, long)))
    ∙ placed.placed j (omega (arith, long)) in
    absurd (omega (arith, one, before))
  where
    long : length (take size slots) ≡ size
    long = length-take-le size slots placed.room

    at : (k : ℕ) → k < size → get_or (take size slots) k d ≡ get_or slots k 0
    at k used = get_or_default (take size slots) k d 0 (omega (arith, long)) ∙ get_or-take size slots k 0 used

-- members below a bound leave room below it for a number that isn't one
room_below : (slots places members : List ℕ) (size n bound : ℕ) → IsPlaced slots places size
    → take size slots ≡ members → ((k : ℕ) → k < size → get_or slots k 0 < bound) → n < bound
    → list_any (nat_eq n) members ≡ false → size < bound
room_below slots places members size n bound placed view below less new =
    let distinct : IsDistinct eqb more
    = IsDistinct-push nat_eq_equiv (take size slots) n (IsDistinct-from_AllPairs Decides-eqb (take size slots)
    (members_once slots places size placed)) (rw view new) in
    let count : length more ≤ bound = length-le_from_distinct_below more bound distinct
    (λ q h. All-contains (λ m. m < bound) more q
    (All-push (λ m. m < bound) (take size slots) n each less) (Contains-from_any eqb-true q more h)) in
    omega (arith, length-append (take size slots) (n ∷ []), long)
  where
    more : List ℕ
    more = take size slots ++ n ∷ []

    long : length (take size slots) ≡ size
    long = length-take-le size slots placed.room

    each : All (λ m. m < bound) (take size slots)
    each = All-from_get_or (λ m. m < bound) (take size slots) 0
        (λ i within. rw (get_or-take size slots i 0 (omega (arith, long))) (below i (omega (arith, long))))

-- one more member in the next slot, with its place
pub placed_more : (slots places : List ℕ) (size n : ℕ) → IsPlaced slots places size → n < length places
    → n < 2 ^ 32 → list_any (nat_eq n) (take size slots) ≡ false → size < length slots
    → IsPlaced (set slots size n) (set places n size) (size + 1)
placed_more slots places size n placed less number new room = record {
  same_bound = length-set slots size n ∙ placed.same_bound ∙ sym (length-set places n size);
  room = omega (arith, length-set slots size n);
  within = λ k used. rw (length-set places n size) (elim (cases_eq k size) [
    | inl last ↦ rw (last, get_or-set_same slots size n 0 room) less
    | inr other ↦ rw (get_or-set_other slots size k n 0 other) (placed.within k (omega (arith, other)))
  ]);
  numbers = λ k used. elim (cases_eq k size) [
    | inl last ↦ rw (last, get_or-set_same slots size n 0 room) number
    | inr other ↦ rw (get_or-set_other slots size k n 0 other) (placed.numbers k (omega (arith, other)))
  ];
  placed = λ k used. elim (cases_eq k size) [
    | inl last ↦ rw (last, get_or-set_same slots size n 0 room) (get_or-set_same places n size 0 less)
    | inr other ↦
        rw (
          get_or-set_other slots size k n 0 other,
          get_or-set_other places n (get_or slots k 0) size 0
              (differs k (omega (arith, other))),
        ) (placed.placed k (omega (arith, other)))
  ];
}
  where
    differs : (k : ℕ) → k < size → get_or slots k 0 ≡ n → ⊥
    differs k used same =
        let within : k < length (take size slots) = omega (arith, length-take-le size slots placed.room) in
        let h : list_any (nat_eq n) (take size slots) ≡ true = list_any_at (nat_eq n) (take size slots) k 0 within
        (eq-eqb n (get_or (take size slots) k 0) (sym (get_or-take size slots k 0 used ∙ same))) in
        cc

-- the members with one more in the next slot
pub members_more : (slots members : List ℕ) (size n : ℕ) → take size slots ≡ members → size < length slots
    → list_any (nat_eq n) members ≡ false
    → take (size + 1) (set slots size n) ≡ with_member members n
members_more slots members size n view room new
    = rw new (take_more_set slots size n room ∙ ap (λ xs. xs ++ n ∷ []) view)

-- a set whose fields are open has room for a number that is not a member
pub room_of : (s : Inside) (now : Chosen) (n : ℕ) → IsPlaced s.slots.items s.places.items s.size → chosen s ≡ now
    → n < now.below → list_any (nat_eq n) now.members ≡ false
    → s.size < length s.slots.items
room_of s now n placed view less new = let members = ap (λ (t : Chosen). t.members) view in omega (
  arith,
  placed.same_bound,
  room_below s.slots.items s.places.items now.members s.size n (length s.places.items) placed members placed.within
      (omega (arith, ap (λ (t : Chosen). t.below) view)) new,
)

-- and its size is a number that a place holds
pub size_of : (s : Inside) (now : Chosen) (n : ℕ) → IsPlaced s.slots.items s.places.items s.size → chosen s ≡ now
    → n < 2 ^ 32 → list_any (nat_eq n) now.members ≡ false → s.size < 2 ^ 32
size_of s now n placed view less new = room_below s.slots.items s.places.items now.members s.size n (2 ^ 32) placed
    (ap (λ (t : Chosen). t.members) view) placed.numbers less new

-- a number that is added, and those before it
pub with_member-old : (ms : List ℕ) (n q : ℕ) → Contains ms q → Contains (with_member ms n) q
with_member-old ms n q h = elim (cases_Bool (list_any (nat_eq n) ms)) [
  | inl has ↦ rw has h
  | inr new ↦ rw new (Contains-append_left ms (n ∷ []) q h)
]

pub with_member-new : (ms : List ℕ) (n : ℕ) → Contains (with_member ms n) n
with_member-new ms n = elim (cases_Bool (list_any (nat_eq n) ms)) [
  | inl has ↦ rw has (Contains-from_any eqb-true n ms has)
  | inr new ↦ rw new (Contains-push ms n)
]

pub with_member-cases : (ms : List ℕ) (n q : ℕ) → Contains (with_member ms n) q → Contains ms q ⊎ (n ≡ q)
with_member-cases ms n q h = elim (cases_Bool (list_any (nat_eq n) ms)) [
  | inl has ↦ inl (rw has at h)
  | inr new ↦ Contains-push_cases ms n q (rw new at h)
]

-- numbers that are added, and those before them
with_members-old : (ms ns : List ℕ) (q : ℕ) → Contains ms q → Contains (with_members ms ns) q
with_members-old ms [] q h = h
with_members-old ms (n ∷ ns) q h = with_members-old (with_member ms n) ns q (with_member-old ms n q h)

with_members-new : (ms ns : List ℕ) (q : ℕ) → Contains ns q → Contains (with_members ms ns) q
with_members-new ms [] q h = Contains-none q h
with_members-new ms (n ∷ ns) q h = elim (Contains-cons_cases n ns q h) [
  | inl same ↦ with_members-old (with_member ms n) ns q (let P : ℕ → Type 0 = λ x. Contains (with_member ms n) x
      in subst P same (with_member-new ms n))
  | inr later ↦ with_members-new (with_member ms n) ns q later
]

with_members-cases : (ms ns : List ℕ) (q : ℕ) → Contains (with_members ms ns) q → Contains ms q ⊎ Contains ns q
with_members-cases ms [] q h = inl h
with_members-cases ms (n ∷ ns) q h = elim (with_members-cases (with_member ms n) ns q h) [
  | inl old ↦ elim (with_member-cases ms n q old) [
    | inl older ↦ inl older
    | inr same ↦ inr (let P : ℕ → Type 0 = λ x. Contains (n ∷ ns) x in subst P same (Contains-first n ns))
  ]
  | inr later ↦ inr (Contains-later n ns q later)
]

-- the set of some numbers has just these
pub with_members-same : (ns : List ℕ) → SameMembers (with_members [] ns) ns
with_members-same ns = record {
  to = λ q h. elim (with_members-cases [] ns q h) [ inl none ↦ Contains-none q none | inr has ↦ has ];
  back = λ q h. with_members-new [] ns q h;
}

-- what an insert leaves, by its answer
pub inserted_old : (old new : Chosen) (n : ℕ) (is_new : Bool) → new ≡ record old { members = with_member old.members n }
    → is_new ≡ not (list_any (nat_eq n) old.members) → is_new ≡ false
    → Contains old.members n × (new.members ≡ old.members)
inserted_old old new n is_new added answered old_one =
    let has : list_any (nat_eq n) old.members ≡ true
    = not-false (list_any (nat_eq n) old.members) (sym answered ∙ old_one) in
    (Contains-from_any eqb-true n old.members has, rw has at (ap (λ (s : Chosen). s.members) added))

pub inserted_new : (old new : Chosen) (n : ℕ) (is_new : Bool) → new ≡ record old { members = with_member old.members n }
    → is_new ≡ not (list_any (nat_eq n) old.members) → is_new ≡ true
    → new.members ≡ old.members ++ n ∷ []
inserted_new old new n is_new added answered new_one =
    let none : list_any (nat_eq n) old.members ≡ false
    = not-true (list_any (nat_eq n) old.members) (sym answered ∙ new_one) in
    rw none at (ap (λ (s : Chosen). s.members) added)
