-- Lists that are packed and unpacked.
use Rattle.std.proofs.Common.{◌≡◌, ◌≢◌, ◌<◌, ◌≤◌, ◌+◌, ◌*◌, ◌/◌, ◌%◌, ◌^◌, ◌∙◌, ◌==◌, ℕ, zero, suc, List, [], ◌∷◌, ◌++◌}
use Rattle.std.proofs.Common.{bit_and, length-drop, Some, drop, get_or, false, refl, sym, ap, subst, arith, inl, inr}
use Rattle.std.proofs.Common.{length, Contains, nat_eq, zero-add}
use Rattle.std.proofs.Math.Seq.{drop-cons}
use Rattle.std.specs.Prelude.{slice_get, AllPairs, ◌-◌, nat_le, if◌then◌else◌}
use Rattle.std.specs.List.{range_with_len}
use Rattle.std.specs.Int.{bit_at, w32}
use Rattle.std.proofs.lemmas.Bool.{cases_eq, cases_lt, eq-eqb, le-leb}
use Rattle.std.proofs.lemmas.List.{append-nil, append_assoc, drop_all, get_or-append-add, get_or_append_left}
use Rattle.std.proofs.lemmas.List.{get_or_past}
use Rattle.std.proofs.lemmas.List.Elements.{All-contains, All-from_get_or, Contains-append_left, Contains-append_right}
use Rattle.std.proofs.lemmas.List.FromFn.{get_or-range_with_len, length-range_with_len}
use Rattle.std.proofs.lemmas.Nat.Bits.{bit_at-lt, bit_at-zero, bit_at_set_same, bit_at_set_other, shr_and_one}
use Rattle.ly_base.proofs.MemberLemmas.{Contains-first}
use Rattle.ly_base.proofs.ListLemmas.{AllPairs-head, AllPairs-tail}
use Rattle.ly_subset.specs.Private.Packed.{AreWords, IsPacked, breaks_from, breaks_of, members_below, members_of, pack}
use Rattle.ly_subset.specs.Private.Packed.{pack_blocks, pack_from, pack_runs, packed_with, run_of, run_with, runs_from}
use Rattle.ly_subset.specs.Private.Packed.{unpack, unpack_by, with_number}
use Rattle.ly_subset.specs.Private.Keys.{IsKeyOf}
use Rattle.ly_subset.specs.declared.packed.Packing.{Packing}
use Rattle.ly_subset.specs.declared.packed.Running.{Running}

-- no bit is set from one on
abbrev pub HasNoneFrom : ℕ → ℕ → Type 0
HasNoneFrom bits j = (i : ℕ) → j ≤ i → i < 32 → bit_at bits i ≡ 0

no_member : (block bits i : ℕ) → bit_at bits i ≡ 0 → members_below block bits (suc i) ≡ members_below block bits i
no_member block bits i e = ap (λ b. members_below block bits i ++ (if b == 1 then (32 * block + i) ∷ [] else [])) e
    ∙ append-nil (members_below block bits i)

a_member : (block bits i : ℕ) → bit_at bits i ≡ 1
    → members_below block bits (suc i) ≡ members_below block bits i ++ (32 * block + i) ∷ []
a_member block bits i e = ap (λ b. members_below block bits i ++ (if b == 1 then (32 * block + i) ∷ [] else [])) e

same_members : (block bits others i : ℕ) → ((k : ℕ) → k < i → bit_at bits k ≡ bit_at others k)
    → members_below block bits i ≡ members_below block others i
same_members block bits others zero same = refl
same_members block bits others (suc i) same =
    ap (λ b. members_below block bits i ++ (if b == 1 then (32 * block + i) ∷ [] else [])) (same i (omega arith))
    ∙ ap (λ ms. ms ++ (if bit_at others i == 1 then (32 * block + i) ∷ [] else []))
    (same_members block bits others i (λ k l. same k (omega (arith, l))))

none_in : (block i : ℕ) → members_below block 0 i ≡ []
none_in block zero = refl
none_in block (suc i) = no_member block 0 i (bit_at-zero i) ∙ none_in block i

module _ (block bits m : ℕ) (here : m / 32 ≡ block) (none : HasNoneFrom bits (m % 32)) where
  kept : (i : ℕ) → i ≢ m % 32 → bit_at (with_number bits m) i ≡ bit_at bits i
  kept i ne = bit_at_set_other w32 bits (m % 32) (omega arith) i ne

  -- a block with one number more, which is above the others
  one_more : (i : ℕ) → m % 32 < i → i ≤ 32 → members_below block (with_number bits m) i
      ≡ members_below block bits i ++ m ∷ []
  one_more zero l le = absurd (omega (arith, l))
  one_more (suc i) l le = elim (cases_eq i (m % 32)) [
    | inl same ↦
        let last : 32 * block + i ≡ m = omega (arith, same, here) in
        let set : bit_at (with_number bits m) i ≡ 1
        = ap (bit_at (with_number bits m)) same ∙ bit_at_set_same w32 bits (m % 32) (omega arith) in
        a_member block (with_number bits m) i set
        ∙ ap (λ n. members_below block (with_number bits m) i ++ n ∷ []) last
        ∙ ap (λ ms. ms ++ m ∷ []) (same_members block (with_number bits m) bits i
        (λ k less. kept k (λ e. omega (arith, less, same, e)))
        ∙ sym (no_member block bits i (none i (omega (arith, same)) (omega (arith, le)))))
    | inr ne ↦
        let off : bit_at bits i ≡ 0 = none i (omega (arith, l, ne)) (omega (arith, le)) in
        no_member block (with_number bits m) i (kept i ne ∙ off)
        ∙ one_more i (omega (arith, l, ne)) (omega (arith, le))
        ∙ ap (λ ms. ms ++ m ∷ []) (sym (no_member block bits i off))
  ]

  -- no bit is set behind it
  none_after : HasNoneFrom (with_number bits m) (suc (m % 32))
  none_after i l less = kept i (λ e. omega (arith, l, e)) ∙ none i (omega (arith, l)) less

-- the first of the numbers that come is above those of the block
abbrev pub ComesNext : ℕ → ℕ → List ℕ → Type 0
ComesNext block bits [] = Unit {0}
ComesNext block bits (m ∷ ms) = m / 32 ≡ block → HasNoneFrom bits (m % 32)

comes_next : (block bits m : ℕ) (ms : List ℕ) → m / 32 ≡ block → HasNoneFrom bits (m % 32)
    → AllPairs (λ a b. a < b) (m ∷ ms) → ComesNext block (with_number bits m) ms
comes_next block bits m [] here none rises = tt
comes_next block bits m (n ∷ ns) here none rises = λ same i l less.
    let above : m < n = AllPairs-head (λ a b. a < b) m n (n ∷ ns) rises (Contains-first n ns) in
    none_after block bits m here none i (omega (arith, l, above, here, same)) less

neq_test : (a b : ℕ) → a ≢ b → nat_eq a b ≡ false
neq_test a b ne = grind arith

unpack_from : (block bits : ℕ) (ms : List ℕ) → AllPairs (λ a b. a < b) ms → ComesNext block bits ms
    → unpack_by members_of (pack_from block bits ms) ≡ members_below block bits 32 ++ ms
unpack_from block bits [] rises next = refl
unpack_from block bits (m ∷ ms) rises next = elim (cases_eq (m / 32) block) [
  | inl here ↦
      let none = next here in
      rw (eq-eqb (m / 32) block here)
      (unpack_from block (with_number bits m) ms (AllPairs-tail (λ a b. a < b) m ms rises)
      (comes_next block bits m ms here none rises)
      ∙ ap (λ xs. xs ++ ms) (one_more block bits m here none 32 (omega arith) (omega arith))
      ∙ append_assoc (members_below block bits 32) (m ∷ []) ms)
  | inr ne ↦
      let none : HasNoneFrom 0 (m % 32) = λ i l less. bit_at-zero i in
      rw (neq_test (m / 32) block ne)
      (ap (λ xs. members_below block bits 32 ++ xs)
      (unpack_from (m / 32) (with_number 0 m) ms (AllPairs-tail (λ a b. a < b) m ms rises)
      (comes_next (m / 32) 0 m ms refl none rises)
      ∙ ap (λ xs. xs ++ ms) (one_more (m / 32) 0 m refl none 32 (omega arith) (omega arith)
      ∙ ap (λ xs. xs ++ m ∷ []) (none_in (m / 32) 32))))
]

unpack_by-pack_blocks : (xs : List ℕ) → AllPairs (λ a b. a < b) xs → unpack_by members_of (pack_blocks xs) ≡ xs
unpack_by-pack_blocks [] rises = refl
unpack_by-pack_blocks (x ∷ xs) rises = unpack_from (x / 32) 0 (x ∷ xs) rises (λ e i l less. bit_at-zero i)
    ∙ ap (λ ms. ms ++ x ∷ xs) (none_in (x / 32) 32)

-- a range with one number more
pub range_more : (a n : ℕ) → range_with_len a (suc n) ≡ range_with_len a n ++ (a + n) ∷ []
range_more a zero = ap (λ k. k ∷ []) (let same : a ≡ a + 0 = omega arith in same)
range_more a (suc n) = ap (λ ns. a ∷ ns) (range_more (a + 1) n
    ∙ ap (λ k. range_with_len (a + 1) n ++ k ∷ []) (let same : a + 1 + n ≡ a + suc n = omega arith in same))

-- a run with one number more
run_more : (first last n : ℕ) → first ≤ last → n ≡ last + 1 → run_of first n ≡ run_of first last ++ n ∷ []
run_more first last n l e = ap (range_with_len first)
    (let more : n + 1 - first ≡ suc (last + 1 - first) = omega (arith, l, e) in more)
    ∙ range_more first (last + 1 - first)
    ∙ ap (λ k. run_of first last ++ k ∷ [])
    (let end : first + (last + 1 - first) ≡ n = omega (arith, l, e) in end)

pub run_grown : (first number : ℕ) (old now new : List ℕ) → first ≤ number
    → now ≡ old ++ range_with_len first (number - first) → new ≡ now ++ number ∷ []
    → new ≡ old ++ range_with_len first (number + 1 - first)
run_grown first number old now new l so pushed = pushed ∙ ap (λ ns. ns ++ number ∷ []) so
    ∙ append_assoc old (range_with_len first (number - first)) (number ∷ [])
    ∙ ap (λ k. old ++ (range_with_len first (number - first) ++ k ∷ []))
    (let here : number ≡ first + (number - first) = omega (arith, l) in here)
    ∙ ap (λ ns. old ++ ns) (sym (range_more first (number - first)))
    ∙ ap (λ k. old ++ range_with_len first k)
    (let next : suc (number - first) ≡ number + 1 - first = omega (arith, l) in next)

pub run_ended : (first last number : ℕ) (old now : List ℕ) → last + 1 ≤ number → number - first ≤ last + 1 - first
    → now ≡ old ++ range_with_len first (number - first) → now ≡ old ++ run_of first last
run_ended first last number old now past few so = so ∙ ap (λ k. old ++ range_with_len first k)
    (let all : number - first ≡ last + 1 - first = omega (arith, past, few) in all)

run_one : (n : ℕ) → run_of n n ≡ n ∷ []
run_one n = ap (range_with_len n) (let one : n + 1 - n ≡ 1 = omega arith in one)

unpack_runs_from : (first last : ℕ) (ns : List ℕ) → first ≤ last
    → unpack_by run_of (runs_from first last ns) ≡ run_of first last ++ ns
unpack_runs_from first last [] l = refl
unpack_runs_from first last (n ∷ ns) l = elim (cases_eq n (last + 1)) [
  | inl next ↦ rw (eq-eqb n (last + 1) next)
      (unpack_runs_from first n ns (omega (arith, l, next))
      ∙ ap (λ xs. xs ++ ns) (run_more first last n l next)
      ∙ append_assoc (run_of first last) (n ∷ []) ns)
  | inr ne ↦ rw (neq_test n (last + 1) ne)
      (ap (λ xs. run_of first last ++ xs)
      (unpack_runs_from n n ns (omega arith) ∙ ap (λ xs. xs ++ ns) (run_one n)))
]

unpack_by-pack_runs : (xs : List ℕ) → unpack_by run_of (pack_runs xs) ≡ xs
unpack_by-pack_runs [] = refl
unpack_by-pack_runs (x ∷ xs) = unpack_runs_from x x xs (omega arith) ∙ ap (λ ns. ns ++ xs) (run_one x)

pub pack-by_runs : (xs : List ℕ) → breaks_of xs ≤ length xs / 32 → pack xs ≡ 1 ∷ pack_runs xs
pack-by_runs xs l = ap (λ t. if t then 1 ∷ pack_runs xs else (0 ∷ pack_blocks xs))
    (le-leb (breaks_of xs) (length xs / 32) l)

pub pack-by_blocks : (xs : List ℕ) → (breaks_of xs ≤ length xs / 32 → ⊥) → pack xs ≡ 0 ∷ pack_blocks xs
pack-by_blocks xs l = ap (λ t. if t then 1 ∷ pack_runs xs else (0 ∷ pack_blocks xs))
    (let no : nat_le (breaks_of xs) (length xs / 32) ≡ false = grind (arith, l) in no)

-- a rising list that was packed is unpacked again
pub unpack-pack : (xs : List ℕ) → AllPairs (λ a b. a < b) xs → unpack (pack xs) ≡ xs
unpack-pack xs rises = elim (cases_lt (length xs / 32) (breaks_of xs)) [
  | inl short ↦ ap unpack (pack-by_blocks xs (λ l. omega (arith, l, short))) ∙ unpack_by-pack_blocks xs rises
  | inr long ↦ ap unpack (pack-by_runs xs long) ∙ unpack_by-pack_runs xs
]

contains_member : (block bits i j : ℕ) → i < j → bit_at bits i ≡ 1
    → Contains (members_below block bits j) (32 * block + i)
contains_member block bits i zero l e = absurd (omega (arith, l))
contains_member block bits i (suc j) l e = elim (cases_eq i j) [
  | inl same ↦
      let set : bit_at bits j ≡ 1 = subst (λ k. bit_at bits k ≡ 1) same e in
      subst (λ ms. Contains ms (32 * block + i)) (sym (a_member block bits j set))
      (Contains-append_right (members_below block bits j) ((32 * block + j) ∷ []) (32 * block + i)
      (subst (λ k. Contains ((32 * block + j) ∷ []) (32 * block + k)) (sym same) (Contains-first (32 * block + j) [])))
  | inr ne ↦ Contains-append_left (members_below block bits j)
      (if bit_at bits j == 1 then (32 * block + j) ∷ [] else []) (32 * block + i)
      (contains_member block bits i j (omega (arith, l, ne)) e)
]

-- a member of a block of words is one
pub member_fits : (block bits i : ℕ) → AreWords (members_below block bits 32) → i < 32 → bit_at bits i ≡ 1
    → 32 * block + i < 2 ^ 32
member_fits block bits i words l e = All-contains (λ n. n < 2 ^ 32) (members_below block bits 32) (32 * block + i)
    (All-from_get_or (λ n. n < 2 ^ 32) (members_below block bits 32) 0 (λ k less. words k))
    (contains_member block bits i 32 l e)

-- a packing at its beginning, and at its end
pub packed_first : (xs : List ℕ) (x : ℕ) (row : List ℕ) → Some x ≡ slice_get xs 0 → row ≡ 0 ∷ []
    → row ++ pack_from (x / 32) 0 (drop 0 xs) ≡ 0 ∷ pack_blocks xs
packed_first [] x row e none = absurd cc
packed_first (y ∷ ys) x row e none = let same : x ≡ y = cc in
    ap (λ r. r ++ pack_from (x / 32) 0 (y ∷ ys)) none ∙ ap (λ n. 0 ∷ pack_from (n / 32) 0 (y ∷ ys)) same

pub running_first : (xs : List ℕ) (x : ℕ) (row : List ℕ) → Some x ≡ slice_get xs 0 → row ≡ 1 ∷ []
    → row ++ runs_from x x (drop 1 xs) ≡ 1 ∷ pack_runs xs
running_first [] x row e none = absurd cc
running_first (y ∷ ys) x row e none = let same : x ≡ y = cc in
    ap (λ r. r ++ runs_from x x ys) none ∙ ap (λ n. 1 ∷ runs_from n n ys) same

pub packed_rest : (xs : List ℕ) (k : ℕ) → k < length xs → get_or xs k 0 ∷ drop (k + 1) xs ≡ drop k xs
packed_rest xs k l = ap (λ n. get_or xs k 0 ∷ drop n xs) (let next : k + 1 ≡ suc k = omega arith in next)
    ∙ sym (drop-cons xs k 0 l)

pub packed_all : (xs : List ℕ) (k : ℕ) (p : Packing) (first all : List ℕ) → (k < length xs → ⊥)
    → first ≡ p.row.items ++ p.block ∷ [] → all ≡ first ++ p.bits ∷ [] → packed_with p (drop k xs) ≡ 0 ∷ pack_blocks xs
    → all ≡ 0 ∷ pack_blocks xs
packed_all xs k p first all end one two done = two ∙ ap (λ f. f ++ p.bits ∷ []) one
    ∙ append_assoc p.row.items (p.block ∷ []) (p.bits ∷ [])
    ∙ ap (packed_with p) (sym (drop_all k xs (let past : length xs ≤ k = omega (arith, end) in past))) ∙ done

pub running_all : (xs : List ℕ) (k : ℕ) (p : Running) (first all : List ℕ) → (k < length xs → ⊥)
    → first ≡ p.row.items ++ p.first ∷ [] → all ≡ first ++ p.last ∷ [] → run_with p (drop k xs) ≡ 1 ∷ pack_runs xs
    → all ≡ 1 ∷ pack_runs xs
running_all xs k p first all end one two done = two ∙ ap (λ f. f ++ p.last ∷ []) one
    ∙ append_assoc p.row.items (p.first ∷ []) (p.last ∷ [])
    ∙ ap (run_with p) (sym (drop_all k xs (let past : length xs ≤ k = omega (arith, end) in past))) ∙ done

-- the breaks of a list from one of its numbers on
abbrev pub breaks_at : List ℕ → ℕ → ℕ
breaks_at xs at = breaks_from (get_or xs (at - 1) 0) (drop at xs)

pub breaks_first : (xs : List ℕ) → breaks_at xs 1 ≡ breaks_of xs
breaks_first [] = refl
breaks_first (x ∷ xs) = refl

pub breaks_more : (xs : List ℕ) (at count new : ℕ) → at < length xs
    → new ≡ count + (if nat_eq (get_or xs at 0) (get_or xs (at - 1) 0 + 1) then 0 else 1)
    → count + breaks_at xs at ≡ breaks_of xs → new + breaks_at xs (at + 1) ≡ breaks_of xs
breaks_more xs at count new l is so =
    let step = if nat_eq (get_or xs at 0) (get_or xs (at - 1) 0 + 1) then 0 else 1 in
    let rest = breaks_from (get_or xs at 0) (drop (at + 1) xs) in
    let before : breaks_at xs at ≡ step + rest = ap (breaks_from (get_or xs (at - 1) 0)) (sym (packed_rest xs at l)) in
    let after : breaks_at xs (at + 1) ≡ rest = ap (λ k. breaks_from (get_or xs k 0) (drop (at + 1) xs))
    (let same : at + 1 - 1 ≡ at = omega arith in same) in
    omega (arith, is, so, before, after)

pub breaks_all : (xs : List ℕ) (at count : ℕ) → length xs ≤ at → count + breaks_at xs at ≡ breaks_of xs
    → count ≡ breaks_of xs
breaks_all xs at count l so = let none : breaks_at xs at ≡ 0
    = ap (breaks_from (get_or xs (at - 1) 0)) (drop_all at xs l) in omega (arith, so, none)

-- what the test of a bit tells
pub is_set : (bits i : ℕ) → bit_and (bits / 2 ^ i) 1 ≡ 1 → bit_at bits i ≡ 1
is_set bits i e = sym (shr_and_one bits i) ∙ e

pub is_off : (bits i : ℕ) → (bit_and (bits / 2 ^ i) 1 ≡ 1 → ⊥) → bit_at bits i ≡ 0
is_off bits i ne = let two = bit_at-lt bits i in
    let not_one : bit_at bits i ≡ 1 → ⊥ = λ e. ne (shr_and_one bits i ∙ e) in omega (arith, two, not_one)

pub one_more_member : (block bits i : ℕ) (old now new : List ℕ) → now ≡ old ++ members_below block bits i
    → bit_at bits i ≡ 1 → new ≡ now ++ (32 * block + i) ∷ [] → new ≡ old ++ members_below block bits (i + 1)
one_more_member block bits i old now new so set pushed = pushed ∙ ap (λ ms. ms ++ (32 * block + i) ∷ []) so
    ∙ append_assoc old (members_below block bits i) ((32 * block + i) ∷ [])
    ∙ ap (λ ms. old ++ ms) (sym (a_member block bits i set))
    ∙ ap (λ n. old ++ members_below block bits n) (let next : suc i ≡ i + 1 = omega arith in next)

pub no_more_member : (block bits i : ℕ) (old now new : List ℕ) → now ≡ old ++ members_below block bits i
    → bit_at bits i ≡ 0 → new ≡ now → new ≡ old ++ members_below block bits (i + 1)
no_more_member block bits i old now new so off same = same ∙ so
    ∙ ap (λ ms. old ++ ms) (sym (no_member block bits i off))
    ∙ ap (λ n. old ++ members_below block bits n) (let next : suc i ≡ i + 1 = omega arith in next)

-- a row from one of its blocks on
ahead : (row : List ℕ) (at : ℕ) → at + 1 < length row
    → drop at row ≡ get_or row at 0 ∷ get_or row (at + 1) 0 ∷ drop (at + 2) row
ahead row at l = drop-cons row at 0 (omega (arith, l))
    ∙ ap (λ k. get_or row at 0 ∷ drop k row) (let next : suc at ≡ at + 1 = omega arith in next)
    ∙ ap (λ r. get_or row at 0 ∷ r) (drop-cons row (at + 1) 0 l
    ∙ ap (λ k. get_or row (at + 1) 0 ∷ drop k row) (let next : suc (at + 1) ≡ at + 2 = omega arith in next))

module _ (part : ℕ → ℕ → List ℕ) where
  -- the words of a row are those of its first pair and those of the rest
  first_words : (a b : ℕ) (row : List ℕ) → AreWords (unpack_by part (a ∷ b ∷ row)) → AreWords (part a b)
  first_words a b row words i = elim (cases_lt i (length (part a b))) [
    | inl inner ↦ subst (λ n. n < 2 ^ 32) (get_or_append_left (part a b) (unpack_by part row) 0 i inner) (words i)
    | inr past ↦ subst (λ n. n < 2 ^ 32) (sym (get_or_past (part a b) i 0 past)) (omega arith)
  ]

  rest_words : (a b : ℕ) (row : List ℕ) → AreWords (unpack_by part (a ∷ b ∷ row)) → AreWords (unpack_by part row)
  rest_words a b row words i = subst (λ n. n < 2 ^ 32) (get_or-append-add (part a b) (unpack_by part row) i 0)
      (words (length (part a b) + i))

  pub words_ahead : (row : List ℕ) (at : ℕ) → at + 1 < length row → AreWords (unpack_by part (drop at row))
      → AreWords (part (get_or row at 0) (get_or row (at + 1) 0))
  words_ahead row at l words = first_words (get_or row at 0) (get_or row (at + 1) 0) (drop (at + 2) row)
      (subst (λ r. AreWords (unpack_by part r)) (ahead row at l) words)

  pub unpacked_more : (row : List ℕ) (at : ℕ) (numbers more : List ℕ) → at + 1 < length row
      → more ≡ numbers ++ part (get_or row at 0) (get_or row (at + 1) 0)
      → (numbers ++ unpack_by part (drop at row) ≡ unpack_by part row) × AreWords (unpack_by part (drop at row))
      → (more ++ unpack_by part (drop (at + 2) row) ≡ unpack_by part row)
      × AreWords (unpack_by part (drop (at + 2) row))
  unpacked_more row at numbers more l pushed so =
      let a = get_or row at 0 in
      let b = get_or row (at + 1) 0 in
      let r = drop (at + 2) row in (
        ap (λ ns. ns ++ unpack_by part r) pushed ∙ append_assoc numbers (part a b) (unpack_by part r)
            ∙ ap (λ x. numbers ++ unpack_by part x) (sym (ahead row at l)) ∙ so.0,
        rest_words a b r (subst (λ x. AreWords (unpack_by part x)) (ahead row at l) so.1),
      )

  short_row : (row : List ℕ) → length row ≤ 1 → unpack_by part row ≡ []
  short_row [] l = refl
  short_row (a ∷ []) l = refl
  short_row (a ∷ b ∷ row) l = absurd (omega (arith, l))

  pub unpacked_all : (row : List ℕ) (at : ℕ) (numbers : List ℕ) → (at + 1 < length row → ⊥)
      → numbers ++ unpack_by part (drop at row) ≡ unpack_by part row → numbers ≡ unpack_by part row
  unpacked_all row at numbers end so = sym (append-nil numbers)
      ∙ ap (λ ns. numbers ++ ns)
      (sym (short_row (drop at row) (let long = length-drop at row in omega (arith, end, long))))
      ∙ so

-- the words of a packed list are those of its pairs
pub words_of_blocks : (row pairs : List ℕ) (kind : ℕ) → row ≡ kind ∷ pairs → kind ≡ 0 → AreWords (unpack row)
    → AreWords (unpack_by members_of pairs)
words_of_blocks row pairs kind is by words = subst (λ r. AreWords (unpack r)) (is ∙ ap (λ k. k ∷ pairs) by) words

breaks_range : (p n : ℕ) → breaks_from p (range_with_len (p + 1) n) ≡ 0
breaks_range p zero = refl
breaks_range p (suc n) = rw (eq-eqb (p + 1) (p + 1) refl) (zero-add (breaks_from (p + 1) (range_with_len (p + 1 + 1) n))
    ∙ breaks_range (p + 1) n)

runs_range : (first last n : ℕ) → runs_from first last (range_with_len (last + 1) n) ≡ first ∷ (last + n) ∷ []
runs_range first last zero = ap (λ k. first ∷ k ∷ []) (let same : last ≡ last + 0 = omega arith in same)
runs_range first last (suc n) = rw (eq-eqb (last + 1) (last + 1) refl)
    (runs_range first (last + 1) n
    ∙ ap (λ k. first ∷ k ∷ []) (let same : last + 1 + n ≡ last + suc n = omega arith in same))

-- a span, packed
pack-run : (first last : ℕ) → first ≤ last → pack (run_of first last) ≡ 1 ∷ first ∷ last ∷ []
pack-run first last l = ap (λ n. pack (range_with_len first n))
    (let some : last + 1 - first ≡ suc (last - first) = omega (arith, l) in some)
    ∙ pack-by_runs (first ∷ range_with_len (first + 1) (last - first))
    (let none = breaks_range first (last - first) in omega (arith, none))
    ∙ ap (λ r. 1 ∷ r) (runs_range first first (last - first))
    ∙ ap (λ k. 1 ∷ first ∷ k ∷ []) (let end : first + (last - first) ≡ last = omega (arith, l) in end)

words_of_run : (first last : ℕ) → first ≤ last → last < 2 ^ 32 → AreWords (run_of first last)
words_of_run first last l fits i = elim (cases_lt i (last + 1 - first)) [
  | inl inner ↦ omega (arith, get_or-range_with_len first (last + 1 - first) i 0 inner, inner, fits, l)
  | inr past ↦ omega (
    arith,
    get_or_past (run_of first last) i 0
        (omega (arith, past, length-range_with_len first (last + 1 - first))),
  )
]

rising_run : (first last : ℕ) → AllPairs (λ a b. a < b) (run_of first last)
rising_run first last i j d l m =
    let n = last + 1 - first in
    let less : j < n = omega (arith, m, length-range_with_len first n) in
    let at = get_or-range_with_len first n i d (omega (arith, l, less)) in
    let next = get_or-range_with_len first n j d less in omega (arith, at, next, l)

-- the key of a span
pub span_packed : (first last : ℕ) (row : List ℕ) → first ≤ last → last < 2 ^ 32 → row ≡ 1 ∷ first ∷ last ∷ []
    → IsKeyOf (run_of first last) (unpack row) × IsPacked row
span_packed first last row l fits is =
    let back : unpack row ≡ run_of first last = ap unpack is ∙ append-nil (run_of first last) in (
      subst (IsKeyOf (run_of first last)) (sym back) (record {
        same = λ q. (λ h. h, λ h. h);
        rising = rising_run first last;
      }),
      (
        is ∙ sym (pack-run first last l) ∙ ap pack (sym back),
        subst AreWords (sym back) (words_of_run first last l fits),
      ),
    )

-- a packed list of one run
pub unpack-one_run : (row : List ℕ) → length row ≡ 3 → 0 < get_or row 0 0
    → run_of (get_or row 1 0) (get_or row 2 0) ≡ unpack row
unpack-one_run [] three some = absurd (cc)
unpack-one_run (a ∷ []) three some = absurd (cc)
unpack-one_run (a ∷ b ∷ []) three some = absurd (cc)
unpack-one_run (zero ∷ b ∷ c ∷ []) three some = absurd (omega (arith, some))
unpack-one_run (suc k ∷ b ∷ c ∷ []) three some = sym (append-nil (run_of b c))
unpack-one_run (a ∷ b ∷ c ∷ d ∷ row) three some = absurd (cc)
