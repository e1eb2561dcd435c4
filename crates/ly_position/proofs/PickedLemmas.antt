-- Lists that are picked among others by their numbers.
use Rattle.std.proofs.Common.{◌≡◌, inl, inr, ℕ, zero, suc, ◌+◌, ◌<◌, ◌≤◌, List, [], ◌∷◌, ◌++◌, length, get_or}
use Rattle.std.proofs.Common.{replicate, set}
use Rattle.std.proofs.Common.{refl, sym, ap, ap₂, ◌∙◌, arith, length-append}
use Rattle.std.specs.Prelude.{All}
use Rattle.std.proofs.lemmas.List.{get_or-map, length-map, map-set, get_or_append_left, get_or_push, get_or_read}
use Rattle.std.proofs.lemmas.Bool.{cases_lt}
use Rattle.ly_position.specs.Private.Grown.{picked}

-- the numbers of a list's tail
later : (P : ℕ → Type 0) (n : ℕ) (ns : List ℕ) → All P (n ∷ ns) → All P ns
later P n ns all i d less = all (suc i) d (omega arith)

-- where the lists that there were stay, so does what is picked of them
pub picked_kept : (L M : List (List ℕ)) (ns : List ℕ) → ((k : ℕ) → k < length L → get_or M k [] ≡ get_or L k [])
    → All (λ n. n < length L) ns → picked M ns ≡ picked L ns
picked_kept L M [] kept within = refl
picked_kept L M (n ∷ ns) kept within
    = ap₂ (λ x xs. x ∷ xs) (kept n (within 0 0 (omega arith)))
    (picked_kept L M ns kept (later (λ n. n < length L) n ns within))

-- one more
pub picked_push : (L : List (List ℕ)) (ns : List ℕ) (n : ℕ) → picked L (ns ++ n ∷ [])
    ≡ picked L ns ++ get_or L n [] ∷ []
picked_push L [] n = refl
picked_push L (m ∷ ns) n = ap (λ xs. get_or L m [] ∷ xs) (picked_push L ns n)

-- the list of a number
pub picked_at : (L : List (List ℕ)) (ns : List ℕ) (k : ℕ) → k < length ns
    → get_or (picked L ns) k [] ≡ get_or L (get_or ns k 0) []
picked_at L ns k less = get_or-map (λ n. get_or L n []) ns k 0 [] less

-- numbers of the empty list alone
pub picked_empty : (L : List (List ℕ)) (n k : ℕ) → get_or L 0 [] ≡ [] → get_or (picked L (replicate n 0)) k [] ≡ []
picked_empty L zero k none = refl
picked_empty L (suc n) zero none = none
picked_empty L (suc n) (suc k) none = picked_empty L n k none

-- a list that is longer by an entry
pub picked_put : (L M v : List (List ℕ)) (ns : List ℕ) (k n longer entry : ℕ) → picked L ns ≡ v
    → All (λ m. m < length L) ns → ((m : ℕ) → m < length L → get_or M m [] ≡ get_or L m []) → k < length v
    → n ≡ get_or ns k n → get_or M longer [] ≡ get_or L n [] ++ entry ∷ []
    → picked M (set ns k longer) ≡ set v k (get_or v k [] ++ entry ∷ [])
picked_put L M v ns k n longer entry is within kept less at more =
    let f = λ (m : ℕ). get_or M m [] in
    let count : length ns ≡ length v = sym (length-map ns (λ m. get_or L m [])) ∙ ap length is in
    let here : k < length ns = omega arith in
    let read : n ≡ get_or ns k 0 = get_or_read ns k n here at 0 in
    let old : get_or v k [] ≡ get_or L n [] = rw (← is, read) (picked_at L ns k here) in
    map-set f ns k longer
    ∙ ap₂ (λ xs x. set xs k x) (picked_kept L M ns kept within ∙ is) (more ∙ ap (λ xs. xs ++ entry ∷ []) (sym old))

-- one more, which is the last of the others
pub picked_last : (L M v : List (List ℕ)) (ns : List ℕ) (n : ℕ) (list : List ℕ) → picked L ns ≡ v
    → All (λ m. m < length L) ns → M ≡ L ++ list ∷ [] → n ≡ length L → picked M (ns ++ n ∷ []) ≡ v ++ list ∷ []
picked_last L M v ns n list is within more last =
    let kept : (m : ℕ) → m < length L → get_or M m [] ≡ get_or L m []
    = λ m l. rw more (get_or_append_left L (list ∷ []) [] m l) in
    let read : get_or M n [] ≡ list = rw more (get_or_push L list [] n (sym last)) in
    picked_push M ns n ∙ ap₂ (λ xs x. xs ++ x ∷ []) (picked_kept L M ns kept within ∙ is) read

-- the twins of the first lists
pub record FirstTwins (n : ℕ) (lists : List (List ℕ)) (twins : List ℕ) : Type 0 where
  pub count : length twins ≡ n
  pub less : (k : ℕ) → k < n → get_or twins k 0 ≤ k
  pub same : (k : ℕ) → k < n → get_or lists (get_or twins k 0) [] ≡ get_or lists k []

pub twins_more : (n : ℕ) (lists : List (List ℕ)) (ts us : List ℕ) (t : ℕ) → FirstTwins n lists ts → t ≤ n
    → get_or lists t [] ≡ get_or lists n [] → us ≡ ts ++ t ∷ [] → FirstTwins (n + 1) lists us
twins_more n lists ts us t first le same is = record {
  count = omega (arith, ap length is, length-append ts (t ∷ []), first.count);
  less = λ k l. rw is (elim (cases_lt k n) [
    | inl m ↦ rw (get_or_append_left ts (t ∷ []) 0 k (omega (arith, first.count))) (first.less k m)
    | inr m ↦ let last : n ≡ k = omega arith
        in rw (get_or_push ts t 0 k (first.count ∙ last)) (omega arith)
  ]);
  same = λ k l. rw is (elim (cases_lt k n) [
    | inl m ↦ rw (get_or_append_left ts (t ∷ []) 0 k (omega (arith, first.count))) (first.same k m)
    | inr m ↦ let last : n ≡ k = omega arith
        in rw (get_or_push ts t 0 k (first.count ∙ last), ← last) same
  ]);
}
