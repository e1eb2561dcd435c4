-- Lists that are made of one another.
use Rattle.std.proofs.Common.{◌≡◌, ℕ, zero, suc, ◌+◌, ◌-◌, ◌<◌, ◌≤◌, List, [], ◌∷◌, ◌++◌, length, get_or, reverse}
use Rattle.std.proofs.Common.{refl, sym, ap, ◌∙◌, arith, length-append}
use Rattle.std.specs.Prelude.{slice_get, Some}
use Rattle.std.proofs.lemmas.List.{get_or_append_left, get_or_push, append_assoc, reverse-append}
use Rattle.ly_position.specs.declared.grown.Extended.{Extended}
use Rattle.ly_position.specs.Private.Grown.{grown_from, grown, AreExtended, IsExtendedAt}

-- the list that is made of one of some lists
abbrev pub made : List (List ℕ) → Extended → List ℕ
made lists l = get_or lists l.before [] ++ l.last ∷ []

pub length-grown_from : (lists : List (List ℕ)) (ls : List Extended) → length (grown_from lists ls)
    ≡ length lists + length ls
length-grown_from lists [] = omega arith
length-grown_from lists (l ∷ ls)
    = omega (arith, length-grown_from (lists ++ made lists l ∷ []) ls, length-append lists (made lists l ∷ []))

-- earlier lists stay
pub grown_kept : (lists : List (List ℕ)) (ls : List Extended) (k : ℕ) → k < length lists
    → get_or (grown_from lists ls) k [] ≡ get_or lists k []
grown_kept lists [] k less = refl
grown_kept lists (l ∷ ls) k less
    = grown_kept (lists ++ made lists l ∷ []) ls k (omega (arith, length-append lists (made lists l ∷ [])))
    ∙ get_or_append_left lists (made lists l ∷ []) [] k less

-- one more
pub grown_push : (lists : List (List ℕ)) (ls : List Extended) (l : Extended) → grown_from lists (ls ++ l ∷ [])
    ≡ grown_from lists ls ++ made (grown_from lists ls) l ∷ []
grown_push lists [] l = refl
grown_push lists (x ∷ ls) l = grown_push (lists ++ made lists x ∷ []) ls l

pub extended_push : (n : ℕ) (ls : List Extended) (l : Extended) → AreExtended n ls → l.before < n + length ls
    → AreExtended n (ls ++ l ∷ [])
extended_push n [] l are less = (omega arith, refl)
extended_push n (x ∷ ls) l are less = (are.0, extended_push (suc n) ls l are.1 (omega arith))

pub extended_before : (n : ℕ) (ls : List Extended) (m : ℕ) (l : Extended) → AreExtended n ls
    → slice_get ls m ≡ Some l → l.before < n + m
extended_before n [] m l are is = cc
extended_before n (x ∷ ls) zero l are is = let same : x ≡ l = cc in rw (← same) (omega (arith, are.0))
extended_before n (x ∷ ls) (suc m) l are is = omega (arith, extended_before (suc n) ls m l are.1 is)

-- the list of a number is made of an earlier one
pub grown_at : (lists : List (List ℕ)) (ls : List Extended) (m : ℕ) (l : Extended) → AreExtended (length lists) ls
    → slice_get ls m ≡ Some l
    → get_or (grown_from lists ls) (length lists + m) [] ≡ get_or (grown_from lists ls) l.before [] ++ l.last ∷ []
grown_at lists [] m l are is = cc
grown_at lists (x ∷ ls) zero l are is =
    let same : x ≡ l = cc in
    let more = lists ++ made lists x ∷ [] in
    let count : length more ≡ length lists + 1 = length-append lists (made lists x ∷ []) in
    let first : get_or (grown_from more ls) (length lists + 0) [] ≡ get_or more (length lists + 0) []
    = grown_kept more ls (length lists + 0) (omega arith) in
    let here : get_or more (length lists + 0) [] ≡ made lists x
    = get_or_push lists (made lists x) [] (length lists + 0) (omega arith) in
    let second : get_or (grown_from more ls) x.before [] ≡ get_or lists x.before []
    = grown_kept more ls x.before (omega (arith, are.0))
    ∙ get_or_append_left lists (made lists x ∷ []) [] x.before are.0 in
    rw (← same) (first ∙ here ∙ ap (λ xs. xs ++ x.last ∷ []) (sym second))
grown_at lists (x ∷ ls) (suc m) l are is =
    let more = lists ++ made lists x ∷ [] in
    let count : length more ≡ suc (length lists) = omega (arith, length-append lists (made lists x ∷ [])) in
    let sum : length lists + suc m ≡ length more + m = omega arith in
    rw sum (grown_at more ls m l (rw count are.1) is)

-- of all lists there is one more than are extended
pub grown_count : (ls : List Extended) (v : List (List ℕ)) → grown ls ≡ v → length v ≡ length ls + 1
grown_count ls v is = omega (arith, ap length is, length-grown_from ([] ∷ []) ls)

-- the list of a number that is extended
pub grown_known : (ls : List Extended) (v : List (List ℕ)) (number list entry : ℕ) → AreExtended 1 ls → grown ls ≡ v
    → IsExtendedAt ls number list entry → (number < length v) × (get_or v number [] ≡ get_or v list [] ++ entry ∷ [])
grown_known ls v number list entry are is at =
    let m = at.0 in
    let l = at.1 in
    let less : m < length ls = get_less ls m l at.3 in
    let one = grown_at ([] ∷ []) ls m l are at.3 in
    let here : get_or v (1 + m) [] ≡ get_or v l.before [] ++ l.last ∷ [] = rw (← is) one in
    let same : 1 + m ≡ number = omega (arith, at.2) in
    (omega (arith, grown_count ls v is, at.2), rw (← same, ← at.4, ← at.5) here)
  where
    get_less : (xs : List Extended) (i : ℕ) (x : Extended) → slice_get xs i ≡ Some x → i < length xs
    get_less [] i x is = cc
    get_less (y ∷ xs) zero x is = omega arith
    get_less (y ∷ xs) (suc i) x is = let less = get_less xs i x is in omega arith

-- one more list
pub record MoreLists (ls : List Extended) (v : List (List ℕ)) (number list entry : ℕ) : Type 0 where
  pub more : length v ≤ length (grown ls)
  pub kept : (k : ℕ) → k < length v → get_or (grown ls) k [] ≡ get_or v k []
  pub within : number < length (grown ls)
  pub is : get_or (grown ls) number [] ≡ get_or v list [] ++ entry ∷ []
  pub are : AreExtended 1 ls

pub grown_more : (ls ms : List Extended) (v : List (List ℕ)) (number list entry : ℕ) → AreExtended 1 ls → grown ls ≡ v
    → list < length v → ms ≡ ls ++ record { before = list; last = entry } ∷ [] → number ≡ length ms
    → MoreLists ms v number list entry
grown_more ls ms v number list entry are is less more last =
    let x : Extended = record { before = list; last = entry } in
    let count = grown_count ls v is in
    let at : number ≡ length v = omega (arith, last, ap length more, length-append ls (x ∷ []), count) in
    let now : grown ms ≡ v ++ made v x ∷ [] = rw (more, ← is) (grown_push ([] ∷ []) ls x) in
    let size : length (grown ms) ≡ length v + 1 = ap length now ∙ length-append v (made v x ∷ []) in
    record {
      more = omega arith;
      kept = λ k l. rw now (get_or_append_left v (made v x ∷ []) [] k l);
      within = omega arith;
      is = rw now (get_or_push v (made v x) [] number (sym at));
      are = rw more (extended_push 1 ls x are (omega arith));
    }

-- a step to the list that one is made of
pub grown_step : (ls : List Extended) (v : List (List ℕ)) (number left : ℕ) (into : List ℕ) (l : Extended)
    → AreExtended 1 ls → grown ls ≡ v → 0 < left → slice_get ls (left - 1) ≡ Some l
    → get_or v number [] ≡ get_or v left [] ++ reverse into
    → (l.before < left) × (get_or v number [] ≡ get_or v l.before [] ++ reverse (into ++ l.last ∷ []))
grown_step ls v number left into l are is some at so =
    let one = grown_at ([] ∷ []) ls (left - 1) l are at in
    let sum : 1 + (left - 1) ≡ left = omega arith in
    let here : get_or v left [] ≡ get_or v l.before [] ++ l.last ∷ [] = rw (← is, ← sum) one in (
      omega (arith, extended_before 1 ls (left - 1) l are at),
      so ∙ ap (λ xs. xs ++ reverse into) here ∙ append_assoc (get_or v l.before []) (l.last ∷ []) (reverse into)
          ∙ ap (λ xs. get_or v l.before [] ++ xs) (sym (reverse-append into (l.last ∷ []))),
    )

-- the first is empty
pub grown_first : (ls : List Extended) (v : List (List ℕ)) → grown ls ≡ v → get_or v 0 [] ≡ []
grown_first ls v is = rw (← is) (grown_kept ([] ∷ []) ls 0 (omega arith))
