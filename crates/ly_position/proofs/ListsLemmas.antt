-- Lists that lie one after another in one list.
use Rattle.std.proofs.Common.{◌≡◌, ℕ, zero, suc, ◌+◌, ◌-◌, ◌<◌, ◌≤◌, List, [], ◌∷◌, ◌++◌, length, get_or, take, drop}
use Rattle.std.proofs.Common.{refl, sym, ap, ◌∙◌, subst, arith, length-append, length-drop}
use Rattle.std.proofs.lemmas.List.{nil_from_length, take-append-le, drop-append-le, take_all, drop-drop, get_or_read}
use Rattle.ly_position.specs.Lists.{lists_from, EndsFit, start_after}

pub length-lists_from : (s : ℕ) (es ms : List ℕ) → length (lists_from s es ms) ≡ length es
length-lists_from s [] ms = refl
length-lists_from s (e ∷ es) ms = ap suc (length-lists_from e es (drop (e - s) ms))

-- no end is past the last
pub ends_within : (s : ℕ) (es : List ℕ) (n : ℕ) → EndsFit s es n → s ≤ n
ends_within s [] n h = omega (arith, h)
ends_within s (e ∷ es) n h = omega (arith, h.0, ends_within e es n h.1)

pub EndsFit-push : (s : ℕ) (es : List ℕ) (n m : ℕ) → EndsFit s es n → n ≤ m → EndsFit s (es ++ m ∷ []) m
EndsFit-push s [] n m h l = (omega (arith, h), refl)
EndsFit-push s (e ∷ es) n m h l = (h.0, EndsFit-push e es n m h.1 l)

-- one more list at the end
pub lists_from-push : (s : ℕ) (es ms xs : List ℕ) → EndsFit s es (s + length ms)
    → lists_from s (es ++ (s + length (ms ++ xs)) ∷ []) (ms ++ xs) ≡ lists_from s es ms ++ xs ∷ []
lists_from-push s [] ms xs h =
    let none : ms ≡ [] = nil_from_length ms (omega (arith, h)) in
    rw none (ap (λ l. l ∷ []) (take_all (s + length xs - s) xs (omega arith)))
lists_from-push s (e ∷ es) ms xs h =
    let le : e ≤ s + length ms = ends_within e es (s + length ms) h.1 in
    let fits : e - s ≤ length ms = omega arith in
    let same : e + length (drop (e - s) ms) ≡ s + length ms = omega (arith, length-drop (e - s) ms, h.0) in
    let more : s + length (ms ++ xs) ≡ e + length (drop (e - s) ms ++ xs)
    = omega (arith, length-append ms xs, length-append (drop (e - s) ms) xs) in
    rw (more, take-append-le (e - s) ms xs fits, drop-append-le (e - s) ms xs fits)
    (ap (λ l. take (e - s) ms ∷ l)
    (lists_from-push e es (drop (e - s) ms) xs (subst (λ n. EndsFit e es n) (sym same) h.1)))

-- a list, by where it begins and ends
pub get_or-lists_from : (s : ℕ) (es ms : List ℕ) (n k : ℕ) → EndsFit s es n → k < length es
    → get_or (lists_from s es ms) k [] ≡ take (get_or es k 0 - start_after s es k) (drop (start_after s es k - s) ms)
get_or-lists_from s [] ms n k h l = absurd (omega arith)
get_or-lists_from s (e ∷ es) ms n zero h l = let none : s - s ≡ 0 = omega arith in rw none refl
get_or-lists_from s (e ∷ es) ms n (suc zero) h l =
    let le : suc zero < suc (length es) = l in
    get_or-lists_from e es (drop (e - s) ms) n zero h.1 (omega arith) ∙ (let none : e - e ≡ 0 = omega arith
    in rw none refl)
get_or-lists_from s (e ∷ es) ms n (suc (suc k)) h l =
    let le : suc (suc k) < suc (length es) = l in
    let later : e ≤ get_or es k 0 = ends_after e es n k h.1 (omega arith) in
    let sum : (e - s) + (get_or es k 0 - e) ≡ get_or es k 0 - s = omega (arith, h.0) in
    get_or-lists_from e es (drop (e - s) ms) n (suc k) h.1 (omega arith)
    ∙ rw (drop-drop (get_or es k 0 - e) (e - s) ms, sum) refl
  where
    ends_after : (e : ℕ) (es : List ℕ) (n k : ℕ) → EndsFit e es n → k < length es → e ≤ get_or es k 0
    ends_after e [] n k f l = absurd (omega arith)
    ends_after e (x ∷ es) n zero f l = f.0
    ends_after e (x ∷ es) n (suc k) f l = omega (arith, f.0, ends_after x es n k f.1 (omega arith))

-- a list's place lies within the members
pub list_within : (s : ℕ) (es : List ℕ) (n k : ℕ) → EndsFit s es n → k < length es
    → (start_after s es k ≤ get_or es k 0) × (get_or es k 0 ≤ n)
list_within s [] n k h l = absurd (omega arith)
list_within s (e ∷ es) n zero h l = (h.0, ends_within e es n h.1)
list_within s (e ∷ es) n (suc zero) h l = list_within e es n zero h.1 (omega arith)
list_within s (e ∷ es) n (suc (suc k)) h l = list_within e es n (suc k) h.1 (omega arith)

-- after a push to the members and to the ends
pub pushed_fits : (es ms xs fs ns : List ℕ) (end : ℕ) → EndsFit 0 es (length ms) → ns ≡ ms ++ xs → fs ≡ es ++ end ∷ []
    → length ns ≡ end → EndsFit 0 fs (length ns)
pushed_fits es ms xs fs ns end h more last is
    = rw (last, is) (EndsFit-push 0 es (length ms) end h (omega (arith, length-append ms xs, ap length more)))

pub pushed_lists : (es ms xs fs ns : List ℕ) (end : ℕ) → EndsFit 0 es (length ms) → ns ≡ ms ++ xs → fs ≡ es ++ end ∷ []
    → length ns ≡ end → lists_from 0 fs ns ≡ lists_from 0 es ms ++ xs ∷ []
pushed_lists es ms xs fs ns end h more last is =
    let same : 0 + length (ms ++ xs) ≡ end = omega (arith, ap length more) in
    let fits : EndsFit 0 es (0 + length ms) = let e : length ms ≡ 0 + length ms = omega arith
    in subst (λ n. EndsFit 0 es n) e h in
    rw (last, more, ← same) (lists_from-push 0 es ms xs fits)

-- a list's number is that of an end
pub number_within : (es ms : List ℕ) (ls : List (List ℕ)) (k : ℕ) → lists_from 0 es ms ≡ ls → k < length ls
    → k < length es
number_within es ms ls k e h = omega (arith, ap length e, length-lists_from 0 es ms)

-- the list between its begin and its end
pub list_at : (es ms : List ℕ) (ls : List (List ℕ)) (k start end : ℕ) → EndsFit 0 es (length ms)
    → lists_from 0 es ms ≡ ls → k < length ls → start ≡ start_after 0 es k → end ≡ get_or es k end → (start ≤ end)
    × (end ≤ length ms) × (take (end - start) (drop start ms) ≡ get_or ls k [])
list_at es ms ls k start end fit view h is_start is_end = (
  let w = within.0 in let r = read in omega arith,
  let w
      = within.1 in let r = read in omega arith,
  same,
)
  where
    less : k < length es
    less = number_within es ms ls k view h

    read : end ≡ get_or es k 0
    read = get_or_read es k end less is_end 0

    within : (start_after 0 es k ≤ get_or es k 0) × (get_or es k 0 ≤ length ms)
    within = list_within 0 es (length ms) k fit less

    same : take (end - start) (drop start ms) ≡ get_or ls k []
    same = rw (read, is_start, ← view) (let none : start_after 0 es k - 0 ≡ start_after 0 es k = omega arith
        in sym (get_or-lists_from 0 es ms (length ms) k fit less ∙ rw none refl))
