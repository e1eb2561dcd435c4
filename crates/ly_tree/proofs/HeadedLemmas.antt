-- Lists under heads that lie one after another in one list.
use Rattle.std.proofs.Common.{◌≡◌, ℕ, zero, suc, ◌+◌, ◌-◌, ◌<◌, ◌≤◌, List, [], ◌∷◌, ◌++◌, length, get_or, take, drop}
use Rattle.std.proofs.Common.{refl, sym, ap, ◌∙◌, subst, arith, length-append, length-drop}
use Rattle.std.proofs.Common.{length-take}
use Rattle.std.specs.Prelude.{map, slice_get, sum, Some}
use Rattle.std.proofs.lemmas.List.Sums.{sum_by-cons}
use Rattle.std.proofs.lemmas.List.{nil_from_length, take-append-le, drop-append-le, take_all, drop-drop}
use Rattle.ly_tree.specs.Private.Headed.{headed_from, start_after, EndsFit}
use Rattle.ly_tree.specs.declared.headed.Heading.{Heading}

pub length-headed_from : {H T : Type 0} (s : ℕ) (hs : List (Heading H)) (ms : List T)
    → length (headed_from s hs ms) ≡ length hs
length-headed_from s [] ms = refl
length-headed_from s (h ∷ hs) ms = ap suc (length-headed_from h.end hs (drop (h.end - s) ms))

-- no end is past the last
ends_within : {H : Type 0} (s : ℕ) (hs : List (Heading H)) (n : ℕ) → EndsFit s hs n → s ≤ n
ends_within s [] n f = omega (arith, f)
ends_within s (h ∷ hs) n f = omega (arith, f.0, ends_within h.end hs n f.1)

EndsFit-push : {H : Type 0} (s : ℕ) (hs : List (Heading H)) (n : ℕ) (h : Heading H) → EndsFit s hs n → n ≤ h.end
    → EndsFit s (hs ++ h ∷ []) h.end
EndsFit-push s [] n h f l = (omega (arith, f), refl)
EndsFit-push s (g ∷ hs) n h f l = (f.0, EndsFit-push g.end hs n h f.1 l)

-- one more list at the end
headed_from-push : {H T : Type 0} (s : ℕ) (hs : List (Heading H)) (ms xs : List T) (h : Heading H)
    → EndsFit s hs (s + length ms) → h.end ≡ s + length (ms ++ xs)
    → headed_from s (hs ++ h ∷ []) (ms ++ xs) ≡ headed_from s hs ms ++ (h.head, xs) ∷ []
headed_from-push s [] ms xs h f is =
    let none : ms ≡ [] = nil_from_length ms (omega (arith, f)) in
    let all : length xs ≤ h.end - s = omega (arith, is, length-append ms xs) in
    rw none (ap (λ l. (h.head, l) ∷ []) (take_all (h.end - s) xs all))
headed_from-push s (g ∷ hs) ms xs h f is =
    let e : ℕ = g.end in
    let le : e ≤ s + length ms = ends_within e hs (s + length ms) f.1 in
    let fits : e - s ≤ length ms = omega arith in
    let same : e + length (drop (e - s) ms) ≡ s + length ms = omega (arith, length-drop (e - s) ms, f.0) in
    let more : h.end ≡ e + length (drop (e - s) ms ++ xs)
    = omega (arith, is, length-append ms xs, length-append (drop (e - s) ms) xs) in
    rw (take-append-le (e - s) ms xs fits, drop-append-le (e - s) ms xs fits)
    (ap (λ l. (g.head, take (e - s) ms) ∷ l)
    (headed_from-push e hs (drop (e - s) ms) xs h (subst (λ n. EndsFit e hs n) (sym same) f.1) more))

-- lists begin no earlier than the first
starts_rise : {H : Type 0} (s : ℕ) (hs : List (Heading H)) (n k : ℕ) → EndsFit s hs n → s ≤ start_after s hs k
starts_rise s hs n zero f = omega arith
starts_rise s [] n (suc k) f = omega arith
starts_rise s (h ∷ hs) n (suc k) f = omega (arith, f.0, starts_rise h.end hs n k f.1)

-- a list, by where it begins and ends
slice_get-headed_from : {H T : Type 0} (s : ℕ) (hs : List (Heading H)) (ms : List T) (n k : ℕ) (d : Heading H)
    → EndsFit s hs n → k < length hs → slice_get (headed_from s hs ms) k
    ≡ Some ((get_or hs k d).head, take ((get_or hs k d).end - start_after s hs k) (drop (start_after s hs k - s) ms))
slice_get-headed_from s [] ms n k d f l = absurd (omega arith)
slice_get-headed_from s (h ∷ hs) ms n zero d f l = let none : s - s ≡ 0 = omega arith in rw none refl
slice_get-headed_from s (h ∷ hs) ms n (suc k) d f l =
    let e : ℕ = h.end in
    let start : ℕ = start_after e hs k in
    let later : e ≤ start = starts_rise e hs n k f.1 in
    let sum : (e - s) + (start - e) ≡ start - s = omega (arith, f.0, later) in
    slice_get-headed_from e hs (drop (e - s) ms) n k d f.1 (omega arith)
    ∙ rw (drop-drop (start - e) (e - s) ms, sum) refl

-- a list's place lies within the members
list_within : {H : Type 0} (s : ℕ) (hs : List (Heading H)) (n k : ℕ) (d : Heading H) → EndsFit s hs n
    → k < length hs → (start_after s hs k ≤ (get_or hs k d).end) × ((get_or hs k d).end ≤ n)
list_within s [] n k d f l = absurd (omega arith)
list_within s (h ∷ hs) n zero d f l = (f.0, ends_within h.end hs n f.1)
list_within s (h ∷ hs) n (suc k) d f l = list_within h.end hs n k d f.1 (omega arith)

-- where a list begins, by the heading before it
pub start_behind : {H : Type 0} (s : ℕ) (hs : List (Heading H)) (k : ℕ) (d : Heading H) → k < length hs
    → (get_or hs k d).end ≡ start_after s hs (suc k)
start_behind s [] k d l = absurd (omega arith)
start_behind s (h ∷ hs) zero d l = refl
start_behind s (h ∷ hs) (suc k) d l = start_behind h.end hs k d (omega arith)

-- more members end where their count says
pub end_behind : {A : Type 0} (ms xs ns : List A) (count end : ℕ) → count ≡ length ms → ns ≡ ms ++ xs
    → end ≡ count + length xs → length ns ≡ end
end_behind ms xs ns count end all is e = ap length is ∙ length-append ms xs ∙ sym (omega (arith, all, e))

-- after a push to the headings and the members; room was made in the headings before
pub pushed_fits : {H T : Type 0} (hs hs' gs : List (Heading H)) (ms ns xs : List T) (h : Heading H)
    → EndsFit 0 hs (length ms) → hs' ≡ hs → gs ≡ hs' ++ h ∷ [] → ns ≡ ms ++ xs → length ns ≡ h.end
    → EndsFit 0 gs (length ns)
pushed_fits hs hs' gs ms ns xs h fit same last more is =
    rw (last, same, is) (EndsFit-push 0 hs (length ms) h fit (omega (arith, is, length-append ms xs, ap length more)))

pub pushed_lists : {H T : Type 0} (hs hs' gs : List (Heading H)) (ms ns xs : List T) (h : Heading H)
    (ls : List (H × List T)) → EndsFit 0 hs (length ms) → headed_from 0 hs ms ≡ ls → hs' ≡ hs → gs ≡ hs' ++ h ∷ []
    → ns ≡ ms ++ xs → length ns ≡ h.end → headed_from 0 gs ns ≡ ls ++ (h.head, xs) ∷ []
pushed_lists hs hs' gs ms ns xs h ls fit view same last more is =
    let end : h.end ≡ 0 + length (ms ++ xs) = omega (arith, is, ap length more) in
    let fits : EndsFit 0 hs (0 + length ms) = let e : length ms ≡ 0 + length ms = omega arith
    in subst (λ n. EndsFit 0 hs n) e fit in
    rw (last, same, more, ← view) (headed_from-push 0 hs ms xs h fits end)

-- a list's number is that of a heading
pub number_within : {H T : Type 0} (hs : List (Heading H)) (ms : List T) (ls : List (H × List T)) (k : ℕ)
    → headed_from 0 hs ms ≡ ls → k < length ls → k < length hs
number_within hs ms ls k e l = omega (arith, length-headed_from 0 hs ms, ap length e)

-- where the list of a number lies
pub place_within : {H T : Type 0} (hs : List (Heading H)) (ms : List T) (ls : List (H × List T)) (k start : ℕ)
    (h : Heading H) → EndsFit 0 hs (length ms) → headed_from 0 hs ms ≡ ls → k < length ls
    → start ≡ start_after 0 hs k → h ≡ get_or hs k h → (start ≤ h.end) × (h.end ≤ length ms)
place_within hs ms ls k start h fit view l is_start is =
    let within = list_within 0 hs (length ms) k h fit (number_within hs ms ls k view l) in
    let end : h.end ≡ (get_or hs k h).end = ap (λ g. g.end) is in
    (omega (arith, within.0, is_start, end), omega (arith, within.1, end))

-- the list of a number, under its head
pub list_at : {H T : Type 0} (hs : List (Heading H)) (ms : List T) (ls : List (H × List T)) (k start : ℕ)
    (h : Heading H) → EndsFit 0 hs (length ms) → headed_from 0 hs ms ≡ ls → k < length ls
    → start ≡ start_after 0 hs k → h ≡ get_or hs k h
    → slice_get ls k ≡ Some (h.head, take (h.end - start) (drop start ms))
list_at hs ms ls k start h fit view l is_start is =
    let none : start_after 0 hs k - 0 ≡ start_after 0 hs k = omega arith in
    sym (ap (λ x. slice_get x k) view)
    ∙ (slice_get-headed_from 0 hs ms (length ms) k h fit (number_within hs ms ls k view l)
    ∙ rw (none, ← is_start, ← is) refl)

-- the lists have all members
pub members_counted : {H T : Type 0} (s : ℕ) (hs : List (Heading H)) (ms : List T) (n : ℕ) → n ≡ s + length ms
    → EndsFit s hs n → sum (map (λ (l : H × List T). length l.1) (headed_from s hs ms)) ≡ length ms
members_counted s [] ms n is fit = omega (arith, is, fit)
members_counted {H} {T} s (h ∷ hs) ms n is fit =
    let count = h.end - s in
    let within : h.end ≤ n = ends_within h.end hs n fit.1 in
    let rises : s ≤ h.end = fit.0 in
    let counted : n ≡ h.end + length (drop count ms) = omega (arith, is, within, rises, length-drop count ms) in
    let rest = members_counted h.end hs (drop count ms) n counted fit.1 in
    omega (
      arith,
      rest,
      length-drop count ms,
      length-take count ms,
      is,
      within,
      rises,
      sum_by-cons (λ n. n) (length (take count ms)) (map (λ (l : H × List T). length l.1)
          (headed_from h.end hs (drop count ms))),
    )
