-- Where the lines of a text begin: how many do up to an offset, and how far the last of these is away.
use Rattle.std.proofs.Common.{◌≡◌, ℕ, zero, suc, ◌+◌, ◌<◌, ◌≤◌, Bool, true, false, cond, List, [], ◌∷◌, ◌++◌, length}
use Rattle.std.proofs.Common.{get_or, take, reverse, not, refl, subst, sym, ap, ◌-◌, length-append, ◌∙◌, arith}
use Rattle.std.proofs.Common.{append-nil, append_assoc, leb}
use Rattle.std.proofs.lemmas.Bool.Decides.{nat_tests}
use Rattle.std.proofs.lemmas.List.{length-reverse, reverse-append}
use Rattle.std.proofs.lemmas.List.Sums.{sum_by-cons, take_while-cons}
use Rattle.std.proofs.lemmas.Bool.{OnTrue_from}
use Rattle.std.specs.Bool.{OnTrue}
use Rattle.std.specs.List.{count_by, take_while}
use Rattle.std.specs.Prelude.{nat_lt}
use Rattle.std.proofs.lemmas.List.Sorted.{IsPartitionedBy-leb}
use Rattle.std.specs.List.Sorted.{IsNonDecreasing, IsPartitionPoint, IsPartitionedBy}
use Rattle.ly_base.specs.Location.{column_behind, is_newline, line_behind}
use Rattle.ly_spans.specs.Private.LineStarts.{line_starts, starts_from}

-- one that passes a test is counted, and one that fails it isn't
count_by-cons : {X : Type 0} (p : X → Bool) (x : X) (xs : List X)
    → count_by p (x ∷ xs) ≡ cond (p x) 1 0 + count_by p xs
count_by-cons p x xs = sum_by-cons (λ y. cond (p y) 1 0) x xs

count_passed : {X : Type 0} (p : X → Bool) (x : X) (xs : List X) → p x ≡ true
    → count_by p (x ∷ xs) ≡ 1 + count_by p xs
count_passed p x xs is = count_by-cons p x xs ∙ ap (λ b. cond b 1 0 + count_by p xs) is

count_failed : {X : Type 0} (p : X → Bool) (x : X) (xs : List X) → p x ≡ false → count_by p (x ∷ xs) ≡ count_by p xs
count_failed p x xs is =
    let counted : count_by p (x ∷ xs) ≡ 0 + count_by p xs
    = count_by-cons p x xs ∙ ap (λ b. cond b 1 0 + count_by p xs) is in
    omega arith

-- where a test begins to fail there are so many that pass it
pub count_at_point : {X : Type 0} (p : X → Bool) (xs : List X) (i : ℕ) → i ≤ length xs
    → IsPartitionPoint (λ x. p x ≡ true) (λ x. p x ≡ false) xs i → count_by p xs ≡ i
count_at_point p [] i within point = omega arith
count_at_point p (x ∷ xs) zero within point = count_failed p x xs (point.1 0 x (omega arith) (omega arith))
    ∙ count_at_point p xs 0 (omega arith) (
      λ k d low high. absurd (omega arith),
      λ k d low high. point.1 (suc k) d (omega arith) (omega arith),
    )
count_at_point p (x ∷ xs) (suc i) within point =
    let counted = count_passed p x xs (point.0 0 x (omega arith) (omega arith)) in
    let others = count_at_point p xs i (omega arith) (
      λ k d low high. point.0 (suc k) d (omega arith) (omega arith),
      λ k d low high. point.1 (suc k) d (omega arith) (omega arith),
    ) in
    omega (arith, counted, others)

-- lines begin behind a byte, if the next one begins behind the next byte
above-next : (t : Bool) (at d : ℕ) (starts : List ℕ) → ((k : ℕ) → k < length starts → suc at < get_or starts k d)
    → (k : ℕ) → k < length (cond t (suc at ∷ starts) starts) → at < get_or (cond t (suc at ∷ starts) starts) k d
above-next true at d starts above zero within = omega arith
above-next true at d starts above (suc k) within = omega (arith, above k (omega arith))
above-next false at d starts above k within = omega (arith, above k within)

-- a line begins behind the newline
starts_above : (text : List ℕ) (at k d : ℕ) → k < length (starts_from at text) → at < get_or (starts_from at text) k d
starts_above [] at k d within = absurd (omega arith)
starts_above (b ∷ bs) at k d within =
    above-next (is_newline b) at d (starts_from (suc at) bs) (λ k. starts_above bs (suc at) k d) k within

-- a lower number before those that rise
rising-cons : (x : ℕ) (xs : List ℕ) → ((k d : ℕ) → k < length xs → x < get_or xs k d) → IsNonDecreasing xs
    → IsNonDecreasing (x ∷ xs)
rising-cons x xs below rising zero zero d low high = omega arith
rising-cons x xs below rising zero (suc j) d low high = omega (arith, below j d (omega arith))
rising-cons x xs below rising (suc i) zero d low high = absurd (omega arith)
rising-cons x xs below rising (suc i) (suc j) d low high = rising i j d (omega arith) (omega arith)

rising-next : (t : Bool) (at : ℕ) (starts : List ℕ) → ((k d : ℕ) → k < length starts → at < get_or starts k d)
    → IsNonDecreasing starts → IsNonDecreasing (cond t (at ∷ starts) starts)
rising-next true at starts above rising = rising-cons at starts above rising
rising-next false at starts above rising = rising

starts_rise : (text : List ℕ) (at : ℕ) → IsNonDecreasing (starts_from at text)
starts_rise [] at = λ i j d low high. absurd (omega arith)
starts_rise (b ∷ bs) at =
    rising-next (is_newline b) (suc at) (starts_from (suc at) bs) (starts_above bs (suc at)) (starts_rise bs (suc at))

pub line_starts_rise : (text : List ℕ) → IsNonDecreasing (line_starts text)
line_starts_rise text = rising-cons 0 (starts_from 0 text) (starts_above text 0) (starts_rise text 0)

-- a line begins no later than an offset
abbrev no_later : ℕ → ℕ → Bool
no_later offset start = leb start offset

no_later-true : (s o : ℕ) → s ≤ o → leb s o ≡ true
no_later-true s o h = grind (arith, nat_tests)

no_later-false : (s o : ℕ) → o < s → leb s o ≡ false
no_later-false s o h = grind (arith, nat_tests)

-- none does where all begin later
none_counted : (o : ℕ) (xs : List ℕ) → ((k d : ℕ) → k < length xs → o < get_or xs k d)
    → count_by (no_later o) xs ≡ 0
none_counted o [] later = refl
none_counted o (x ∷ xs) later =
    count_failed (no_later o) x xs (no_later-false x o (later 0 x (omega arith)))
    ∙ none_counted o xs (λ k d h. later (suc k) d (omega arith))

counted-next : (t : Bool) (at o n : ℕ) (starts : List ℕ) → at ≤ o → count_by (no_later o) starts ≡ n
    → count_by (no_later o) (cond t (at ∷ starts) starts) ≡ cond t 1 0 + n
counted-next true at o n starts within is =
    count_passed (no_later o) at starts (no_later-true at o within) ∙ ap (λ n. 1 + n) is
counted-next false at o n starts within is = omega (arith, is)

-- of the lines behind newlines as many begin no later than an offset as there are newlines in front of it
starts_counted : (text : List ℕ) (at o end : ℕ) → end ≡ at + o
    → count_by (no_later end) (starts_from at text) ≡ count_by is_newline (take o text)
starts_counted [] at zero end is = refl
starts_counted [] at (suc o) end is = refl
starts_counted (b ∷ bs) at zero end is =
    none_counted end (starts_from at (b ∷ bs)) (λ k d h. omega (arith, is, starts_above (b ∷ bs) at k d h))
starts_counted (b ∷ bs) at (suc o) end is =
    counted-next (is_newline b) (suc at) end (count_by is_newline (take o bs)) (starts_from (suc at) bs) (omega arith)
    (starts_counted bs (suc at) o end (omega arith))
    ∙ sym (count_by-cons is_newline b (take o bs))

-- how many lines begin no later than an offset
pub lines_counted : (text : List ℕ) (o : ℕ)
    → count_by (no_later o) (line_starts text) ≡ 1 + count_by is_newline (take o text)
lines_counted text o = count_passed (no_later o) 0 (starts_from 0 text) (no_later-true 0 o (omega arith))
    ∙ ap (λ n. 1 + n) (starts_counted text 0 o o (omega arith))

abbrev in_line : ℕ → Bool
in_line byte = not (is_newline byte)

-- what stands behind the last newline
while_before : (xs ys : List ℕ) (b : ℕ) → is_newline b ≡ true
    → take_while in_line (xs ++ b ∷ ys) ≡ take_while in_line xs
while_before [] ys b is = take_while-cons in_line b ys
    ∙ ap (λ t. cond (not t) (b ∷ take_while in_line ys) []) is
while_before (x ∷ xs) ys b is = take_while-cons in_line x (xs ++ b ∷ ys)
    ∙ (ap (λ t. cond (in_line x) (x ∷ t) []) (while_before xs ys b is)
    ∙ sym (take_while-cons in_line x xs))

-- a byte behind others is the first of them from behind
reverse-push : (xs : List ℕ) (b : ℕ) → reverse (xs ++ b ∷ []) ≡ b ∷ reverse xs
reverse-push xs b = reverse-append xs (b ∷ [])

-- what stands behind the last newline, where one is known
while_behind : (front xs : List ℕ) (b : ℕ) → is_newline b ≡ true
    → take_while in_line (reverse (front ++ b ∷ xs)) ≡ take_while in_line (reverse xs)
while_behind front xs b is = ap (take_while in_line) (reverse-append front (b ∷ xs)
    ∙ (ap (λ t. t ++ reverse front) (reverse-append (b ∷ []) xs)
    ∙ append_assoc (reverse xs) (b ∷ []) (reverse front)))
    ∙ while_before (reverse xs) (reverse front) b is

-- The line of an offset begins at `start`, and `front` of it stands before the text. So the last line that begins no
-- later than the offset is so far away as bytes stand behind the last newline.
module _ (d : ℕ) where
  abbrev IsLastStart : List ℕ → List ℕ → ℕ → List ℕ → ℕ → Type 0
  IsLastStart front taken start starts end = get_or (start ∷ starts) (count_by is_newline taken) d
      + length (take_while in_line (reverse (front ++ taken))) ≡ end

  abbrev IsInLine : List ℕ → Type 0
  IsInLine front = take_while in_line (reverse front) ≡ reverse front

  -- a newline comes, or a byte of the line
  last-next : (t : Bool) (b : ℕ) (front taken : List ℕ) (start at end : ℕ) (starts : List ℕ) → is_newline b ≡ t
      → at ≡ start + length front → IsInLine front → IsLastStart [] taken (suc at) starts end
      → (IsInLine (front ++ b ∷ []) → IsLastStart (front ++ b ∷ []) taken start starts end)
      → IsLastStart front (b ∷ taken) start (cond t (suc at ∷ starts) starts) end
  last-next true b front taken start at end starts e is plain behind within =
      let count : count_by is_newline (b ∷ taken) ≡ suc (count_by is_newline taken)
      = omega (arith, count_passed is_newline b taken e) in
      omega (
        arith,
        behind,
        ap (λ n. get_or (start ∷ suc at ∷ starts) n d) count,
        ap length (while_behind front taken b e),
      )
  last-next false b front taken start at end starts e is plain behind within =
      let more : IsInLine (front ++ b ∷ [])
      = ap (take_while in_line) (reverse-push front b) ∙ (take_while-cons in_line b (reverse front)
      ∙ (ap (λ t. cond (not t) (b ∷ take_while in_line (reverse front)) []) e
      ∙ (ap (λ t. b ∷ t) plain ∙ sym (reverse-push front b)))) in
      omega (
        arith,
        within more,
        ap (λ n. get_or (start ∷ starts) n d) (count_failed is_newline b taken e),
        ap (λ t. length (take_while in_line (reverse t))) (append_assoc front (b ∷ []) taken),
      )

  last_start : (text front : List ℕ) (start at o : ℕ) → o ≤ length text → at ≡ start + length front → IsInLine front
      → IsLastStart front (take o text) start (starts_from at text) (at + o)
  last_start text front start at zero within is plain =
      let behind : length (take_while in_line (reverse (front ++ []))) ≡ length front
      = ap length (ap (λ t. take_while in_line (reverse t)) (append-nil front) ∙ plain) ∙ length-reverse front in
      omega (arith, behind, is)
  last_start [] front start at (suc o) within is plain = absurd (omega arith)
  last_start (b ∷ bs) front start at (suc o) within is plain =
      let end : suc at + o ≡ at + suc o = omega arith in
      last-next (is_newline b) b front (take o bs) start at (at + suc o) (starts_from (suc at) bs) refl is plain
      (subst (IsLastStart [] (take o bs) (suc at) (starts_from (suc at) bs)) end
      (last_start bs [] (suc at) (suc at) o (omega arith) (omega arith) refl))
      (λ more. subst (IsLastStart (front ++ b ∷ []) (take o bs) start (starts_from (suc at) bs)) end
      (last_start bs (front ++ b ∷ []) start (suc at) o (omega arith) (omega (arith, is, length-append front (b ∷ [])))
      more))

-- Where lines begin later than an offset is the number of its line.
pub line_is : (text starts : List ℕ) (o line : ℕ) → starts ≡ line_starts text → line ≤ length starts
    → IsPartitionPoint (λ start. leb start o ≡ true) (λ start. leb start o ≡ false) starts line
    → line ≡ line_behind (take o text)
line_is text starts o line is within point =
    sym (count_at_point (no_later o) starts line within point) ∙ (ap (count_by (no_later o)) is ∙ lines_counted text o)

-- a line that begins no later than an offset is that of it, where the next one, if there is one, begins later
pub is_line : (text starts : List ℕ) (o before : ℕ) → starts ≡ line_starts text → before < length starts
    → get_or starts before 0 ≤ o → (suc before < length starts → o < get_or starts (suc before) 0)
    → suc before ≡ line_behind (take o text)
is_line text starts o before is within start next =
    let rising = subst IsNonDecreasing (sym is) (line_starts_rise text) in
    line_is text starts o (suc before) is (omega (arith, within)) (
      λ k d low high. no_later-true (get_or starts k d) o
          (omega (arith, rising k before d (omega (arith, low)) within, same_or starts before d within, start)),
      λ k d low high. no_later-false (get_or starts k d) o (omega (
        arith,
        rising (suc before) k d (omega (arith, low)) high,
        same_or starts (suc before) d (omega (arith, low, high)),
        next (omega (arith, low, high)),
      )),
    )
  where
    same_or : (xs : List ℕ) (k d : ℕ) → k < length xs → get_or xs k d ≡ get_or xs k 0
    same_or [] k d within = absurd (omega (arith, within))
    same_or (x ∷ xs) zero d within = refl
    same_or (x ∷ xs) (suc k) d within = same_or xs k d (omega (arith, within))

-- by the starts that are found of a line and of the next one
pub before_next : (text xs ys : List ℕ) (o line before start next : ℕ) → xs ≡ line_starts text → ys ≡ line_starts text
    → line ≡ suc before → before < length xs → start ≡ get_or xs before 0 → start ≤ o → next ≡ get_or ys line 0
    → OnTrue (nat_lt o next) (line ≡ line_behind (take o text))
before_next text xs ys o line before start next isx isy follows within first low second =
    OnTrue_from (nat_lt o next) (line ≡ line_behind (take o text)) (λ less. follows ∙ is_line text xs o before isx
    within (omega (arith, first, low)) (λ more. omega (
      arith,
      less_of o next less,
      second,
      ap (λ n. get_or ys n 0) follows,
      ap (λ zs. get_or zs (suc before) 0) (isx ∙ sym isy),
    )))
  where
    less_of : (a b : ℕ) → nat_lt a b ≡ true → a < b
    less_of a b less = grind (arith, nat_tests)

-- where there is no next one
pub at_last : (text xs ys : List ℕ) (o line before start : ℕ) → xs ≡ line_starts text → ys ≡ line_starts text
    → line ≡ suc before → before < length xs → start ≡ get_or xs before 0 → start ≤ o → length ys ≤ line
    → line ≡ line_behind (take o text)
at_last text xs ys o line before start isx isy follows within first low last =
    follows ∙ is_line text xs o before isx within (omega (arith, first, low))
    (λ more. absurd (omega (arith, more, last, follows, ap length (isx ∙ sym isy))))

-- and the start before it is that of its line
pub column_is : (text starts : List ℕ) (o line start : ℕ) → starts ≡ line_starts text → o ≤ length text
    → line ≡ line_behind (take o text) → start ≡ get_or starts (line - 1) start
    → start + column_behind (take o text) ≡ o + 1
column_is text starts o line start is within behind at =
    let before : line - 1 ≡ count_by is_newline (take o text) = omega (arith, behind) in
    omega (
      arith,
      last_start start text [] 0 0 o within (omega arith) refl,
      at ∙ (ap (λ xs. get_or xs (line - 1) start) is ∙ ap (λ n. get_or (line_starts text) n start) before),
    )

-- lines that begin no later than an offset stand before the others
pub lines_part : (text starts : List ℕ) (o : ℕ) → starts ≡ line_starts text
    → IsPartitionedBy (λ start. leb start o) starts
lines_part text starts o is = subst (IsPartitionedBy (λ start. leb start o)) (sym is)
    (IsPartitionedBy-leb (λ start. start) (line_starts text) o (line_starts_rise text))

-- no column is greater than its offset and 1
pub column_within : (text : List ℕ) (o : ℕ) → o ≤ length text → column_behind (take o text) ≤ o + 1
column_within text o within = omega (arith, last_start 0 text [] 0 0 o within (omega arith) refl)
