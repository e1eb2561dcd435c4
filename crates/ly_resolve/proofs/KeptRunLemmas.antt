-- Conflicts that are kept as runs.
use Rattle.std.proofs.Common.{◌≡◌, ◌∙◌, ◌+◌, ◌-◌, ◌<◌, ◌≤◌, ◌++◌, ◌∷◌, [], ℕ, zero, suc, Bool, true, false, List}
use Rattle.std.proofs.Common.{Some, ap, ap₂, append-nil, append_assoc, arith, cond, length, refl, set}
use Rattle.std.proofs.Common.{slice_index_or, subst, sym, take}
use Rattle.std.specs.Prelude.{count_by, option_map, slice_get}
use Rattle.std.proofs.lemmas.List.{length-append, length_push}
use Rattle.std.proofs.lemmas.List.Sums.{sum_by-append}
use Rattle.std.proofs.lemmas.Option.{get_or_from_slice_get, none-some, same_Some, slice_get-get_or}
use Rattle.ly_resolve.specs.Private.Conflicts.{AreRuns, before, end_from, items_from, row_to, start_from}
use Rattle.ly_resolve.specs.Values.{same_kind}
use Rattle.ly_resolve.specs.contracts.conflict.ConflictKindPartialEq.TheImpl as test
use Rattle.ly_resolve.specs.declared.conflict.Conflict.{Conflict}
use Rattle.ly_resolve.specs.declared.conflict.ConflictKind.{ConflictKind}
use Rattle.ly_resolve.specs.declared.conflict.ConflictKind.TheVariants.{ReduceReduce, ShiftReduce}
use Rattle.ly_resolve.specs.declared.conflicts.Run.{Run}

-- the conflict before another terminal
abbrev at_terminal : Conflict → ℕ → Conflict
at_terminal c t = record {
  state = c.state;
  terminal = record { 0 = t };
  kind = c.kind;
  rule = c.rule;
  choice = c.choice;
}

before_same : (c : Conflict) (n m k : ℕ) → n + m ≡ k → before m (before n c) ≡ before k c
before_same c n m k e = ap (at_terminal c) (omega (arith, e))

before_none : (c : Conflict) (n : ℕ) → n ≡ 0 → c ≡ before n c
before_none c n e = ap (at_terminal c) (omega (arith, e))

module _ {X : Type 0} where
  -- what stands at a place of two lists
  get_left : (xs ys : List X) (k : ℕ) → k < length xs → slice_get (xs ++ ys) k ≡ slice_get xs k
  get_left [] ys k lt = absurd (omega (arith, lt))
  get_left (x ∷ xs) ys zero lt = refl
  get_left (x ∷ xs) ys (suc k) lt = get_left xs ys k (omega (arith, lt))

  get_right : (xs ys : List X) (k m : ℕ) → length xs + m ≡ k → slice_get (xs ++ ys) k ≡ slice_get ys m
  get_right [] ys k m e = ap (slice_get ys) (omega (arith, e))
  get_right (x ∷ xs) ys zero m e = absurd (omega (arith, e))
  get_right (x ∷ xs) ys (suc k) m e = get_right xs ys k m (omega (arith, e))

-- how long a row is
row_length : (c : Conflict) (n : ℕ) → length (row_to c n) ≡ n
row_length c zero = refl
row_length c (suc n) = omega (arith, length_push (row_to (before 1 c) n) c, row_length (before 1 c) n)

-- its conflicts, from its end
row_at : (c : Conflict) (n k m : ℕ) → k + m + 1 ≡ n → slice_get (row_to c n) k ≡ Some (before m c)
row_at c zero k m e = absurd (omega (arith, e))
row_at c (suc n) k zero e =
    get_right (row_to (before 1 c) n) (c ∷ []) k 0 (omega (arith, e, row_length (before 1 c) n))
    ∙ ap Some (before_none c 0 refl)
row_at c (suc n) k (suc m) e =
    get_left (row_to (before 1 c) n) (c ∷ []) k (omega (arith, e, row_length (before 1 c) n))
    ∙ row_at (before 1 c) n k m (omega (arith, e))
    ∙ ap Some (before_same c 1 m (suc m) (omega arith))

-- a run that was read at a place
pub run_there : (rs : List Run) (k : ℕ) (r : Run) → (k < length rs) × ((d : Run) → r ≡ slice_index_or rs k d)
    → slice_get rs k ≡ Some r
run_there rs k r read = slice_get-get_or rs k r read.0 ∙ ap Some (sym (read.1 r))

-- where runs begin and end
pub start_none : (s : ℕ) (rs : List Run) → start_from s rs 0 ≡ s
start_none s [] = refl
start_none s (r ∷ rs) = refl

pub start_next : (s : ℕ) (rs : List Run) (k : ℕ) (r : Run) → slice_get rs k ≡ Some r
    → start_from s rs (k + 1) ≡ r.end
start_next s rs k r is = ap (start_from s rs) (omega arith) ∙ next s rs k is
  where
    next : (s : ℕ) (rs : List Run) (k : ℕ) → slice_get rs k ≡ Some r → start_from s rs (suc k) ≡ r.end
    next s [] k is = absurd (none-some r is)
    next s (x ∷ rs) zero is = start_none x.end rs ∙ ap (λ (y : Run). y.end) (same_Some x r is)
    next s (x ∷ rs) (suc k) is = next x.end rs k is

-- a run that stands at a place ends behind an index
pub ends_behind : (rs : List Run) (k i : ℕ) (d : Run) → i < (slice_index_or rs k d).end → (r : Run)
    → slice_get rs k ≡ Some r → i < r.end
ends_behind rs k i d lt r is = subst (λ (x : Run). i < x.end) (get_or_from_slice_get rs k r d is) lt

pub start_taken : (s : ℕ) (rs : List Run) (k : ℕ) → end_from s (take k rs) ≡ start_from s rs k
start_taken s [] zero = refl
start_taken s [] (suc k) = refl
start_taken s (r ∷ rs) zero = refl
start_taken s (r ∷ rs) (suc k) = start_taken r.end rs k

pub end_last : (s : ℕ) (rs : List Run) (k : ℕ) (r : Run) → k + 1 ≡ length rs → slice_get rs k ≡ Some r
    → end_from s rs ≡ r.end
end_last s [] k r e is = absurd (none-some r is)
end_last s (x ∷ []) zero r e is = ap (λ (y : Run). y.end) (same_Some x r is)
end_last s (x ∷ y ∷ rs) zero r e is = absurd (omega (arith, e))
end_last s (x ∷ rs) (suc k) r e is = end_last x.end rs k r (omega (arith, e)) is

start_low : (s : ℕ) (rs : List Run) (k : ℕ) → AreRuns s rs → s ≤ start_from s rs k
start_low s [] k are = omega arith
start_low s (r ∷ rs) zero are = omega arith
start_low s (r ∷ rs) (suc k) are = omega (arith, are.0, start_low r.end rs k are.2)

-- a run ends behind its begin, and has no more conflicts than there are terminals
pub run_fits : (s : ℕ) (rs : List Run) (k : ℕ) (r : Run) → AreRuns s rs → slice_get rs k ≡ Some r
    → (start_from s rs k < r.end) × (r.end ≤ start_from s rs k + r.last.terminal.0 + 1)
run_fits s [] k r are is = absurd (none-some r is)
run_fits s (x ∷ rs) zero r are is =
    subst (λ (y : Run). (s < y.end) × (y.end ≤ s + y.last.terminal.0 + 1)) (same_Some x r is) (are.0, are.1)
run_fits s (x ∷ rs) (suc k) r are is = run_fits x.end rs k r are.2 is

-- how many conflicts there are
pub items_length : (s : ℕ) (rs : List Run) → AreRuns s rs → length (items_from s rs) + s ≡ end_from s rs
items_length s [] are = omega arith
items_length s (r ∷ rs) are =
    omega (
      arith,
      are.0,
      length-append (row_to r.last (r.end - s)) (items_from r.end rs),
      row_length r.last (r.end - s),
      items_length r.end rs are.2,
    )

-- a conflict by its index, and by its run
pub item_at : (s : ℕ) (rs : List Run) (i k m : ℕ) → AreRuns s rs → s + m ≡ i → start_from s rs k ≤ i
    → ((r : Run) → slice_get rs k ≡ Some r → i < r.end)
    → slice_get (items_from s rs) m ≡ option_map (λ r. before (r.end - 1 - i) r.last) (slice_get rs k)
item_at s [] i k m are e low high = refl
item_at s (r ∷ rs) i zero m are e low high =
    let lt = high r refl in
    let long = row_length r.last (r.end - s) in
    get_left (row_to r.last (r.end - s)) (items_from r.end rs) m (omega (arith, e, lt, long))
    ∙ row_at r.last (r.end - s) m (r.end - 1 - i) (omega (arith, e, lt))
item_at s (r ∷ rs) i (suc k) m are e low high =
    let behind = start_low r.end rs k are.2 in
    let long = row_length r.last (r.end - s) in
    let rises = are.0 in
    get_right (row_to r.last (r.end - s)) (items_from r.end rs) m (i - r.end)
    (omega (arith, e, low, behind, long, rises))
    ∙ item_at r.end rs i k (i - r.end) are.2 (omega (arith, low, behind)) low high

-- one more run
row_of_one : (c : Conflict) (n : ℕ) → n ≡ 1 → row_to c n ++ [] ≡ c ∷ []
row_of_one c n e = ap (λ m. row_to c m ++ []) e

pub items_begun : (s : ℕ) (rs : List Run) (r : Run) → AreRuns s rs → r.end ≡ end_from s rs + 1
    → items_from s (rs ++ r ∷ []) ≡ items_from s rs ++ r.last ∷ []
items_begun s [] r are e = row_of_one r.last (r.end - s) (omega (arith, e))
items_begun s (x ∷ rs) r are e =
    ap (λ (l : List Conflict). row_to x.last (x.end - s) ++ l) (items_begun x.end rs r are.2 e)
    ∙ sym (append_assoc (row_to x.last (x.end - s)) (items_from x.end rs) (r.last ∷ []))

pub runs_begun : (s : ℕ) (rs : List Run) (r : Run) → AreRuns s rs → r.end ≡ end_from s rs + 1
    → AreRuns s (rs ++ r ∷ [])
runs_begun s [] r are e = (omega (arith, e), omega (arith, e), tt)
runs_begun s (x ∷ rs) r are e = (are.0, are.1, runs_begun x.end rs r are.2 e)

-- one more conflict of the last run
row_gone_on : (c d : Conflict) (n m : ℕ) → c ≡ before 1 d → m ≡ suc n
    → row_to d m ++ [] ≡ (row_to c n ++ []) ++ d ∷ []
row_gone_on c d n m on e =
    append-nil (row_to d m)
    ∙ ap (row_to d) e
    ∙ ap (λ (x : Conflict). row_to x n ++ d ∷ []) (sym on)
    ∙ ap (λ l. l ++ d ∷ []) (sym (append-nil (row_to c n)))

pub items_gone_on : (s : ℕ) (rs : List Run) (k : ℕ) (l r : Run) → AreRuns s rs → k + 1 ≡ length rs
    → slice_get rs k ≡ Some l → l.last ≡ before 1 r.last → r.end ≡ end_from s rs + 1
    → items_from s (set rs k r) ≡ items_from s rs ++ r.last ∷ []
items_gone_on s [] k l r are last is on e = absurd (none-some l is)
items_gone_on s (x ∷ []) zero l r are last is on e =
    let rises = are.0 in
    row_gone_on x.last r.last (x.end - s) (r.end - s) (ap (λ (y : Run). y.last) (same_Some x l is) ∙ on)
    (omega (arith, e, rises))
items_gone_on s (x ∷ y ∷ rs) zero l r are last is on e = absurd (omega (arith, last))
items_gone_on s (x ∷ rs) (suc k) l r are last is on e =
    ap (λ (l : List Conflict). row_to x.last (x.end - s) ++ l)
    (items_gone_on x.end rs k l r are.2 (omega (arith, last)) is on e)
    ∙ sym (append_assoc (row_to x.last (x.end - s)) (items_from x.end rs) (r.last ∷ []))

pub runs_gone_on : (s : ℕ) (rs : List Run) (k : ℕ) (l r : Run) → AreRuns s rs → k + 1 ≡ length rs
    → slice_get rs k ≡ Some l → l.last ≡ before 1 r.last → 1 ≤ r.last.terminal.0 → r.end ≡ end_from s rs + 1
    → AreRuns s (set rs k r)
runs_gone_on s [] k l r are last is on some e = absurd (none-some l is)
runs_gone_on s (x ∷ []) zero l r are last is on some e =
    let same : x.last.terminal.0 ≡ r.last.terminal.0 - 1
    = ap (λ (y : Run). y.last.terminal.0) (same_Some x l is) ∙ ap (λ (c : Conflict). c.terminal.0) on in
    (omega (arith, e, are.0), omega (arith, e, are.1, same, some), tt)
runs_gone_on s (x ∷ y ∷ rs) zero l r are last is on some e = absurd (omega (arith, last))
runs_gone_on s (x ∷ rs) (suc k) l r are last is on some e =
    (are.0, are.1, runs_gone_on x.end rs k l r are.2 (omega (arith, last)) is on some e)

-- the conflicts of one run more
items_more : (s : ℕ) (rs : List Run) (k : ℕ) (r : Run) → slice_get rs k ≡ Some r
    → items_from s (take (suc k) rs) ≡ items_from s (take k rs) ++ row_to r.last (r.end - start_from s rs k)
items_more s [] k r is = absurd (none-some r is)
items_more s (x ∷ rs) zero r is =
    append-nil (row_to x.last (x.end - s)) ∙ ap (λ (y : Run). row_to y.last (y.end - s)) (same_Some x r is)
items_more s (x ∷ rs) (suc k) r is =
    ap (λ (l : List Conflict). row_to x.last (x.end - s) ++ l) (items_more x.end rs k r is)
    ∙ sym (append_assoc (row_to x.last (x.end - s)) (items_from x.end (take k rs))
    (row_to r.last (r.end - start_from x.end rs k)))

-- kinds that pass the test are the same
pub kinds_tested : (a b : ConflictKind) → (test.eq-value).it a b ≡ same_kind b a
kinds_tested ShiftReduce ShiftReduce = refl
kinds_tested ShiftReduce ReduceReduce = refl
kinds_tested ReduceReduce ShiftReduce = refl
kinds_tested ReduceReduce ReduceReduce = refl

-- how many conflicts of a row are of a kind
row_count : (k : ConflictKind) (c : Conflict) (n : ℕ)
    → count_by (λ x. same_kind k x.kind) (row_to c n) ≡ cond (same_kind k c.kind) n 0
row_count k c zero = none (same_kind k c.kind)
  where
    none : (b : Bool) → ◌≡◌ {A = ℕ} 0 (cond b 0 0)
    none true = refl
    none false = refl
row_count k c (suc n) =
    sum_by-append (λ (x : Conflict). cond (same_kind k x.kind) 1 0) (row_to (before 1 c) n) (c ∷ [])
    ∙ ap (λ m. m + (0 + cond (same_kind k c.kind) 1 0)) (row_count k (before 1 c) n)
    ∙ one (same_kind k c.kind)
  where
    one : (b : Bool) → cond b n 0 + (0 + cond b 1 0) ≡ cond b (suc n) 0
    one true = omega arith
    one false = omega arith

-- and of one run more
pub count_more : (k : ConflictKind) (rs : List Run) (i : ℕ) (r : Run) → slice_get rs i ≡ Some r
    → count_by (λ x. same_kind k x.kind) (items_from 0 (take (i + 1) rs))
    ≡ count_by (λ x. same_kind k x.kind) (items_from 0 (take i rs))
    + cond (same_kind k r.last.kind) (r.end - start_from 0 rs i) 0
count_more k rs i r is =
    let next : i + 1 ≡ suc i = omega arith in
    ap (λ n. count_by (λ (x : Conflict). same_kind k x.kind) (items_from 0 (take n rs))) next
    ∙ ap (count_by (λ (x : Conflict). same_kind k x.kind)) (items_more 0 rs i r is)
    ∙ sum_by-append (λ (x : Conflict). cond (same_kind k x.kind) 1 0) (items_from 0 (take i rs))
    (row_to r.last (r.end - start_from 0 rs i))
    ∙ ap (λ m. count_by (λ (x : Conflict). same_kind k x.kind) (items_from 0 (take i rs)) + m)
    (row_count k r.last (r.end - start_from 0 rs i))

-- what a loop over the runs adds for the next one
pub start_below : (rs : List Run) (k : ℕ) (d : Run) (n : ℕ) → AreRuns 0 rs → k < length rs → n ≡ start_from 0 rs k
    → n ≤ (slice_index_or rs k d).end
start_below rs k d n are lt e =
    omega (arith, e, (run_fits 0 rs k (slice_index_or rs k d) are (slice_get-get_or rs k d lt)).0)

pub count_grown : (k : ConflictKind) (rs : List Run) (i : ℕ) (d : Run) (b : Bool) (old new start : ℕ)
    → i < length rs → b ≡ (test.eq-value).it (slice_index_or rs i d).last.kind k
    → old ≡ count_by (λ x. same_kind k x.kind) (items_from 0 (take i rs)) → start ≡ start_from 0 rs i
    → new ≡ old + cond b ((slice_index_or rs i d).end - start) 0
    → new ≡ count_by (λ x. same_kind k x.kind) (items_from 0 (take (i + 1) rs))
count_grown k rs i d b old new start lt tested before starts grown =
    let r = slice_index_or rs i d in
    grown
    ∙ ap (λ t. old + cond t (r.end - start) 0) (tested ∙ kinds_tested r.last.kind k)
    ∙ ap₂ (λ n m. n + cond (same_kind k r.last.kind) (r.end - m) 0) before starts
    ∙ sym (count_more k rs i r (slice_get-get_or rs i d lt))

pub start_read : (rs : List Run) (k : ℕ) (d : Run) → k < length rs
    → (slice_index_or rs k d).end ≡ start_from 0 rs (k + 1)
start_read rs k d lt = sym (start_next 0 rs k (slice_index_or rs k d) (slice_get-get_or rs k d lt))

pub within_grown : (rs : List Run) (i : ℕ) (d : Run) (b : Bool) (old new start : ℕ) → AreRuns 0 rs → i < length rs
    → start ≡ start_from 0 rs i → old ≤ start → new ≡ old + cond b ((slice_index_or rs i d).end - start) 0
    → new ≤ (slice_index_or rs i d).end
within_grown rs i d true old new start are lt starts within grown =
    omega (arith, start_below rs i d start are lt starts, within, grown)
within_grown rs i d false old new start are lt starts within grown =
    omega (arith, start_below rs i d start are lt starts, within, grown)
