-- Rows that are kept once where they are equal.
use Rattle.std.proofs.Common.{◌≡◌, ◌∙◌, ◌+◌, ◌-◌, ◌≤◌, ◌++◌, ◌∷◌, [], ℕ, Bool, List, true, All, ap, ap₂}
use Rattle.std.proofs.Common.{arith, drop, length, map, refl, take}
use Rattle.std.specs.Prelude.{nat_eq, slice_range}
use Rattle.std.proofs.Math.Seq.{drop-append_seam}
use Rattle.std.proofs.lemmas.Bool.{and_parts, eqb-true}
use Rattle.std.proofs.lemmas.List.{drop-append-le, length-append, length-drop, map-append, take-append-le, take_all}
use Rattle.std.proofs.lemmas.List.Elements.{All-head, All-tail}
use Rattle.ly_resolve.specs.Private.ActionRows.{row_at, rows_from, IsWithin}
use Rattle.ly_resolve.specs.Resolved.{TerminalAction}
use Rattle.ly_resolve.specs.Values.{terminal_action_from}
use Rattle.ly_resolve.specs.contracts.action.ActionPartialEq.TheImpl as action
use Rattle.ly_resolve.specs.contracts.action.TerminalActionPartialEq.TheImpl as test
use Rattle.ly_resolve.specs.declared.action.Action as code
use Rattle.ly_resolve.specs.declared.action.Action.TheVariants.{Error, Reduce, Shift}
use Rattle.ly_resolve.specs.declared.action.TerminalAction as entry
use Rattle.ly_resolve.specs.declared.action_rows.RowPlace.{RowPlace}

-- actions that pass the test are the same
abbrev pub same_action : code.Action → code.Action → Bool
same_action a b = (action.eq-value).it a b

action_same : (a b : code.Action) → same_action a b ≡ true → a ≡ b
action_same Shift Shift e = refl
action_same (Reduce p) (Reduce q) e = ap (λ n. Reduce (record { 0 = n })) (eqb-true p.0 q.0 e)
action_same Error Error e = refl
action_same Shift (Reduce q) e = absurd (cc)
action_same Shift Error e = absurd (cc)
action_same (Reduce p) Shift e = absurd (cc)
action_same (Reduce p) Error e = absurd (cc)
action_same Error Shift e = absurd (cc)
action_same Error (Reduce q) e = absurd (cc)

-- and so are entries
pub entry_same : (x y : entry.TerminalAction) → (test.eq-value).it x y ≡ true → x ≡ y
entry_same x y e =
    let p = and_parts (nat_eq x.terminal.0 y.terminal.0) (same_action x.action y.action) e in
    ap (λ n. record { terminal = record { 0 = n }; action = x.action }) (eqb-true x.terminal.0 y.terminal.0 p.0)
    ∙ ap (λ a. record { terminal = y.terminal; action = a }) (action_same x.action y.action p.1)

-- what stands within the entries before stays there when others are added
range_still : {X : Type 0} (xs ys : List X) (a b : ℕ) → a ≤ b → b ≤ length xs
    → slice_range (xs ++ ys) a b ≡ slice_range xs a b
range_still xs ys a b ordered within =
    let le : a ≤ length xs = omega (arith, ordered, within) in
    let left : b - a ≤ length (drop a xs) = omega (arith, ordered, within, length-drop a xs) in
    ap (take (b - a)) (drop-append-le a xs ys le) ∙ take-append-le (b - a) (drop a xs) ys left

-- what is added stands behind them
range_behind : {X : Type 0} (xs ys : List X) (a b : ℕ) → a ≡ length xs → b ≡ length xs + length ys
    → slice_range (xs ++ ys) a b ≡ ys
range_behind xs ys a b start end =
    let rest : b - a ≡ length ys = omega (arith, start, end) in
    ap₂ (λ n m. take n (drop m (xs ++ ys))) rest start ∙ ap (take (length ys)) (drop-append_seam xs ys)
    ∙ take_all (length ys) ys (omega arith)

-- rows stay when entries are added
rows_still : (places : List RowPlace) (kept more : List entry.TerminalAction) → All (IsWithin (length kept)) places
    → rows_from places (kept ++ more) ≡ rows_from places kept
rows_still [] kept more all = refl
rows_still (p ∷ places) kept more all =
    let here = All-head (IsWithin (length kept)) p places all in
    ap₂ (λ r rs. r ∷ rs) (ap (map terminal_action_from) (range_still kept more p.start p.end here.ordered here.within))
    (rows_still places kept more (All-tail (IsWithin (length kept)) p places all))

-- one more row behind the others
pub rows_put : (places : List RowPlace) (kept row : List entry.TerminalAction) (p : RowPlace)
    → All (IsWithin (length kept)) places → p.start ≡ length kept → p.end ≡ length kept + length row
    → rows_from (places ++ p ∷ []) (kept ++ row) ≡ rows_from places kept ++ map terminal_action_from row ∷ []
rows_put places kept row p all start end = map-append (row_at (kept ++ row)) places (p ∷ [])
    ∙ ap₂ (λ rs r. rs ++ r ∷ []) (rows_still places kept row all)
    (ap (map terminal_action_from) (range_behind kept row p.start p.end start end))

-- and one that stands there already
pub rows_again : (places : List RowPlace) (kept : List entry.TerminalAction) (row : List TerminalAction) (p : RowPlace)
    → row_at kept p ≡ row → rows_from (places ++ p ∷ []) kept ≡ rows_from places kept ++ row ∷ []
rows_again places kept row p same = map-append (row_at kept) places (p ∷ [])
    ∙ ap (λ r. rows_from places kept ++ r ∷ []) same
