-- The rows of an automaton in memory say what the automaton does.
use Rattle.std.proofs.Common.{◌≡◌, ◌∙◌, ◌<◌, ◌≤◌, ◌+◌, ◌*◌, ℕ, List, Bool, Option, Some, None, ap, arith, false}
use Rattle.std.proofs.Common.{get_or, inl}
use Rattle.std.proofs.Common.{inr, length, map, nat_lt, refl, slice_get, subst, sym, true}
use Rattle.std.specs.List.{range_with_len}
use Rattle.std.specs.Prelude.{IfSome, if◌then◌else◌, option_and_then, option_map, unwrap_or}
use Rattle.std.proofs.lemmas.Bool.{cases_lt, le-ltb}
use Rattle.std.proofs.lemmas.List.{get_or_past, length-map}
use Rattle.std.proofs.lemmas.List.FromFn.{length-range_with_len}
use Rattle.std.proofs.lemmas.Option.{slice_get-map, slice_get_past}
use Rattle.std.proofs.Math.Nat.{mul-le-mul_right}
use Rattle.ly_base.proofs.ListLemmas.{slice_get-range}
use Rattle.ly_base.specs.declared.cut.Cut.TheVariants.{Whole}
use Rattle.ly_base.specs.declared.numbers.RuleNo.{RuleNo}
use Rattle.ly_base.specs.declared.numbers.StateNo.{StateNo}
use Rattle.ly_ere.specs.declared.pattern.Rule.{Rule}
use Rattle.ly_scan.proofs.StateTableLemmas.{next_as, numbered, same_scanner, targets_within}
use Rattle.ly_scan.specs.Lexer.{Scanner}
use Rattle.ly_scan.specs.Lexers.{scanner_of}
use Rattle.ly_scan.specs.StateRows.{row_entry, row_width}
use Rattle.ly_scan.specs.StateTable.{LeadsWithin, StateTable, start_at, start_by}
use Rattle.ly_subset.specs.Automaton.{Automaton, entry_at, next_by_class, next_of, start_of, start_place}
use Rattle.ly_tokens.specs.Private.RowTable.{IsTableOf, begin_of, state_of}
use Rattle.ly_tokens.specs.RowWalk.{cut_in, row_walk, rows_of}

-- a state's number as a state, and back
there_and_back : (o : Option ℕ) → option_map (λ (s : StateNo). s.0) (option_map state_of o) ≡ o
there_and_back None = refl
there_and_back (Some n) = refl

module _ (A : Automaton) (rules : List Rule) (t : StateTable) (is : IsTableOf A rules t) where
  count : length t.rules ≡ length A.rules
  count = sym (length-map t.rules (option_map (λ (r : RuleNo). r.0))) ∙ ap (λ xs. length xs) is.states

  full : length t.rows ≡ length t.rules * row_width
  full = is.full ∙ ap (λ n. n * row_width) (sym count)

  -- a condition past the starts has none
  no_start : (c : ℕ) (line : Bool) → A.starts ≤ c → start_of A c line ≡ None
  no_start c line past = ap (λ b. if b then entry_at A.entries (start_place c line) else None)
      (le-ltb (start_place c line) A.starts (further line))
    where
      further : (line : Bool) → A.starts ≤ start_place c line
      further true = omega (arith, past)
      further false = omega (arith, past)

  starts_same : (c : ℕ) (line : Bool) → start_at t c line ≡ start_of A c line
  starts_same c line = ap (λ xs. option_and_then (start_by line) (slice_get xs c)) is.starts
      ∙ elim (cases_lt c A.starts) [
        | inl lt ↦ ap (option_and_then (start_by line)) (slice_get-map (begin_of A) (range_with_len 0 A.starts) c
            ∙ ap (option_map (begin_of A)) (slice_get-range A.starts c lt)) ∙ by_line line
        | inr past ↦ ap (option_and_then (start_by line))
            (slice_get_past (map (begin_of A) (range_with_len 0 A.starts)) c (omega (
              arith,
              past,
              length-map (range_with_len 0 A.starts) (begin_of A),
              length-range_with_len 0 A.starts,
            ))) ∙ sym (no_start c line past)
      ]
    where
      by_line : (line : Bool) → start_by line (begin_of A c) ≡ start_of A c line
      by_line true = there_and_back (start_of A c true)
      by_line false = there_and_back (start_of A c false)

  -- no byte leads on from a state that there isn't
  no_state : (state byte : ℕ) → length t.rules ≤ state → next_of A (Some state) byte ≡ None
  no_state state byte past = by_class (slice_get A.class_of byte) refl
    where
      by_class : (o : Option ℕ) → slice_get A.class_of byte ≡ o
          → option_and_then (next_by_class A state) o ≡ None
      by_class None e = refl
      by_class (Some class) e = get_or_past A.entries (A.starts + (state * A.classes + class)) None (omega (
        arith,
        is.whole.full,
        mul-le-mul_right A.classes (let more : length A.rules ≤ state = omega (arith, past, count) in more),
      ))

  no_byte : (state byte : ℕ) → 256 ≤ byte → next_of A (Some state) byte ≡ None
  no_byte state byte past = ap (option_and_then (next_by_class A state))
      (slice_get_past A.class_of byte (omega (arith, past, is.whole.bytes)))

  cuts_same : (i : ℕ) → unwrap_or (slice_get t.cuts i) Whole ≡ cut_in rules i
  cuts_same i = ap (λ xs. unwrap_or (slice_get xs i) Whole) is.cuts
      ∙ ap (λ o. unwrap_or o Whole) (slice_get-map (λ (r : Rule). r.pattern.cut) rules i)

  -- so the scanner is the walk over its states, with the cuts of the rules
  pub same : scanner_of t ≡ (let s : Scanner = record { walk = row_walk A; cut = cut_in rules } in s)
  same = same_scanner t (rows_of A) (cut_in rules) (record {
    start = starts_same;
    next = next_as t full (λ state byte. next_of A (Some state) byte)
        (λ state byte row lt. (is.rows state byte (omega (arith, row, count)) lt).0) no_state no_byte;
    rule = λ state. numbered t.rules state ∙ ap (λ xs. get_or xs state None) is.states;
    cut = cuts_same;
  })

  -- and it leads to states that there are
  pub leads : LeadsWithin t
  leads = record {
    full = full;
    starts = λ c line. subst (λ o. IfSome o (λ s. s < length t.rules)) (sym (starts_same c line)) (start_within c line);
    targets = targets_within t full (λ state byte row lt.
        subst (λ n. IfSome (row_entry t.rows state byte) (λ next. next < n)) (sym count)
        (is.rows state byte (omega (arith, row, count)) lt).1);
  }
    where
      by_entry : (o : Option ℕ) → ((s : ℕ) → o ≡ Some s → s < length A.rules) → IfSome o (λ s. s < length t.rules)
      by_entry None h = tt
      by_entry (Some s) h = let lt = h s refl in omega (arith, lt, count)

      start_within : (c : ℕ) (line : Bool) → IfSome (start_of A c line) (λ s. s < length t.rules)
      start_within c line = by_test (nat_lt (start_place c line) A.starts)
        where
          by_test : (b : Bool)
              → IfSome (if b then entry_at A.entries (start_place c line) else None) (λ s. s < length t.rules)
          by_test true = by_entry (entry_at A.entries (start_place c line)) (is.whole.within (start_place c line))
          by_test false = tt
