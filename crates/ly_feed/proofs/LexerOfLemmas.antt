-- The scanner of a table set in memory.
use Rattle.std.proofs.Common.{◌≡◌, ◌∙◌, ◌<◌, ◌≤◌, ◌+◌, ℕ, List, Bool, Option, Some, None, ap, arith, false, get_or, inl}
use Rattle.std.proofs.Common.{length, map, refl, slice_get, subst, sym, true}
use Rattle.ly_base.specs.declared.version.Version.TheVariants.{V2}
use Rattle.std.specs.Prelude.{IfSome, option_and_then, option_map, slice_index}
use Rattle.std.specs.Prelude.{unwrap_or}
use Rattle.std.proofs.lemmas.List.{length-map}
use Rattle.std.proofs.lemmas.List.Elements.{All-get_or}
use Rattle.std.proofs.lemmas.Option.{slice_get-get_or, slice_get-map, slice_get_past}
use Rattle.ly_base.proofs.ListLemmas.{All-at}
use Rattle.ly_base.specs.declared.cut.Cut.{Cut}
use Rattle.ly_base.specs.declared.cut.Cut.TheVariants.{Whole}
use Rattle.ly_base.specs.declared.numbers.RuleNo.{RuleNo}
use Rattle.ly_base.specs.declared.numbers.StateNo.{StateNo}
use Rattle.ly_base.specs.declared.scan_action.Emitted.{Emitted}
use Rattle.ly_base.specs.declared.scan_action.Emitted.TheVariants.{FirstByte, Nothing, Terminal}
use Rattle.ly_feed.specs.Passing.{ArePassedOver, IsPassedOver}
use Rattle.ly_feed.specs.Private.ScannerOf.{IsScannerOf, is_no_effect, is_passed}
use Rattle.ly_feed.specs.ScanPart.{cut_in, next_in, scan_part_of, scanner_in, start_in, states_from, states_in}
use Rattle.ly_feed.specs.ScanPart as part
use Rattle.ly_pack.proofs.GridLemmas.{cell-grid_of, cell-grid_of_past}
use Rattle.ly_pack.specs.Rows.{Comb, Used, cell, comb_entry}
use Rattle.ly_scan.proofs.StateTableLemmas.{next_as, numbered, same_scanner, targets_within}
use Rattle.ly_scan.specs.Lexers.{scanner_of}
use Rattle.ly_scan.specs.StateTable.{LeadsWithin, StateTable, start_at, start_by}
use Rattle.ly_tables.proofs.EntryLemmas.{comb_entry_used}
use Rattle.ly_tables.specs.Ranges.{AreStartsWithin, IsWithinVersion}
use Rattle.ly_tables.specs.TableSet.{ScanRule, Starts, TableSet}
use Rattle.ly_tables.specs.Values.{scan_rule_from, starts_from}
use Rattle.ly_tables.specs.declared.scan_rule.ScanRule as scan
use Rattle.ly_scan.specs.declared.starts.Starts as starts

-- no entry leads past a bound that no slot passes
pub leads_within : (c : Comb StateNo) (row column : ℕ) (next : Option ℕ) (bound : ℕ)
    → ((k : ℕ) (u : Used StateNo) → slice_get c.slots k ≡ Some (Some u) → u.entry.0 < bound)
    → next ≡ states_from (comb_entry c) row column → IfSome next (λ n. n < bound)
leads_within c row column next bound targets is = subst (λ o. IfSome o (λ n. n < bound)) (sym is)
    (by_entry (comb_entry c row column) refl)
  where
    by_entry : (o : Option StateNo) → o ≡ comb_entry c row column
        → IfSome (option_map (λ (s : StateNo). s.0) o) (λ n. n < bound)
    by_entry None is = tt
    by_entry (Some s) is =
        let used = comb_entry_used c row column s (sym is) in
        subst (λ (e : StateNo). e.0 < bound) used.5 (targets (used.0 + column) used.1 used.3)

-- a rule of which nothing comes
no_effect : (begin : Option ℕ) (emits : Emitted) → is_no_effect begin emits ≡ true → (begin ≡ None) × (emits ≡ Nothing)
no_effect None Nothing e = (refl, refl)
no_effect None (Terminal t) e = absurd cc
no_effect None FirstByte e = absurd cc
no_effect (Some c) emits e = absurd cc

-- the rules of which nothing comes are passed over
pub passed_over : (s : TableSet) (rules : List scan.ScanRule) (passed : List Bool)
    → map scan_rule_from rules ≡ s.scan_rules → passed ≡ map is_passed rules → ArePassedOver (scan_part_of s) passed
passed_over s rules passed all is rule e = by_rule (slice_get rules rule) refl
    (sym (slice_get-map is_passed rules rule) ∙ ap (λ xs. slice_get xs rule) (sym is) ∙ e)
  where
    by_rule : (o : Option scan.ScanRule) → slice_get rules rule ≡ o → option_map is_passed o ≡ Some true
        → IsPassedOver (scan_part_of s) rule
    by_rule None there e = absurd cc
    by_rule (Some r) there e =
        let none = no_effect r.action.begin r.action.emits (let same : is_passed r ≡ true = cc in same) in
        let here : slice_get s.scan_rules rule ≡ Some (scan_rule_from r)
        = ap (λ xs. slice_get xs rule) (sym all) ∙ slice_get-map scan_rule_from rules rule
        ∙ ap (option_map scan_rule_from) there in
        record {
          condition = ap (option_and_then (λ (r : ScanRule). r.action.begin)) here ∙ none.0;
          terminal = λ bytes.
              ap (option_and_then (λ (r : ScanRule). part.terminal_by (scan_part_of s) bytes r.action.emits)) here
              ∙ ap (part.terminal_by (scan_part_of s) bytes) none.1;
        }

some_within : (o : Option ℕ) (n : ℕ) → ((s : ℕ) → o ≡ Some s → s < n) → IfSome o (λ s. s < n)
some_within None n h = tt
some_within (Some s) n h = h s refl

-- where a condition begins
starts_same : (s : TableSet) (conditions begin : List starts.Starts) → map starts_from conditions ≡ s.conditions
    → begin ≡ conditions → (c : ℕ) (line : Bool)
    → option_and_then (start_by line) (slice_get begin c) ≡ start_in (scan_part_of s) c line
starts_same s conditions begin all made c line =
    ap (λ xs. option_and_then (start_by line) (slice_get xs c)) made
    ∙ by_start (slice_get conditions c)
    ∙ ap (option_and_then (part.start_by line)) (sym (slice_get-map starts_from conditions c))
    ∙ ap (λ xs. option_and_then (part.start_by line) (slice_get xs c)) all
  where
    by_line : (line : Bool) (x : starts.Starts) → start_by line x ≡ part.start_by line (starts_from x)
    by_line true x = refl
    by_line false x = refl

    by_start : (o : Option starts.Starts)
        → option_and_then (start_by line) o ≡ option_and_then (part.start_by line) (option_map starts_from o)
    by_start None = refl
    by_start (Some x) = by_line line x

-- what is cut off a rule's matches
cuts_same : (s : TableSet) (rules : List scan.ScanRule) (cuts : List Cut) → map scan_rule_from rules ≡ s.scan_rules
    → cuts ≡ map (λ (r : scan.ScanRule). r.cut) rules → (i : ℕ)
    → unwrap_or (slice_get cuts i) Whole ≡ cut_in (scan_part_of s) i
cuts_same s rules cuts all made i =
    ap (λ xs. unwrap_or (slice_get xs i) Whole) made
    ∙ ap (λ o. unwrap_or o Whole) (slice_get-map (λ (r : scan.ScanRule). r.cut) rules i)
    ∙ by_rule (slice_get rules i)
    ∙ ap (λ o. unwrap_or (option_map (λ (r : ScanRule). r.cut) o) Whole) (sym (slice_get-map scan_rule_from rules i))
    ∙ ap (λ xs. unwrap_or (option_map (λ (r : ScanRule). r.cut) (slice_get xs i)) Whole) all
  where
    by_rule : (o : Option scan.ScanRule) → unwrap_or (option_map (λ (r : scan.ScanRule). r.cut) o) Whole
        ≡ unwrap_or (option_map (λ (r : ScanRule). r.cut) (option_map scan_rule_from o)) Whole
    by_rule None = refl
    by_rule (Some r) = refl

module _ (s : TableSet) (within : IsWithinVersion V2 s) (t : StateTable) (is : IsScannerOf s t) where
  count : length t.rules ≡ length s.accepted
  count = sym (length-map t.rules (option_map (λ (r : RuleNo). r.0))) ∙ ap (λ xs. length xs) is.accepted

  -- no class leads on from a state that there isn't
  nowhere : (state : ℕ) (class : Option ℕ) → length t.rules ≤ state
      → option_and_then (cell (scan_part_of s).rows state) class ≡ None
  nowhere state None past = refl
  nowhere state (Some class) past = cell-grid_of_past (length s.accepted) s.class_count
      (states_from (comb_entry s.scan_rows)) state class (inl (omega (arith, past, count)))

  -- where a byte leads by its class
  by_class : (state byte : ℕ) → state < length t.rules → byte < 256
      → states_from (comb_entry s.scan_rows) state (slice_index s.classes byte) ≡ next_in (scan_part_of s) state byte
  by_class state byte row lt =
      let there : byte < length s.classes = omega (arith, within.all_classes, lt) in
      sym (cell-grid_of (length s.accepted) s.class_count (states_from (comb_entry s.scan_rows)) state
      (slice_index s.classes byte) (omega (arith, row, count))
      (All-get_or (λ c. c < s.class_count) s.classes byte 0 there within.classes))
      ∙ ap (option_and_then (cell (scan_part_of s).rows state)) (sym (slice_get-get_or s.classes byte 0 there))

  -- it says of a text what the set's scanner does
  pub same : scanner_of t ≡ scanner_in (scan_part_of s)
  same = same_scanner t (states_in (scan_part_of s)) (cut_in (scan_part_of s)) (record {
    start = starts_same s is.conditions t.starts is.all_conditions is.starts;
    next = next_as t is.full (next_in (scan_part_of s))
        (λ state byte row lt. is.rows state byte row lt ∙ by_class state byte row lt)
        (λ state byte past. nowhere state (slice_get s.classes byte) past)
        (λ state byte past. ap (option_and_then (cell (scan_part_of s).rows state))
        (slice_get_past s.classes byte (omega (arith, past, within.all_classes))));
    rule = λ state. numbered t.rules state ∙ ap (λ xs. get_or xs state None) is.accepted;
    cut = cuts_same s is.rules t.cuts is.all_rules is.cuts;
  })

  start_within : (c : ℕ) (line : Bool) (o : Option Starts) → slice_get s.conditions c ≡ o
      → IfSome (option_and_then (part.start_by line) o) (λ state. state < length s.accepted)
  start_within c line None e = tt
  start_within c line (Some x) e = by_line line
    where
      there : AreStartsWithin (length s.accepted) x
      there = All-at (AreStartsWithin (length s.accepted)) s.conditions c x within.conditions e

      by_line : (line : Bool) → IfSome (part.start_by line x) (λ state. state < length s.accepted)
      by_line true = some_within x.at_line (length s.accepted) there.at_line
      by_line false = some_within x.elsewhere (length s.accepted) there.elsewhere

  -- and leads to states that there are
  pub leads : LeadsWithin t
  leads = record {
    full = is.full;
    starts = λ c line. subst (λ n. IfSome (start_at t c line) (λ state. state < n)) (sym count)
        (subst (λ o. IfSome o (λ state. state < length s.accepted))
        (sym (starts_same s is.conditions t.starts is.all_conditions is.starts c line))
        (start_within c line (slice_get s.conditions c) refl));
    targets = targets_within t is.full is.targets;
  }
