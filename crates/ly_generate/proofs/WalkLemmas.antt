-- The scanner of a table set walks as the automaton that it is of.
use Rattle.std.proofs.Common.{◌≡◌, ◌∙◌, ◌<◌, ◌≤◌, ◌+◌, ◌*◌, ℕ, List, [], ◌∷◌, Bool, true, false, Option, Some, None}
use Rattle.std.proofs.Common.{ap, arith, get_or, inl, inr, length, refl, slice_get, sym}
use Rattle.std.specs.Prelude.{nat_lt, option_and_then, unwrap_or, if◌then◌else◌}
use Rattle.std.proofs.lemmas.Bool.{cases_lt, le-ltb}
use Rattle.std.proofs.lemmas.Option.{slice_get-get_or, slice_get-map, slice_get_past}
use Rattle.ly_base.specs.declared.cut.Cut.TheVariants.{Whole}
use Rattle.ly_feed.specs.ScanPart.{cut_in, next_in, scan_part_of, start_by, start_in, states_from, states_in}
use Rattle.ly_emit.specs.SetOf.{IsScannerOf}
use Rattle.ly_tokens.specs.RowWalk as patterns
use Rattle.ly_tokens.specs.RowWalk.{row_walk, rows_of}
use Rattle.ly_tokens.proofs.RowAgreementLemmas.{row_walk-says}
use Rattle.ly_ere.specs.declared.pattern.Rule.{Rule}
use Rattle.ly_join.specs.Joined.{Spec}
use Rattle.ly_pack.specs.Rows.{cell, comb_entry}
use Rattle.ly_pack.proofs.GridLemmas.{cell-grid_of}
use Rattle.ly_scan.specs.StateWalk.{says, state_after, state_walk}
use Rattle.ly_subset.specs.Automaton.{Automaton, IsAutomaton, entry_at, next_by_class, next_of, start_of, start_place}
use Rattle.ly_subset.specs.Automaton as automaton
use Rattle.ly_tables.specs.TableSet.{Starts, TableSet}

-- none, or a state of the automaton
IsStateIn : Automaton → Option ℕ → Type 0
IsStateIn A o = (s : ℕ) → o ≡ Some s → s < length A.rules

-- what is chosen where the other is nothing
chosen : (b : Bool) (o : Option ℕ) (s : ℕ) → (if b then o else None) ≡ Some s → o ≡ Some s
chosen false o s e = cc
chosen true o s e = e

module _ (s : Spec) (rules : List Rule) (A : Automaton) (set : TableSet) (is : IsAutomaton A)
    (of : IsScannerOf s rules A set) where
  at_start : (c : ℕ) (line : Bool) (x : Starts) → (x.elsewhere ≡ start_of A c false) × (x.at_line ≡ start_of A c true)
      → start_by line x ≡ start_of A c line
  at_start c false x h = h.0
  at_start c true x h = h.1

  place_past : (c : ℕ) (line : Bool) → length set.conditions ≤ c → A.starts ≤ start_place c line
  place_past c false past = omega (arith, past, of.condition_count)
  place_past c true past = omega (arith, past, of.condition_count)

  no_start : (c : ℕ) (line : Bool) → length set.conditions ≤ c → start_of A c line ≡ None
  no_start c line past = rw (le-ltb (start_place c line) A.starts (place_past c line past)) refl

  same_start : (c : ℕ) (line : Bool) → start_in (scan_part_of set) c line ≡ start_of A c line
  same_start c line = elim (cases_lt c (length set.conditions)) [
    | inl there ↦ let x : Starts = get_or set.conditions c (record { elsewhere = None; at_line = None }) in
        let at : slice_get set.conditions c ≡ Some x = slice_get-get_or set.conditions c
        (record { elsewhere = None; at_line = None }) there in
        ap (option_and_then (start_by line)) at ∙ at_start c line x (of.conditions c x at)
    | inr past ↦ ap (option_and_then (start_by line)) (slice_get_past set.conditions c past)
        ∙ sym (no_start c line past)
  ]

  same_class : (q b : ℕ) (o : Option ℕ) → q < length A.rules → slice_get A.class_of b ≡ o
      → option_and_then (cell (scan_part_of set).rows q) o ≡ option_and_then (next_by_class A q) o
  same_class q b None there at = refl
  same_class q b (Some c) there at =
      let class : c < A.classes = is.class_within b c at in
      cell-grid_of (length set.accepted) set.class_count (states_from (comb_entry set.scan_rows)) q c
      (omega (arith, there, ap length of.accepted)) (omega (arith, class, of.class_count)) ∙ of.rows q c there class

  same_next : (q b : ℕ) → q < length A.rules → next_in (scan_part_of set) q b ≡ next_of A (Some q) b
  same_next q b there
      = ap (λ classes. option_and_then (cell (scan_part_of set).rows q) (slice_get classes b)) of.classes
      ∙ same_class q b (slice_get A.class_of b) there refl

  by_class_within : (q : ℕ) (o : Option ℕ) → IsStateIn A (option_and_then (next_by_class A q) o)
  unfolding IsStateIn
  by_class_within q None = λ t e. cc
  by_class_within q (Some c) = λ t e. is.within (A.starts + (q * A.classes + c)) t e

  start_within : (c : ℕ) (line : Bool) → IsStateIn A (start_of A c line)
  unfolding IsStateIn
  start_within c line = λ t e. is.within (start_place c line) t
      (chosen (nat_lt (start_place c line) A.starts) (entry_at A.entries (start_place c line)) t e)

  same_states : (w : List ℕ) (o : Option ℕ) → IsStateIn A o
      → state_after (states_in (scan_part_of set)) o w ≡ automaton.state_after A o w
  unfolding IsStateIn
  same_states [] o there = refl
  same_states (b ∷ w) None there = same_states w None (λ t e. cc)
  same_states (b ∷ w) (Some q) there
      = ap (λ o. state_after (states_in (scan_part_of set)) o w) (same_next q b (there q refl))
      ∙ same_states w (next_of A (Some q) b) (by_class_within q (slice_get A.class_of b))

  same_says : (o : Option ℕ) → says (states_in (scan_part_of set)) o ≡ says (rows_of A) o
  same_says None = refl
  same_says (Some q) = ap (λ accepted. Some (automaton.entry_at accepted q)) of.accepted

  -- the walks are the same
  pub same_walk : (c : ℕ) (line : Bool) (w : List ℕ)
      → state_walk (states_in (scan_part_of set)) c line w ≡ row_walk A c line w
  same_walk c line w
      = ap (λ o. says (states_in (scan_part_of set)) (state_after (states_in (scan_part_of set)) o w))
      (same_start c line)
      ∙ ap (says (states_in (scan_part_of set))) (same_states w (start_of A c line) (start_within c line))
      ∙ same_says (automaton.state_after A (start_of A c line) w) ∙ sym (row_walk-says A c line w)

  -- and the cuts
  pub same_cut : (i : ℕ) → cut_in (scan_part_of set) i ≡ patterns.cut_in rules i
  same_cut i = ap (λ o. unwrap_or o Whole) (sym (slice_get-map (λ r. r.cut) set.scan_rules i)
      ∙ ap (λ cuts. slice_get cuts i) of.cuts ∙ slice_get-map (λ (r : Rule). r.pattern.cut) rules i)
