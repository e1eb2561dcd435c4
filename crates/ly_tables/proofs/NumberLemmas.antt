-- The numbers of a set that is within the ranges are within theirs.
use Rattle.std.proofs.Common.{◌≡◌, ◌∙◌, ◌≢◌, ◌<◌, ◌≤◌, ◌+◌, ◌-◌, ◌⊎◌, inl, inr, ℕ, [], length, map, refl, sym, ap}
use Rattle.std.proofs.Common.{subst, arith, get_or, All, Option, Some, None, slice_get}
use Rattle.std.specs.Int.{Width}
use Rattle.std.specs.Prelude.{AllPairs}
use Rattle.std.proofs.lemmas.List.{length-map}
use Rattle.std.proofs.lemmas.List.Elements.{All-cons, All-map, All-nil, All-weaker}
use Rattle.std.proofs.lemmas.Option.{same_Some, slice_get-get_or, slice_get-map}
use Rattle.ly_base.specs.Shape.{Shape, nil, place, node}
use Rattle.ly_base.specs.declared.cut.Cut.{Cut}
use Rattle.ly_base.specs.declared.cut.Cut.TheVariants.{Whole, Head, Tail}
use Rattle.ly_base.specs.declared.numbers.StateNo.{StateNo}
use Rattle.ly_base.specs.declared.version.Version.{Version}
use Rattle.ly_base.specs.declared.scan_action.Emitted.{Emitted}
use Rattle.ly_base.specs.declared.scan_action.Emitted.TheVariants.{Nothing, Terminal, FirstByte}
use Rattle.ly_base.proofs.ListLemmas.{option_map-some}
use Rattle.ly_pack.specs.Machine.{TableAction, IsLegal, IsShapeFor}
use Rattle.ly_pack.specs.Machine.{shift, reduce, accept, error}
use Rattle.ly_pack.specs.Rows.{Comb, Used}
use Rattle.ly_pack.specs.Values.{action_from}
use Rattle.ly_tables.specs.Private.Found.{zero_fits}
use Rattle.ly_tables.specs.Private.SectionOrder.{AreAllWithin, AreFileNumbers}
use Rattle.ly_tables.specs.Private.Short.{IsSlotShort, bound_of}
use Rattle.ly_tables.specs.Ranges.{AreRows, IsCutWithin, IsEmittedWithin}
use Rattle.ly_tables.specs.Ranges.{IsShapeShort, IsWithinVersion, counts_of, width_of}
use Rattle.ly_tables.specs.RawOf.{cut_kind, cut_length, from_one, kind_of, number_or_none, number_or_zero, raw_comb_of}
use Rattle.ly_tables.specs.RawOf.{raw_of, raw_rule_of, raw_scan_rule_of, raw_starts_of, shape_places, terminal_of}
use Rattle.ly_tables.specs.RawSections.{AreRowsWithin, IsActionWithin, IsNoneOr, IsRuleWithin}
use Rattle.ly_tables.specs.RawSections.{IsScanRuleWithin, IsSectionWithin, IsShapeWithin, Section}
use Rattle.ly_tables.specs.RawSections.{symbol_section, literal_section, scan_rule_section, condition_section}
use Rattle.ly_tables.specs.RawSections.{class_section, scan_state_section, scan_row_section, rule_section}
use Rattle.ly_tables.specs.RawSections.{state_section, action_section, goto_section}
use Rattle.ly_tables.specs.RawSet.{CombFits, Fits, RuleFits, ScanRuleFits, StartsFit}
use Rattle.ly_tables.specs.Spelling.{action_number, check_of, next_of, none_of}
use Rattle.ly_tables.specs.TableSet.{TableSet, machine_of}
use Rattle.ly_tables.proofs.RangeLemmas.{actions_short, check_short, few_classes, few_conditions, few_places, few_rules}
use Rattle.ly_tables.proofs.RangeLemmas.{few_scan_rules, few_scan_states, few_states, few_symbols, gotos_short}
use Rattle.ly_tables.proofs.RangeLemmas.{next_short, scan_rows_short, used_goto, used_legal}

emitted_raw : (terminals : ℕ) (e : Emitted) → IsEmittedWithin terminals e → (kind_of e ≤ 2)
    × (kind_of e ≡ 1 → (1 ≤ terminal_of e) × (terminal_of e < terminals)) × (kind_of e ≢ 1 → terminal_of e ≡ 0)
emitted_raw terminals Nothing within = (omega arith, λ h. absurd (omega (arith, h)), λ h. refl)
emitted_raw terminals (Terminal t) within = (omega arith, λ h. within, λ h. absurd (h refl))
emitted_raw terminals FirstByte within = (omega arith, λ h. absurd (omega (arith, h)), λ h. refl)

terminal_small : (w : Width) (terminals : ℕ) (e : Emitted) → terminals ≤ bound_of w → IsEmittedWithin terminals e
    → Fits w (terminal_of e)
terminal_small w terminals Nothing le within = zero_fits w
terminal_small w terminals (Terminal t) le within = omega (arith, within.1, le)
terminal_small w terminals FirstByte le within = zero_fits w

number_raw : (w : Width) (o : Option ℕ) (bound : ℕ) → bound < bound_of w → ((c : ℕ) → o ≡ Some c → c < bound)
    → IsNoneOr w bound (number_or_none w o) × Fits w (number_or_none w o)
number_raw w None bound le below = (inl refl, omega (arith, le))
number_raw w (Some c) bound le below = let lt : c < bound = below c refl in (inr lt, omega (arith, lt, le))

cut_raw : (w : Width) (c : Cut) → IsCutWithin w c → (cut_kind c ≤ 2) × (cut_kind c ≡ 0 → cut_length c ≡ 0)
    × (cut_kind c ≡ 1 → 1 ≤ cut_length c) × Fits w (cut_length c)
cut_raw w Whole within = (omega arith, λ h. refl, λ h. absurd (omega (arith, h)), zero_fits w)
cut_raw w (Head n) within = (omega arith, λ h. absurd (omega (arith, h)), λ h. within.0, within.1)
cut_raw w (Tail n) within = (omega arith, λ h. absurd (omega (arith, h)), λ h. absurd (omega (arith, h)), within)

counted_raw : (o : Option ℕ) (bound : ℕ) → ((p : ℕ) → o ≡ Some p → p < bound) → from_one o ≤ bound
counted_raw None bound below = omega arith
counted_raw (Some p) bound below = let lt : p < bound = below p refl in omega (arith, lt)

default_raw : (o : Option ℕ) (bound : ℕ) → ((p : ℕ) → o ≡ Some p → p ≤ bound) → number_or_zero o ≤ bound
default_raw None bound below = omega arith
default_raw (Some p) bound below = below p refl

shape_raw : (left body : ℕ) (s : Shape) → IsShapeShort s → IsShapeFor body s
    → IsShapeWithin (raw_rule_of (record { left = left; body_length = body; shape = s }))
shape_raw left body nil short for = inl (refl, for, refl, refl)
shape_raw left body (place i) short for = inr (inl (refl, refl, refl))
shape_raw left body (node name places) short for = inr (inr (refl, short.0))

places_raw : (body : ℕ) (s : Shape) → IsShapeFor body s → All (λ i. (1 ≤ i) × (i ≤ body)) (shape_places s)
places_raw body nil for = All-nil (λ i. (1 ≤ i) × (i ≤ body))
places_raw body (place i) for =
    All-cons (λ i. (1 ≤ i) × (i ≤ body)) i [] for (All-nil (λ i. (1 ≤ i) × (i ≤ body)))
places_raw body (node name places) for = for.1

apart_raw : (body : ℕ) (s : Shape) → IsShapeFor body s → AllPairs (λ i j. i ≡ j → ⊥) (shape_places s)
apart_raw body nil for = λ i j d lt below. absurd (omega (arith, below))
apart_raw body (place k) for = λ i j d lt below. absurd (omega (arith, lt, below))
apart_raw body (node name places) for = for.2

shape_fits : (w : Width) (left body : ℕ) (s : Shape) → Fits w left → body ≤ 255 → IsShapeShort s → IsShapeFor body s
    → RuleFits w (raw_rule_of (record { left = left; body_length = body; shape = s }))
shape_fits w left body nil small le short for = record {
  left = small;
  body_length = omega (arith, le);
  kind = omega arith;
  name = (omega arith, All-nil (λ b. b < 256));
  place_count = omega arith;
  places = All-nil (λ b. b < 256);
}
shape_fits w left body (place i) small le short for = record {
  left = small;
  body_length = omega (arith, le);
  kind = omega arith;
  name = (omega arith, All-nil (λ b. b < 256));
  place_count = omega arith;
  places = All-cons (λ b. b < 256) i [] (omega (arith, le, for.1)) (All-nil (λ b. b < 256));
}
shape_fits w left body (node name places) small le short for = record {
  left = small;
  body_length = omega (arith, le);
  kind = omega arith;
  name = (omega (arith, short.0.1), short.1);
  place_count = omega (arith, le, few_places body places for.1 for.2);
  places = All-weaker (λ i. (1 ≤ i) × (i ≤ body)) (λ i. i < 256) (λ i at. omega (arith, at.1, le)) places for.1;
}

-- rows laid over one another, as numbers
module _ {E : Type 0} (w : Width) (code : E → ℕ) (states columns : ℕ) (c : Comb E)
    (rows : AreRows states columns c) where
  comb_fits : All (IsSlotShort w code) c.slots → CombFits w states (raw_comb_of w code c)
  comb_fits short = record {
    count = rows.rows;
    bases = λ k d lt. omega (arith, rows.slots, rows.is_comb.bases k _ (slice_get-get_or c.bases k d lt));
    slots = omega (arith, rows.slots, length-map c.slots (next_of code));
    entries = All-map (Fits w) (next_of code) c.slots (λ k d lt. next_short w code _ (short k d lt));
    row_count = length-map c.slots (check_of w) ∙ sym (length-map c.slots (next_of code));
    rows = All-map (Fits w) (check_of w) c.slots (λ k d lt. check_short w code _ (short k d lt));
  }

  module _ (legal : ℕ → ℕ → Type 0) (fit : (k base : ℕ) (u : Used E) → slice_get c.slots k ≡ Some (Some u)
      → slice_get c.bases u.row ≡ Some base → base ≤ k → k < base + c.width → legal (k - base) (code u.entry)) where
    slot_raw : (k : ℕ) (o : Option (Used E)) (entry row : ℕ) → slice_get c.slots k ≡ Some o → next_of code o ≡ entry
        → check_of w o ≡ row
        → ((row ≡ none_of w) × (entry ≡ 0))
        ⊎ ((base column : ℕ) × (slice_get c.bases row ≡ Some base) × (column < columns) × (k ≡ base + column)
        × legal column entry)
    slot_raw k None entry row at is_entry is_row = inl (sym is_row, sym is_entry)
    slot_raw k (Some u) entry row at is_entry is_row =
        let lies = rows.is_comb.slots k u at in
        inr (
          lies.0,
          k - lies.0,
          ap (slice_get c.bases) (sym is_row) ∙ lies.1,
          omega (arith, lies.2, lies.3, rows.width),
          omega (arith, lies.2),
          subst (legal (k - lies.0)) is_entry (fit k lies.0 u at lies.1 lies.2 lies.3),
        )

    rows_raw : AreRowsWithin w columns legal (raw_comb_of w code c)
    rows_raw = record {
      bases = λ k d lt. omega (
        arith,
        length-map c.slots (next_of code),
        rows.is_comb.bases k _ (slice_get-get_or c.bases k d lt),
      );
      slots = λ slot entry row at_entry at_row.
          let first = option_map-some (next_of code) (slice_get c.slots slot) entry
          (sym (slice_get-map (next_of code) c.slots slot) ∙ at_entry) in
          let second = option_map-some (check_of w) (slice_get c.slots slot) row
          (sym (slice_get-map (check_of w) c.slots slot) ∙ at_row) in
          slot_raw slot first.0 entry row first.1 first.2
          (ap (check_of w) (same_Some first.0 second.0 (sym first.1 ∙ second.1)) ∙ second.2);
    }

module _ (v : Version) (s : TableSet) (r : IsWithinVersion v s) where
  pub numbers_fit : AreFileNumbers v (raw_of (width_of v) s)
  numbers_fit = record {
    terminal_count = omega (arith, few_symbols v s r);
    nonterminals = omega (arith, few_symbols v s r);
    terminals = λ k d lt. let name = r.names k d lt in (omega (arith, name.0.1), name.1);
    literal_count = r.all_literals;
    literals = λ k d lt. omega (arith, (r.literals k d lt).1, few_symbols v s r);
    scan_rule_count = omega (arith, few_scan_rules v s r, length-map s.scan_rules (raw_scan_rule_of (width_of v)));
    scan_rules = All-map (ScanRuleFits (width_of v)) (raw_scan_rule_of (width_of v)) s.scan_rules (λ k d lt.
        let at = r.scan_rules k d lt in
        let emits = emitted_raw (length s.terminals) _ at.emits in
        let cut = cut_raw (width_of v) _ at.cut in
        record {
          kind = omega (arith, emits.0);
          terminal = terminal_small (width_of v) (length s.terminals) _ (omega (arith, few_symbols v s r)) at.emits;
          begin = (number_raw (width_of v) _ (length s.conditions) (few_conditions v s r) at.begin).1;
          cut = omega (arith, cut.0);
          len = cut.3;
        });
    condition_count = omega (arith, few_conditions v s r, length-map s.conditions (raw_starts_of (width_of v)));
    conditions = All-map (StartsFit (width_of v)) (raw_starts_of (width_of v)) s.conditions (λ k d lt.
        let at = r.conditions k d lt in
        let few = few_scan_states v s r in
        record {
          elsewhere = (number_raw (width_of v) _ (length s.accepted) few at.elsewhere).1;
          at_line = (number_raw (width_of v) _ (length s.accepted) few at.at_line).1;
        });
    class_count = few_classes v s r;
    all_classes = r.all_classes;
    classes = λ k d lt. omega (arith, r.classes k d lt, r.class_count);
    scan_states = omega (arith, few_scan_states v s r, length-map s.accepted from_one);
    accepted = All-map (Fits (width_of v)) from_one s.accepted (λ k d lt.
        let le = counted_raw _ (length s.scan_rules) (λ p e.
        r.accepted k p (slice_get-get_or s.accepted k d lt ∙ ap Some e)) in
        omega (arith, le, few_scan_rules v s r));
    scan_rows = subst (λ n. CombFits (width_of v) n (raw_comb_of (width_of v) (λ (n : StateNo). n.0) s.scan_rows))
        (sym (length-map s.accepted from_one))
        (comb_fits (width_of v) (λ (n : StateNo). n.0) (length s.accepted) s.class_count s.scan_rows r.scan_rows
        (scan_rows_short v s r));
    rule_count = omega (arith, few_rules v s r, length-map s.rules raw_rule_of);
    rules = All-map (RuleFits (width_of v)) raw_rule_of s.rules (λ k d lt.
        let short = r.rules k d lt in
        let within = r.machine.rules k d lt in
        shape_fits (width_of v) _ _ _ (omega (arith, within.left, few_symbols v s r)) short.body short.shape
        within.shape);
    states = omega (arith, few_states v s r, length-map s.defaults number_or_zero);
    defaults = All-map (Fits (width_of v)) number_or_zero s.defaults (λ k d lt.
        let le = default_raw _ (length s.rules) (λ p e.
        (r.machine.defaults k p (slice_get-get_or s.defaults k d lt ∙ ap Some e)).1) in
        omega (arith, le, few_rules v s r));
    actions = subst (λ n. CombFits (width_of v) n (raw_comb_of (width_of v) (λ a. action_number (width_of v)
        (action_from a)) s.actions))
        (sym (length-map s.defaults number_or_zero))
        (comb_fits (width_of v) (λ a. action_number (width_of v) (action_from a)) (length s.defaults) (length
        s.terminals) s.actions r.actions
        (actions_short v s r));
    gotos = subst (λ n. CombFits (width_of v) n (raw_comb_of (width_of v) (λ (n : StateNo). n.0) s.gotos))
        (sym (length-map s.defaults number_or_zero))
        (comb_fits (width_of v) (λ (n : StateNo). n.0) (length s.defaults) s.nonterminals s.gotos r.gotos (gotos_short v
        s r));
  }

  action_raw : (t : ℕ) (a : TableAction) → IsLegal (machine_of s) t a
      → IsActionWithin (width_of v) (raw_of (width_of v) s) t (action_number (width_of v) a)
  action_raw t error legal = inl refl
  action_raw t accept legal = inr (inl (refl, legal))
  action_raw t (shift n) legal = inr (inr (inl (
    n,
    refl,
    omega (arith, legal.0, length-map s.defaults number_or_zero),
    legal.1,
  )))
  action_raw t (reduce p) legal = inr (inr (inr (
    p,
    refl,
    legal.0,
    omega (
      arith,
      legal.1,
      length-map s.rules raw_rule_of,
    ),
  )))

  by_section : (section : Section) → IsSectionWithin (width_of v) (counts_of v) (raw_of (width_of v) s) section
  by_section symbol_section = record {
    terminals = r.terminals;
    nonterminals = r.nonterminals;
    symbols = r.symbols;
    names = λ k d lt. (r.names k d lt).0;
    end = r.end;
    undefined = r.undefined;
  }
  by_section literal_section = r.literals
  by_section scan_rule_section = (
    omega (arith, r.scan_rule_count, length-map s.scan_rules (raw_scan_rule_of (width_of v))),
    All-map (IsScanRuleWithin (width_of v) (raw_of (width_of v) s)) (raw_scan_rule_of (width_of v)) s.scan_rules (λ k d
        lt.
        let at = r.scan_rules k d lt in
        let emits = emitted_raw (length s.terminals) _ at.emits in
        let cut = cut_raw (width_of v) _ at.cut in
        record {
          kind = emits.0;
          terminal = emits.1;
          no_terminal = emits.2;
          begin = subst (λ n. IsNoneOr (width_of v) n (number_or_none (width_of v) (get_or s.scan_rules k
              d).action.begin))
              (sym (length-map s.conditions (raw_starts_of (width_of v))))
              (number_raw (width_of v) _ (length s.conditions) (few_conditions v s r) at.begin).0;
          cut = cut.0;
          whole = cut.1;
          head = cut.2;
        }),
  )
  by_section condition_section = record {
    some = omega (arith, r.some_condition, length-map s.conditions (raw_starts_of (width_of v)));
    count = omega (arith, r.condition_count, length-map s.conditions (raw_starts_of (width_of v)));
    states = All-map (λ c. IsNoneOr (width_of v) (length (map from_one s.accepted)) c.elsewhere
        × IsNoneOr (width_of v) (length (map from_one s.accepted)) c.at_line) (raw_starts_of (width_of v)) s.conditions
        (λ k d lt.
        let at = r.conditions k d lt in
        let few = few_scan_states v s r in
        let same = sym (length-map s.accepted from_one) in (
          subst (λ n. IsNoneOr (width_of v) n (number_or_none (width_of v) (get_or s.conditions k d).elsewhere)) same
              (number_raw (width_of v) _ (length s.accepted) few at.elsewhere).0,
          subst (λ n. IsNoneOr (width_of v) n (number_or_none (width_of v) (get_or s.conditions k d).at_line)) same
              (number_raw (width_of v) _ (length s.accepted) few at.at_line).0,
        ));
  }
  by_section class_section = record { some = r.some_class; count = r.class_count; classes = r.classes }
  by_section scan_state_section = (
    omega (arith, r.scan_state_count, length-map s.accepted from_one),
    All-map (λ p. p ≤ length (map (raw_scan_rule_of (width_of v)) s.scan_rules)) from_one s.accepted (λ k d lt.
        let le = counted_raw _ (length s.scan_rules) (λ p e.
        r.accepted k p (slice_get-get_or s.accepted k d lt ∙ ap Some e)) in
        omega (arith, le, length-map s.scan_rules (raw_scan_rule_of (width_of v)))),
  )
  by_section scan_row_section = rows_raw (width_of v) (λ (n : StateNo). n.0) (length s.accepted) s.class_count
      s.scan_rows
      r.scan_rows (λ column n. n < length (map from_one s.accepted)) (λ k base u at starts le lt.
      omega (arith, r.scan_targets k u at, length-map s.accepted from_one))
  by_section rule_section = record {
    some = omega (arith, r.some_rule, length-map s.rules raw_rule_of);
    count = omega (arith, r.rule_count, length-map s.rules raw_rule_of);
    rules = All-map (IsRuleWithin (raw_of (width_of v) s)) raw_rule_of s.rules (λ k d lt.
        let short = r.rules k d lt in
        let within = r.machine.rules k d lt in
        record {
          left = within.left;
          shape = shape_raw (get_or s.rules k d).left _ _ short.shape within.shape;
          places = places_raw _ _ within.shape;
          apart = apart_raw _ _ within.shape;
        });
  }
  by_section state_section = record {
    some = omega (arith, r.machine.bottom, length-map s.defaults number_or_zero);
    count = omega (arith, r.state_count, length-map s.defaults number_or_zero);
    defaults = All-map (λ p. p ≤ length (map raw_rule_of s.rules)) number_or_zero s.defaults (λ k d lt.
        let le = default_raw _ (length s.rules) (λ p e.
        (r.machine.defaults k p (slice_get-get_or s.defaults k d lt ∙ ap Some e)).1) in
        omega (arith, le, length-map s.rules raw_rule_of));
  }
  by_section action_section = rows_raw (width_of v) (λ a. action_number (width_of v) (action_from a)) (length
      s.defaults)
      (length s.terminals) s.actions r.actions (IsActionWithin (width_of v) (raw_of (width_of v) s)) (λ k base u at
      starts le lt.
      action_raw (k - base) (action_from u.entry) (used_legal v s r k base u at starts le lt))
  by_section goto_section = rows_raw (width_of v) (λ (n : StateNo). n.0) (length s.defaults) s.nonterminals s.gotos
      r.gotos
      (λ column n. n < length (map number_or_zero s.defaults)) (λ k base u at starts le lt.
      omega (arith, used_goto v s r k base u at starts le lt, length-map s.defaults number_or_zero))

  pub sections_within : AreAllWithin v (raw_of (width_of v) s)
  sections_within = by_section
