-- The set that numbers mean which are within their ranges.
use Rattle.std.proofs.Common.{◌≡◌, ◌∙◌, ◌<◌, ◌≤◌, ◌+◌, inl, inr, ℕ, List, length, refl, sym, ap, subst, arith}
use Rattle.std.proofs.Common.{map, All}
use Rattle.std.specs.Int.{Width}
use Rattle.std.proofs.lemmas.List.{length-map, map-id}
use Rattle.std.proofs.lemmas.List.Elements.{All-map}
use Rattle.ly_base.specs.declared.numbers.StateNo.{StateNo}
use Rattle.ly_base.specs.declared.version.Version.{Version}
use Rattle.ly_base.proofs.ListLemmas.{option_map-some}
use Rattle.ly_pack.specs.Machine.{IsLegal, IsMachine, IsRuleWithin as IsTableRuleWithin}
use Rattle.ly_pack.specs.Rows.{comb_entry}
use Rattle.ly_pack.specs.Values.{action_from, actions_from, gotos_from}
use Rattle.ly_pack.specs.declared.action.TableAction as code
use Rattle.ly_pack.proofs.GridLemmas.{cell-grid_of_some}
use Rattle.ly_tables.specs.Private.Meaning.{action_meant, comb_meant, counted_meant, default_meant, rule_meant}
use Rattle.ly_tables.specs.Private.Meaning.{scan_rule_meant, set_meant, starts_meant, state_meant}
use Rattle.ly_tables.specs.Private.SectionOrder.{AreAllWithin, AreFileNumbers}
use Rattle.ly_tables.specs.Ranges.{AreRows, AreStartsWithin, IsRuleShort, IsScanRule, IsWithinVersion}
use Rattle.ly_tables.specs.Ranges.{counts_of, width_of}
use Rattle.ly_tables.specs.RawOf.{from_one, number_or_zero, raw_of, raw_rule_of, raw_scan_rule_of}
use Rattle.ly_tables.specs.RawOf.{raw_starts_of}
use Rattle.ly_tables.specs.RawSections.{AreRowsWithin, IsActionWithin}
use Rattle.ly_tables.specs.RawSections.{symbol_section, literal_section, scan_rule_section, condition_section}
use Rattle.ly_tables.specs.RawSections.{class_section, scan_state_section, scan_row_section, rule_section}
use Rattle.ly_tables.specs.RawSections.{state_section, action_section, goto_section}
use Rattle.ly_tables.specs.RawSet.{CombFits, RawComb, RawSet}
use Rattle.ly_tables.specs.Spelling.{action_number, least_reduction, least_shift, none_of}
use Rattle.ly_tables.specs.TableSet.{machine_of}
use Rattle.ly_tables.proofs.EntryLemmas.{entry_legal}
use Rattle.ly_tables.proofs.ItemLemmas.{counted_back, default_back, map_back, rule_back, scan_rule_back, starts_back}
use Rattle.ly_tables.proofs.MeaningLemmas.{accept_meant, accepted_within, action_back, defaults_within, error_meant}
use Rattle.ly_tables.proofs.MeaningLemmas.{reduction_meant, rule_short, rule_within, scan_rule_within, shift_meant}
use Rattle.ly_tables.proofs.MeaningLemmas.{starts_within}
use Rattle.ly_tables.proofs.SlotLemmas.{comb_back, comb_within, length-slots, used_within}
use Rattle.ly_tables.proofs.WidthLemmas.{of_version}

-- a list that is mapped there and back is as it was
pub there_and_back : {A B : Type 0} (f : A → B) (g : B → A) (xs : List A) → All (λ x. g (f x) ≡ x) xs
    → map g (map f xs) ≡ xs
there_and_back f g xs all = map_back f g (λ x. x) xs all ∙ map-id xs

-- rows of what numbers mean
rows_meant : {E : Type 0} (w : Width) (meant : ℕ → E) (states columns given : ℕ) (legal : ℕ → ℕ → Type 0) (c : RawComb)
    → CombFits w given c → given ≡ states → AreRowsWithin w columns legal c
    → AreRows states columns (comb_meant w meant columns c)
rows_meant w meant states columns given legal c fits same within = record {
  is_comb = comb_within w meant c fits.row_count columns legal within;
  rows = fits.count ∙ same;
  width = refl;
  slots = omega (arith, fits.slots, length-slots w meant c fits.row_count);
}

-- what an action means is legal
action_legal : (v : Version) (r : RawSet) (column n : ℕ) → length r.rules ≤ (counts_of v).rules
    → IsActionWithin (width_of v) r column n
    → IsLegal (machine_of (set_meant (width_of v) r)) column (action_from (action_meant (width_of v) n))
action_legal v r column n few within = elim within [
  | inl error ↦ from 0 error (error_meant v) tt
  | inr (inl accept) ↦ from 1 accept.0 (accept_meant v) accept.1
  | inr (inr (inl (s, is, lt, one))) ↦ from (least_shift (width_of v) + s) is (shift_meant v s)
      (omega (arith, lt, length-map r.defaults default_meant), one)
  | inr (inr (inr (p, is, one, le))) ↦ from (least_reduction (width_of v) + p) is
      (reduction_meant v p (let facts = of_version v in omega (arith, facts.rules, few, le)))
      (one, omega (arith, le, length-map r.rules rule_meant))
]
  where
    legal : code.TableAction → Type 0
    legal a = IsLegal (machine_of (set_meant (width_of v) r)) column (action_from a)

    from : (m : ℕ) {a : code.TableAction} → n ≡ m → action_meant (width_of v) m ≡ a → legal a
        → legal (action_meant (width_of v) n)
    from m is meant holds = subst legal (sym (ap (action_meant (width_of v)) is ∙ meant)) holds

module _ (v : Version) (r : RawSet) (fits : AreFileNumbers v r) (within : AreAllWithin v r) where
  pub scan_comb : AreRowsWithin (width_of v) r.class_count (λ column s. s < length r.accepted) r.scan_rows
  scan_comb = within scan_row_section

  pub action_comb : AreRowsWithin (width_of v) (length r.terminals) (IsActionWithin (width_of v) r) r.actions
  action_comb = within action_section

  pub goto_comb : AreRowsWithin (width_of v) r.nonterminals (λ column s. s < length r.defaults) r.gotos
  goto_comb = within goto_section

  few_rules : length r.rules ≤ (counts_of v).rules
  few_rules = (within rule_section).count

  few_bases : (bases : List ℕ) (states : ℕ) → length bases ≡ states → states ≤ (counts_of v).states
      → length bases ≤ none_of (width_of v)
  few_bases bases states count few =
      let facts = of_version v in omega (arith, facts.half, facts.quarter, facts.states, count, few)

  pub set_back : raw_of (width_of v) (set_meant (width_of v) r) ≡ r
  set_back =
      let scan_rules = there_and_back (scan_rule_meant (width_of v)) (raw_scan_rule_of (width_of v)) r.scan_rules
      (λ k d lt. scan_rule_back (width_of v) r _ ((within scan_rule_section).1 k d lt)) in
      let conditions = there_and_back (starts_meant (width_of v)) (raw_starts_of (width_of v)) r.conditions (λ k d lt.
      starts_back (width_of v) _) in
      let accepted = there_and_back counted_meant from_one r.accepted (λ k d lt. counted_back _) in
      let scan_rows = comb_back (width_of v) state_meant r.scan_rows fits.scan_rows.row_count r.class_count
      (λ column s. s < length r.accepted) scan_comb (λ (s : StateNo). s.0) (λ column n lt. refl)
      (few_bases _ (length r.accepted) fits.scan_rows.count (within scan_state_section).0) in
      let rules = there_and_back rule_meant raw_rule_of r.rules
      (λ k d lt. rule_back r _ ((within rule_section).rules k d lt)) in
      let defaults = there_and_back default_meant number_or_zero r.defaults (λ k d lt. default_back _) in
      let actions = comb_back (width_of v) (action_meant (width_of v)) r.actions fits.actions.row_count (length
      r.terminals) (IsActionWithin (width_of v) r)
      action_comb (λ a. action_number (width_of v) (action_from a)) (λ column n legal. action_back v r column n
      few_rules legal)
      (few_bases _ (length r.defaults) fits.actions.count (within state_section).count) in
      let gotos = comb_back (width_of v) state_meant r.gotos fits.gotos.row_count r.nonterminals
      (λ column s. s < length r.defaults) goto_comb (λ (s : StateNo). s.0) (λ column n lt. refl)
      (few_bases _ (length r.defaults) fits.gotos.count (within state_section).count) in
      λ i. record {
        nonterminals = r.nonterminals;
        terminals = r.terminals;
        literals = r.literals;
        scan_rules = scan_rules i;
        conditions = conditions i;
        class_count = r.class_count;
        classes = r.classes;
        accepted = accepted i;
        scan_rows = scan_rows i;
        rules = rules i;
        defaults = defaults i;
        actions = actions i;
        gotos = gotos i;
      }

  machine_meant : IsMachine (machine_of (set_meant (width_of v) r))
  machine_meant = record {
    bottom = omega (arith, (within state_section).some, length-map r.defaults default_meant);
    actions = λ state t a is.
        let at = cell-grid_of_some (length (map default_meant r.defaults)) (length r.terminals)
        (actions_from (comb_entry (set_meant (width_of v) r).actions)) state t a is in
        let entry = option_map-some action_from (comb_entry (set_meant (width_of v) r).actions state t) a at.2 in
        let legal = entry_legal (width_of v) (action_meant (width_of v)) r.actions fits.actions.row_count (length
        r.terminals)
        (IsActionWithin (width_of v) r) action_comb state t entry.0 entry.1 in
        subst (IsLegal (machine_of (set_meant (width_of v) r)) t) (ap action_from (sym legal.2) ∙ entry.2)
        (action_legal v r t legal.0 few_rules legal.1);
    defaults = λ state p is.
        let at = defaults_within (length r.rules) r.defaults state p (within state_section).defaults is in
        (at.0, omega (arith, at.1, length-map r.rules rule_meant));
    gotos = λ state left next is.
        let at = cell-grid_of_some (length (map default_meant r.defaults)) r.nonterminals
        (gotos_from (comb_entry (set_meant (width_of v) r).gotos)) state left next is in
        let entry = option_map-some (λ (s : StateNo). s.0) (comb_entry (set_meant (width_of v) r).gotos state left) next
        at.2 in
        let legal = entry_legal (width_of v) state_meant r.gotos fits.gotos.row_count r.nonterminals
        (λ column s. s < length r.defaults) goto_comb state left entry.0 entry.1 in
        let same : legal.0 ≡ next = sym (ap (λ (s : StateNo). s.0) legal.2) ∙ entry.2 in
        omega (arith, legal.1, same, length-map r.defaults default_meant);
    rules = All-map (IsTableRuleWithin r.nonterminals) rule_meant r.rules
        (λ k d lt. rule_within r _ ((within rule_section).rules k d lt));
  }

  pub set_within : IsWithinVersion v (set_meant (width_of v) r)
  set_within =
      let symbols = within symbol_section in
      let conditions = within condition_section in
      let classes = within class_section in
      let accepted = within scan_state_section in
      let rules = within rule_section in
      let states = within state_section in
      record {
        terminals = symbols.terminals;
        nonterminals = symbols.nonterminals;
        symbols = symbols.symbols;
        names = λ k d lt. (symbols.names k d lt, (fits.terminals k d lt).1);
        end = symbols.end;
        undefined = symbols.undefined;
        all_literals = fits.literal_count;
        literals = within literal_section;
        scan_rule_count = omega (
          arith,
          (within scan_rule_section).0,
          length-map r.scan_rules (scan_rule_meant (width_of
              v)),
        );
        scan_rules = All-map (IsScanRule (width_of v) (length r.terminals) (length (map (starts_meant (width_of v))
            r.conditions)))
            (scan_rule_meant (width_of v)) r.scan_rules (λ k d lt. scan_rule_within (width_of v) r (length (map
            (starts_meant (width_of v)) r.conditions)) _
            (length-map r.conditions (starts_meant (width_of v))) ((within scan_rule_section).1 k d lt) (fits.scan_rules
            k d lt));
        some_condition = omega (arith, conditions.some, length-map r.conditions (starts_meant (width_of v)));
        condition_count = omega (arith, conditions.count, length-map r.conditions (starts_meant (width_of v)));
        conditions = subst (λ n. All (AreStartsWithin n) (map (starts_meant (width_of v)) r.conditions))
            (sym (length-map r.accepted counted_meant)) (All-map (AreStartsWithin (length r.accepted)) (starts_meant
            (width_of v))
            r.conditions (λ k d lt. starts_within (width_of v) (length r.accepted) _ (conditions.states k d lt)));
        some_class = classes.some;
        class_count = classes.count;
        all_classes = fits.all_classes;
        classes = classes.classes;
        scan_state_count = omega (arith, accepted.0, length-map r.accepted counted_meant);
        accepted = λ k p is. omega (
          arith,
          length-map r.scan_rules (scan_rule_meant (width_of v)),
          accepted_within (length r.scan_rules) r.accepted k p accepted.1 is,
        );
        scan_rows = rows_meant (width_of v) state_meant (length (map counted_meant r.accepted)) r.class_count (length
            r.accepted)
            (λ column s. s < length r.accepted) r.scan_rows fits.scan_rows (sym (length-map r.accepted counted_meant))
            scan_comb;
        scan_targets = λ k u is.
            let used = used_within (width_of v) state_meant r.scan_rows fits.scan_rows.row_count r.class_count
            (λ column s. s < length r.accepted) scan_comb k u is in
            omega (arith, used.5, ap (λ (s : StateNo). s.0) used.6, length-map r.accepted counted_meant);
        some_rule = omega (arith, rules.some, length-map r.rules rule_meant);
        rule_count = omega (arith, rules.count, length-map r.rules rule_meant);
        rules = All-map IsRuleShort rule_meant r.rules
            (λ k d lt. rule_short (width_of v) r _ (rules.rules k d lt) (fits.rules k d lt));
        state_count = omega (arith, states.count, length-map r.defaults default_meant);
        actions = rows_meant (width_of v) (action_meant (width_of v)) (length (map default_meant r.defaults)) (length
            r.terminals)
            (length r.defaults) (IsActionWithin (width_of v) r) r.actions fits.actions
            (sym (length-map r.defaults default_meant)) action_comb;
        gotos = rows_meant (width_of v) state_meant (length (map default_meant r.defaults)) r.nonterminals (length
            r.defaults)
            (λ column s. s < length r.defaults) r.gotos fits.gotos (sym (length-map r.defaults default_meant))
            goto_comb;
        machine = machine_meant;
      }
