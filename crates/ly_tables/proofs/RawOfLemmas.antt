-- A set is spelled as its numbers are.
use Rattle.std.proofs.Common.{◌≡◌, ◌∙◌, ◌++◌, ℕ, List, [], ◌∷◌, length, map, refl}
use Rattle.std.proofs.Common.{sym, ap, append_assoc, Option, Some, None}
use Rattle.std.specs.Int.{Width, w16, w32, to_be_bytes}
use Rattle.std.specs.List.{flat_map}
use Rattle.std.specs.Prelude.{codes}
use Rattle.std.proofs.lemmas.List.{length-map}
use Rattle.std.proofs.lemmas.List.Folds.{flat_map-map}
use Rattle.ly_base.specs.Shape.{Shape, nil, place, node}
use Rattle.ly_base.specs.declared.cut.Cut.{Cut}
use Rattle.ly_base.specs.declared.cut.Cut.TheVariants.{Whole, Head, Tail}
use Rattle.ly_base.specs.declared.scan_action.Emitted.{Emitted}
use Rattle.ly_base.specs.declared.scan_action.Emitted.TheVariants.{Nothing, Terminal, FirstByte}
use Rattle.ly_pack.specs.Machine.{TableRule}
use Rattle.ly_pack.specs.Rows.{Comb}
use Rattle.ly_pack.specs.Values.{action_from}
use Rattle.ly_tables.specs.RawOf.{cut_kind, cut_length, from_one, kind_of, number_or_none, number_or_zero, raw_comb_of}
use Rattle.ly_tables.specs.RawOf.{raw_of, raw_rule_of, raw_scan_rule_of, raw_starts_of, shape_kind, shape_name}
use Rattle.ly_tables.specs.RawOf.{shape_places, terminal_of}
use Rattle.ly_tables.specs.RawSet.{raw_comb, raw_parser_sections, raw_rule, raw_scan_rule, raw_scanner_sections}
use Rattle.ly_tables.specs.RawSet.{raw_spelling, raw_starts}
use Rattle.ly_tables.specs.Spelling.{action_number, check_of, comb, counted_from_one, cut, emitted, next_of, number}
use Rattle.ly_tables.specs.Spelling.{or_none, or_zero, parser_sections, rule, scan_rule, scanner_sections, shape}
use Rattle.ly_tables.specs.Spelling.{spelling, starts, string, symbol_sections}
use Rattle.ly_tables.specs.TableSet.{ScanRule, Starts, TableSet}

-- items that are spelled one by one
items_same : {A B : Type 0} (f : A → List ℕ) (g : B → List ℕ) (v : A → B) → ((x : A) → f x ≡ g (v x)) → (xs : List A)
    → flat_map f xs ≡ flat_map g (map v xs)
items_same f g v same [] = refl
items_same f g v same (x ∷ xs) =
    let first : f x ≡ g (v x) = same x in
    let rest : flat_map f xs ≡ flat_map g (map v xs) = items_same f g v same xs in
    λ i. first i ++ rest i

module _ (w : Width) where
  or_none_same : (o : Option ℕ) → or_none w o ≡ number w (number_or_none w o)
  or_none_same None = refl
  or_none_same (Some n) = refl

  counted_same : (o : Option ℕ) → counted_from_one w o ≡ number w (from_one o)
  counted_same None = refl
  counted_same (Some n) = refl

  or_zero_same : (o : Option ℕ) → or_zero w o ≡ number w (number_or_zero o)
  or_zero_same None = refl
  or_zero_same (Some n) = refl

  emitted_same : (e : Emitted) → emitted w e ≡ kind_of e ∷ number w (terminal_of e)
  emitted_same Nothing = refl
  emitted_same (Terminal t) = refl
  emitted_same FirstByte = refl

  cut_same : (c : Cut) → cut w c ≡ cut_kind c ∷ number w (cut_length c)
  cut_same Whole = refl
  cut_same (Head n) = refl
  cut_same (Tail n) = refl

  scan_rule_same : (r : ScanRule) → scan_rule w r ≡ raw_scan_rule w (raw_scan_rule_of w r)
  scan_rule_same r = λ i. (emitted_same r.action.emits i ++ or_none_same r.action.begin i) ++ cut_same r.cut i

  starts_same : (c : Starts) → starts w c ≡ raw_starts w (raw_starts_of w c)
  starts_same c = λ i. or_none_same c.elsewhere i ++ or_none_same c.at_line i

  shape_same : (s : Shape)
      → shape s ≡ (shape_kind s ∷ string (shape_name s)) ++ (length (shape_places s) ∷ shape_places s)
  shape_same nil = refl
  shape_same (place i) = refl
  shape_same (node name places) = refl

  rule_same : (r : TableRule) → rule w r ≡ raw_rule w (raw_rule_of r)
  rule_same r = ap (λ s. number w r.left ++ r.body_length ∷ s) (shape_same r.shape)
      ∙ sym (append_assoc (number w r.left) (r.body_length ∷ shape_kind r.shape ∷ string (shape_name r.shape))
      (length (shape_places r.shape) ∷ shape_places r.shape))

  comb_same : {E : Type 0} (code : E → ℕ) (c : Comb E) → comb w code c ≡ raw_comb w (raw_comb_of w code c)
  comb_same code c =
      let count = sym (length-map c.slots (next_of code)) in
      let entries = sym (flat_map-map (number w) (next_of code) c.slots) in
      let rows = sym (flat_map-map (number w) (check_of w) c.slots) in
      λ i. ((flat_map (to_be_bytes w32) c.bases ++ to_be_bytes w32 (count i)) ++ entries i) ++ rows i

  scanner_same : (s : TableSet) → scanner_sections w s ≡ raw_scanner_sections w (raw_of w s)
  scanner_same s =
      let rule_count = sym (length-map s.scan_rules (raw_scan_rule_of w)) in
      let rules = items_same (scan_rule w) (raw_scan_rule w) (raw_scan_rule_of w) scan_rule_same s.scan_rules in
      let condition_count = sym (length-map s.conditions (raw_starts_of w)) in
      let conditions = items_same (starts w) (raw_starts w) (raw_starts_of w) starts_same s.conditions in
      let state_count = sym (length-map s.accepted from_one) in
      let accepted = items_same (counted_from_one w) (number w) from_one counted_same s.accepted in
      let rows = comb_same (λ n. n.0) s.scan_rows in
      λ i. ((((((((number w (rule_count i) ++ rules i) ++ number w (condition_count i)) ++ conditions i)
      ++ number w s.class_count) ++ s.classes) ++ number w (state_count i)) ++ accepted i) ++ rows i)

  parser_same : (s : TableSet) → parser_sections w s ≡ raw_parser_sections w (raw_of w s)
  parser_same s =
      let rule_count = sym (length-map s.rules raw_rule_of) in
      let rules = items_same (rule w) (raw_rule w) raw_rule_of rule_same s.rules in
      let state_count = sym (length-map s.defaults number_or_zero) in
      let defaults = items_same (or_zero w) (number w) number_or_zero or_zero_same s.defaults in
      let actions = comb_same (λ a. action_number w (action_from a)) s.actions in
      let gotos = comb_same (λ n. n.0) s.gotos in
      λ i. ((((number w (rule_count i) ++ rules i) ++ number w (state_count i)) ++ defaults i) ++ actions i) ++ gotos i

  pub spelling_same : (version : ℕ) (s : TableSet) → spelling w version s ≡ raw_spelling w version (raw_of w s)
  spelling_same version s =
      let scanner = scanner_same s in
      let parser = parser_same s in
      λ i. (((codes "LYTB" ++ to_be_bytes w16 version) ++ symbol_sections w s) ++ scanner i) ++ parser i
