-- The labels of the tokens of a table set's scanner.
use Rattle.std.proofs.Common.{◌≡◌, ◌∙◌, ◌<◌, ◌≤◌, ◌+◌, ℕ, zero, suc, List, [], ◌∷◌, ◌++◌, All, Bool, Option, None, Some, ap}
use Rattle.std.proofs.Common.{arith, false, get_or, length, map, refl, subst, sym, take, true}
use Rattle.std.proofs.lemmas.Bool.Decides.{nat_tests}
use Rattle.std.proofs.lemmas.List.{length-map, map-append, take_more}
use Rattle.std.proofs.lemmas.Option.{get_or_from_slice_get, slice_get-get_or, slice_get-map, slice_get_within}
use Rattle.std.specs.Prelude.{if◌then◌else◌, min, nat_eq, nat_le, option_and_then, option_map, slice_get, slice_index}
use Rattle.std.specs.Prelude.{unwrap_or}
use Rattle.ly_base.specs.Lexed.{tokens_from}
use Rattle.ly_base.specs.declared.lexeme.End.{End}
use Rattle.ly_base.specs.declared.scan_action.Emitted.{Emitted}
use Rattle.ly_base.specs.declared.scan_action.Emitted.TheVariants.{FirstByte, Nothing, Terminal}
use Rattle.ly_base.specs.declared.version.Version.TheVariants.{V2}
use Rattle.ly_drive.specs.Private.SetLabels.{AreLabelsOfSet, label_number, labels_in, rule_label_of}
use Rattle.ly_drive.specs.TableTokens.{token_name_in}
use Rattle.ly_feed.specs.Passing.{ArePassedOver}
use Rattle.ly_feed.specs.ScanPart.{condition_in, scan_part_of, terminal_by}
use Rattle.ly_feed.specs.Vocabularies.{name_in}
use Rattle.ly_listing.specs.Labels.{EndsSo, IsLabelListing, label_at, label_for, labelled_lines, labelling}
use Rattle.ly_listing.specs.Listings.{end_line}
use Rattle.ly_listing.specs.declared.rule_labels.RuleLabel.{RuleLabel}
use Rattle.ly_listing.specs.declared.rule_labels.RuleLabels.{RuleLabels}
use Rattle.ly_print.specs.declared.answer_form.AnswerForm.{AnswerForm}
use Rattle.ly_scan.specs.Lexer.{Scanner}
use Rattle.ly_tables.specs.Ranges.{IsEmittedWithin, IsWithinVersion}
use Rattle.ly_tables.specs.TableSet.{ScanRule, TableSet}
use Rattle.ly_tables.specs.Values.{scan_rule_from}
use Rattle.ly_tables.specs.declared.scan_rule.ScanRule as code

-- one element more
pub map_more : {A B : Type 0} (f : A → B) (xs : List A) (i : ℕ) (d : A) → i < length xs
    → map f (take (i + 1) xs) ≡ map f (take i xs) ++ f (get_or xs i d) ∷ []
map_more f xs i d lt = ap (map f) (take_more xs i d lt) ∙ map-append f (take i xs) (get_or xs i d ∷ [])

pub map_twice : {A B C : Type 0} (f : A → B) (h : B → C) (xs : List A) → map (λ x. h (f x)) xs ≡ map h (map f xs)
map_twice f h [] = refl
map_twice f h (x ∷ xs) = ap (λ ys. h (f x) ∷ ys) (map_twice f h xs)

-- what stands at a place of a list, and behind it
get_front : {A : Type 0} (xs ys : List A) (k : ℕ) → k < length xs → slice_get (xs ++ ys) k ≡ slice_get xs k
get_front [] ys k lt = absurd (omega (arith, lt))
get_front (x ∷ xs) ys zero lt = refl
get_front (x ∷ xs) ys (suc k) lt = get_front xs ys k (omega (arith, lt))

get_behind : {A : Type 0} (xs ys : List A) (k n : ℕ) → n ≡ k + length xs → slice_get (xs ++ ys) n ≡ slice_get ys k
get_behind [] ys k n is = ap (slice_get ys) (omega (arith, is))
get_behind (x ∷ xs) ys k zero is = absurd (omega (arith, is))
get_behind (x ∷ xs) ys k (suc n) is = get_behind xs ys k n (omega (arith, is))

module _ (form : AnswerForm) (s : TableSet) (ranges : IsWithinVersion V2 s) where
  -- the label of the first byte's literal
  first_label : (first : ℕ) → first < 256 → slice_get (labels_in form s) first
      ≡ option_map (label_for form) (option_map (name_in s.terminals) (slice_get s.literals first))
  first_label first lt =
      let f : ℕ → List ℕ = λ t. label_for form (name_in s.terminals t) in
      let count : length (map f s.literals) ≡ 256 = length-map s.literals f ∙ ranges.all_literals in
      get_front (map f s.literals) (map (label_for form) s.terminals) first (omega (arith, count, lt))
      ∙ slice_get-map f s.literals first ∙ by (slice_get s.literals first)
    where
      by : (o : Option ℕ) → option_map (λ t. label_for form (name_in s.terminals t)) o
          ≡ option_map (label_for form) (option_map (name_in s.terminals) o)
      by None = refl
      by (Some t) = refl

  -- the label of a terminal
  own_label : (t first : ℕ) → t < length s.terminals → label_at (labels_in form s) (min (t + 256) 4294967295) first
      ≡ Some (label_for form (name_in s.terminals t))
  own_label t first lt =
      let f : ℕ → List ℕ = λ k. label_for form (name_in s.terminals k) in
      let symbols = ranges.symbols in
      let number : min (t + 256) 4294967295 ≡ t + 256 = omega (arith, lt, symbols) in
      let count : length (map f s.literals) ≡ 256 = length-map s.literals f ∙ ranges.all_literals in
      let past : nat_le (t + 256) 1 ≡ false = grind (arith, nat_tests) in
      let other : nat_eq (t + 256) 2 ≡ false = grind (arith, nat_tests) in
      let there : slice_get s.terminals t ≡ Some (get_or s.terminals t []) = slice_get-get_or s.terminals t [] lt in
      let named : name_in s.terminals t ≡ get_or s.terminals t [] = ap (λ o. unwrap_or o []) there in
      ap (λ n. label_at (labels_in form s) n first) number
      ∙ ap (λ b. if b then None else slice_get (labels_in form s) (if nat_eq (t + 256) 2 then first else t + 256)) past
      ∙ ap (λ b. slice_get (labels_in form s) (if b then first else t + 256)) other
      ∙ get_behind (map f s.literals) (map (label_for form) s.terminals) t (t + 256) (omega (arith, count))
      ∙ slice_get-map (label_for form) s.terminals t ∙ ap (option_map (label_for form)) there
      ∙ ap (λ n. Some (label_for form n)) (sym named)

  -- the label of the tokens that are emitted so
  emitted_label : (e : Emitted) (bytes : List ℕ) → IsEmittedWithin (length s.terminals) e → slice_index bytes 0 < 256
      → label_at (labels_in form s) (label_number e) (slice_index bytes 0)
      ≡ option_map (label_for form) (option_map (name_in s.terminals) (terminal_by (scan_part_of s) bytes e))
  emitted_label Nothing bytes within byte = refl
  emitted_label (Terminal t) bytes within byte = own_label t.0 (slice_index bytes 0) within.1
  emitted_label FirstByte bytes within byte = first_label (slice_index bytes 0) byte

  -- tokens that are never there have no label
  no_label : (e : Emitted) → ((bytes : List ℕ) → terminal_by (scan_part_of s) bytes e ≡ None) → (first : ℕ)
      → label_at (labels_in form s) (label_number e) first ≡ None
  no_label Nothing none first = refl
  no_label (Terminal t) none first = let is = none [] in absurd cc
  no_label FirstByte none first =
      let some : 0 < length s.literals = omega (arith, ranges.all_literals) in
      let is : Some (get_or s.literals 0 0) ≡ None = sym (slice_get-get_or s.literals 0 0 some) ∙ none (0 ∷ []) in
      absurd cc

  emits_within : (rust : List code.ScanRule) → map scan_rule_from rust ≡ s.scan_rules → (i : ℕ) (r : code.ScanRule)
      → slice_get rust i ≡ Some r → IsEmittedWithin (length s.terminals) r.action.emits
  emits_within rust are i r is =
      let there : slice_get s.scan_rules i ≡ Some (scan_rule_from r) = ap (λ rs. slice_get rs i) (sym are)
      ∙ slice_get-map scan_rule_from rust i ∙ ap (option_map scan_rule_from) is in
      subst (λ (x : ScanRule). IsEmittedWithin (length s.terminals) x.action.emits)
      (get_or_from_slice_get s.scan_rules i (scan_rule_from r) (scan_rule_from r) there)
      (ranges.scan_rules i (scan_rule_from r) (slice_get_within s.scan_rules i (scan_rule_from r) there)).emits

  -- so they are the labels of the set
  pub are_labels_of_set : (rust : List code.ScanRule) (l : RuleLabels) → map scan_rule_from rust ≡ s.scan_rules
      → l.labels.items ≡ labels_in form s → l.rules.items ≡ map rule_label_of rust → AreLabelsOfSet form s l
  are_labels_of_set rust l are labels rules = record {
    labels = λ i bytes byte. at_rule i (λ r. label_at l.labels.items r.number (slice_index bytes 0))
        ∙ by_label i bytes byte (slice_get rust i) refl
        ∙ ap (λ o. option_map (label_for form) (option_map (name_in s.terminals) (option_and_then (λ (r : ScanRule).
        terminal_by (scan_part_of s) bytes r.action.emits) o))) (sym (at_set i));
    begins = λ i. at_rule i (λ r. r.begin) ∙ by_begin (slice_get rust i)
        ∙ ap (option_and_then (λ (r : ScanRule). r.action.begin)) (sym (at_set i));
    passed = λ passed over i is. (
      at_rule i (λ r. r.begin) ∙ by_begin (slice_get rust i)
          ∙ ap (option_and_then (λ (r : ScanRule). r.action.begin)) (sym (at_set i)) ∙ (over i is).condition,
      λ bytes. at_rule i (λ r. label_at l.labels.items r.number (slice_index bytes 0))
          ∙ by_none i bytes (slice_get rust i) (λ bs. ap (option_and_then (λ (r : ScanRule).
          terminal_by (scan_part_of s) bs r.action.emits)) (sym (at_set i)) ∙ (over i is).terminal bs),
    );
  }
    where
      at_rule : {B : Type 0} (i : ℕ) (f : RuleLabel → Option B) → option_and_then f (slice_get l.rules.items i)
          ≡ option_and_then f (option_map rule_label_of (slice_get rust i))
      at_rule i f = ap (option_and_then f) (ap (λ rs. slice_get rs i) rules ∙ slice_get-map rule_label_of rust i)

      at_set : (i : ℕ) → slice_get s.scan_rules i ≡ option_map scan_rule_from (slice_get rust i)
      at_set i = ap (λ rs. slice_get rs i) (sym are) ∙ slice_get-map scan_rule_from rust i

      by_begin : (o : Option code.ScanRule)
          → option_and_then (λ (r : RuleLabel). r.begin) (option_map rule_label_of o)
          ≡ option_and_then (λ (r : ScanRule). r.action.begin) (option_map scan_rule_from o)
      by_begin None = refl
      by_begin (Some r) = refl

      by_label : (i : ℕ) (bytes : List ℕ) → slice_index bytes 0 < 256 → (o : Option code.ScanRule)
          → slice_get rust i ≡ o
          → option_and_then (λ (r : RuleLabel). label_at l.labels.items r.number (slice_index bytes 0))
          (option_map rule_label_of o)
          ≡ option_map (label_for form) (option_map (name_in s.terminals) (option_and_then (λ (r : ScanRule).
          terminal_by (scan_part_of s) bytes r.action.emits) (option_map scan_rule_from o)))
      by_label i bytes byte None is = refl
      by_label i bytes byte (Some r) is =
          ap (λ ls. label_at ls (label_number r.action.emits) (slice_index bytes 0)) labels
          ∙ emitted_label r.action.emits bytes (emits_within rust are i r is) byte

      by_none : (i : ℕ) (bytes : List ℕ) (o : Option code.ScanRule)
          → ((bs : List ℕ) → option_and_then (λ (r : ScanRule). terminal_by (scan_part_of s) bs r.action.emits)
          (option_map scan_rule_from o) ≡ None)
          → option_and_then (λ (r : RuleLabel). label_at l.labels.items r.number (slice_index bytes 0))
          (option_map rule_label_of o) ≡ None
      by_none i bytes None none = refl
      by_none i bytes (Some r) none =
          ap (λ ls. label_at ls (label_number r.action.emits) (slice_index bytes 0)) labels
          ∙ no_label r.action.emits none (slice_index bytes 0)

-- a run has a listing by labels
pub listing_of_run : (form : AnswerForm) (s : Scanner) (l : RuleLabels) (text : List ℕ) (e : End) → EndsSo s l text e
    → (lines : List ℕ) × IsLabelListing form s l text e lines
listing_of_run form s l text e run = (
  labelled_lines form text (tokens_from (labelling l) 0 text run.0) ++ end_line form text e,
  (run.0, run.1, refl),
)
