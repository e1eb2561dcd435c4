-- What is within the ranges fits the file's numbers.
use Rattle.std.proofs.Common.{◌≡◌, ◌∙◌, ◌<◌, ◌≤◌, ◌+◌, ◌-◌, ℕ, suc, List, ◌∷◌, length, map, Option, Some, None}
use Rattle.std.proofs.Common.{true, refl, sym, ap, subst, arith, slice_get, get_or, nat_lt, nat_eq, eqb}
use Rattle.std.proofs.Common.{eqb-true, lt-ltb, All}
use Rattle.std.specs.Prelude.{AllPairs, option_map}
use Rattle.std.specs.Int.{Width}
use Rattle.std.specs.List.{IsDistinct}
use Rattle.std.proofs.lemmas.Bool.{eq-eqb}
use Rattle.std.proofs.lemmas.Bool.Decides.{Decides-eqb}
use Rattle.std.proofs.lemmas.List.{get_or-map, length-map}
use Rattle.std.proofs.lemmas.List.Elements.{All-contains, All-cons, All-weaker}
use Rattle.std.proofs.lemmas.List.Kept.{AllPairs-cons}
use Rattle.std.proofs.lemmas.Map.Made.{IsDistinct-from_AllPairs}
use Rattle.std.proofs.lemmas.Map.Steps.{length-le_from_distinct_below}
use Rattle.std.proofs.lemmas.Map.Views.{Contains-from_any}
use Rattle.std.proofs.lemmas.Option.{slice_get_within, slice_get-get_or}
use Rattle.ly_base.specs.Shape.{Shape, nil, place, node}
use Rattle.ly_base.specs.declared.numbers.StateNo.{StateNo}
use Rattle.ly_base.specs.declared.scan_action.Emitted.{Emitted}
use Rattle.ly_base.specs.declared.scan_action.Emitted.TheVariants.{Nothing, Terminal, FirstByte}
use Rattle.ly_base.specs.declared.version.Version.{Version}
use Rattle.ly_pack.specs.Machine.{TableAction, TableRule, IsLegal, IsRuleNumber, IsRuleWithin, IsShapeFor}
use Rattle.ly_pack.specs.Machine.{shift, reduce, accept, error}
use Rattle.ly_pack.specs.Rows.{Comb, Used, comb_entry}
use Rattle.ly_pack.specs.Values.{action_from, actions_from, gotos_from}
use Rattle.ly_pack.specs.declared.action.TableAction as code
use Rattle.ly_pack.proofs.GridLemmas.{cell-grid_of}
use Rattle.ly_tables.specs.Private.Found.{zero_fits}
use Rattle.ly_tables.specs.Private.Short.{AreStartsShort, IsCountable, IsRuleWritten, IsScanRuleShort, IsShapeWritten}
use Rattle.ly_tables.specs.Private.Short.{IsSlotShort, OptionFits, bound_of}
use Rattle.ly_tables.specs.Ranges.{AreRows, IsEmittedWithin, IsRuleShort, IsShapeShort, IsWithinVersion}
use Rattle.ly_tables.specs.Ranges.{width_of}
use Rattle.ly_tables.specs.RawSet.{Fits}
use Rattle.ly_tables.specs.Spelling.{action_number, check_of, next_of}
use Rattle.ly_tables.specs.TableSet.{TableSet, machine_of}
use Rattle.ly_tables.proofs.WidthLemmas.{of_version}

-- what holds of each member of a list that was mapped
pub All-at : {A B : Type 0} (P : B → Type 0) (f : A → B) (xs : List A) (i : ℕ) (d : A) → i < length xs
    → All P (map f xs) → P (f (get_or xs i d))
All-at P f xs i d lt all =
    subst P (get_or-map f xs i d (f d) lt) (all i (f d) (omega (arith, length-map xs f)))

-- what holds of all members of a list that was mapped
pub All-unmap : {A B : Type 0} (P : B → Type 0) (f : A → B) (xs : List A) → All P (map f xs) → All (λ x. P (f x)) xs
All-unmap P f xs all = λ k d lt. All-at P f xs k d lt all

-- what holds of one that stands in the list
pub All-item : {A B : Type 0} (P : B → Type 0) (f : A → B) (xs : List A) (i : ℕ) (x : A) → i < length xs
    → x ≡ get_or xs i x → All P (map f xs) → P (f x)
All-item P f xs i x lt is all = subst (λ y. P (f y)) (sym is) (All-at P f xs i x lt all)

-- distinct places of a body are no more than it has
pub few_places : (n : ℕ) (places : List ℕ) → All (λ i. (1 ≤ i) × (i ≤ n)) places → AllPairs (λ i j. i ≡ j → ⊥) places
    → length places ≤ n
few_places n places within apart =
    let distinct : IsDistinct eqb (0 ∷ places)
    = IsDistinct-from_AllPairs Decides-eqb (0 ∷ places) (AllPairs-cons (λ i j. i ≡ j → ⊥) 0 places
    (All-weaker (λ i. (1 ≤ i) × (i ≤ n)) (λ i. 0 ≡ i → ⊥) (λ i at e. absurd (omega (arith, at.0, e))) places within)
    apart) in
    let count : length (0 ∷ places) ≤ suc n = length-le_from_distinct_below (0 ∷ places) (suc n) distinct
    (λ q h. All-contains (λ m. m < suc n) (0 ∷ places) q (All-cons (λ m. m < suc n) 0 places (omega arith)
    (All-weaker (λ i. (1 ≤ i) × (i ≤ n)) (λ m. m < suc n) (λ i at. omega (arith, at.1)) places within))
    (Contains-from_any eqb-true q (0 ∷ places) h)) in
    omega arith

shape_written : (n : ℕ) (s : Shape) → n ≤ 255 → IsShapeShort s → IsShapeFor n s → IsShapeWritten s
shape_written n nil le short for = tt
shape_written n (place i) le short for = omega (arith, for.1)
shape_written n (node name places) le short for = (
  omega (arith, short.0.1),
  omega (arith, few_places n places for.1 for.2),
  All-weaker (λ i. (1 ≤ i) × (i ≤ n)) (λ i. i < 256) (λ i at. omega (arith, at.1)) places for.1,
)

rule_written : (w : Width) (n : ℕ) (r : TableRule) → n < bound_of w → IsRuleShort r → IsRuleWithin n r
    → IsRuleWritten w r
rule_written w n r le short within = record {
  left = omega (arith, within.left, le);
  body = omega (arith, short.body);
  shape = shape_written r.body_length r.shape short.body short.shape within.shape;
}

-- an option whose number is below a bound
option_short : (w : Width) (o : Option ℕ) → ((p : ℕ) → o ≡ Some p → Fits w p) → OptionFits w o
option_short w None below = tt
option_short w (Some p) below = below p refl

slot_short : {E : Type 0} (w : Width) (number : E → ℕ) (o : Option (Used E))
    → ((u : Used E) → o ≡ Some u → Fits w u.row × Fits w (number u.entry)) → IsSlotShort w number o
slot_short w number None short = tt
slot_short w number (Some u) short = short u refl

pub next_short : {E : Type 0} (w : Width) (number : E → ℕ) (o : Option (Used E)) → IsSlotShort w number o
    → Fits w (next_of number o)
next_short w number None short = zero_fits w
next_short w number (Some u) short = short.1

pub check_short : {E : Type 0} (w : Width) (number : E → ℕ) (o : Option (Used E)) → IsSlotShort w number o
    → Fits w (check_of w o)
check_short w number None short = let some = zero_fits w in omega (arith, some)
check_short w number (Some u) short = short.0

-- an option whose number is below a bound that fits
option_countable : (w : Width) (bound : ℕ) (o : Option ℕ) → bound < bound_of w → ((p : ℕ) → o ≡ Some p → p < bound)
    → IsCountable w o
option_countable w bound None le below = tt
option_countable w bound (Some p) le below = let lt : p < bound = below p refl in omega (arith, lt, le)

emitted_short : (n m : ℕ) (e : Emitted) → n ≤ m → IsEmittedWithin n e → IsEmittedWithin m e
emitted_short n m Nothing le within = tt
emitted_short n m (Terminal t) le within = (within.0, omega (arith, within.1, le))
emitted_short n m FirstByte le within = tt

-- the slots of rows whose entries' numbers fit
pub slots_short : {E : Type 0} (w : Width) (number : E → ℕ) (states columns : ℕ) (c : Comb E) → states < bound_of w
    → AreRows states columns c
    → ((k : ℕ) (u : Used E) → slice_get c.slots k ≡ Some (Some u) → Fits w (number u.entry))
    → All (IsSlotShort w number) c.slots
slots_short {E} w number states columns c le rows entries = λ k d lt.
    slot_short w number (get_or c.slots k d) (λ u e.
    let at : slice_get c.slots k ≡ Some (Some u) = slice_get-get_or c.slots k d lt ∙ ap Some e in
    let base = rows.is_comb.slots k u at in
    (omega (arith, slice_get_within c.bases u.row base.0 base.1, rows.rows, le), entries k u at))

-- a used slot's entry is that of its row and a column
used_entry : {E : Type 0} (c : Comb E) (u : Used E) (base k : ℕ) → slice_get c.slots k ≡ Some (Some u)
    → slice_get c.bases u.row ≡ Some base → base ≤ k → k < base + c.width
    → comb_entry c u.row (k - base) ≡ Some u.entry
used_entry {E} c u base k at is le lt =
    let inside : nat_lt (k - base) c.width ≡ true = lt-ltb (k - base) c.width (omega arith) in
    let same : base + (k - base) ≡ k = omega arith in
    let own : nat_eq u.row u.row ≡ true = eq-eqb u.row u.row refl in
    rw inside (rw is (rw same (rw at (rw own refl))))

module _ (v : Version) (s : TableSet) (r : IsWithinVersion v s) where
  pub few_symbols : length s.terminals + s.nonterminals < bound_of (width_of v)
  few_symbols = let facts = of_version v in omega (arith, facts.half, facts.quarter, facts.symbols, r.symbols)

  pub few_states : length s.defaults < bound_of (width_of v)
  few_states = let facts = of_version v in omega (arith, facts.half, facts.quarter, facts.states, r.state_count)

  pub few_scan_states : length s.accepted < bound_of (width_of v)
  few_scan_states =
      let facts = of_version v in omega (arith, facts.half, facts.quarter, facts.states, r.scan_state_count)

  pub few_rules : length s.rules < bound_of (width_of v)
  few_rules = let facts = of_version v in omega (arith, facts.half, facts.quarter, facts.rules, r.rule_count)

  pub few_scan_rules : length s.scan_rules < bound_of (width_of v)
  few_scan_rules =
      let facts = of_version v in omega (arith, facts.half, facts.quarter, facts.rules, r.scan_rule_count)

  pub few_conditions : length s.conditions < bound_of (width_of v)
  few_conditions =
      let facts = of_version v in omega (
        arith,
        facts.half,
        facts.quarter,
        facts.conditions,
        facts.classes,
        r.condition_count,
      )

  pub few_classes : s.class_count < bound_of (width_of v)
  few_classes = let facts = of_version v in omega (arith, facts.half, facts.quarter, facts.classes, r.class_count)

  pub rules_written : All (IsRuleWritten (width_of v)) s.rules
  rules_written = λ k d lt. rule_written (width_of v) s.nonterminals (get_or s.rules k d) (omega (arith, few_symbols))
      (r.rules k d lt) (r.machine.rules k d lt)

  pub defaults_short : All (OptionFits (width_of v)) s.defaults
  defaults_short = λ k d lt. option_short (width_of v) (get_or s.defaults k d) (λ p e.
      let there : IsRuleNumber (machine_of s) p
      = r.machine.defaults k p (slice_get-get_or s.defaults k d lt ∙ ap Some e) in
      omega (arith, there.1, few_rules))

  legal_short : (t : ℕ) (a : code.TableAction) → IsLegal (machine_of s) t (action_from a)
      → Fits (width_of v) (action_number (width_of v) (action_from a))
  legal_short t a legal = number_short (action_from a) legal
    where
      number_short : (b : TableAction) → IsLegal (machine_of s) t b → Fits (width_of v) (action_number (width_of v) b)
      number_short error legal = zero_fits (width_of v)
      number_short accept legal =
          let facts = of_version v in omega (arith, facts.half, facts.quarter, facts.classes)
      number_short (shift n) legal =
          let facts = of_version v in omega (arith, facts.half, facts.quarter, facts.states, legal.0, r.state_count)
      number_short (reduce p) legal =
          let facts = of_version v in omega (arith, facts.half, facts.quarter, facts.rules, legal.1, r.rule_count)

  -- the action of a used slot is legal
  pub used_legal : (k base : ℕ) (u : Used code.TableAction) → slice_get s.actions.slots k ≡ Some (Some u)
      → slice_get s.actions.bases u.row ≡ Some base → base ≤ k → k < base + s.actions.width
      → IsLegal (machine_of s) (k - base) (action_from u.entry)
  used_legal k base u at starts le lt =
      let row : u.row < length s.defaults
      = omega (arith, slice_get_within s.actions.bases u.row base starts, r.actions.rows) in
      let column : k - base < length s.terminals = omega (arith, le, lt, r.actions.width) in
      r.machine.actions u.row (k - base) (action_from u.entry)
      (cell-grid_of (length s.defaults) (length s.terminals) (actions_from (comb_entry s.actions)) u.row (k - base)
      row column ∙ ap (option_map action_from) (used_entry s.actions u base k at starts le lt))

  -- the state of a used slot is there
  pub used_goto : (k base : ℕ) (u : Used StateNo) → slice_get s.gotos.slots k ≡ Some (Some u)
      → slice_get s.gotos.bases u.row ≡ Some base → base ≤ k → k < base + s.gotos.width
      → u.entry.0 < length s.defaults
  used_goto k base u at starts le lt =
      let row : u.row < length s.defaults
      = omega (arith, slice_get_within s.gotos.bases u.row base starts, r.gotos.rows) in
      let column : k - base < s.nonterminals = omega (arith, le, lt, r.gotos.width) in
      r.machine.gotos u.row (k - base) u.entry.0
      (cell-grid_of (length s.defaults) s.nonterminals (gotos_from (comb_entry s.gotos)) u.row (k - base)
      row column ∙ ap (option_map (λ (n : StateNo). n.0)) (used_entry s.gotos u base k at starts le lt))

  pub actions_short : All (IsSlotShort (width_of v) (λ a. action_number (width_of v) (action_from a))) s.actions.slots
  actions_short = slots_short (width_of v) (λ a. action_number (width_of v) (action_from a)) (length s.defaults)
      (length s.terminals) s.actions few_states r.actions (λ k u at.
      let place = r.actions.is_comb.slots k u at in
      legal_short (k - place.0) u.entry (used_legal k place.0 u at place.1 place.2 place.3))

  pub gotos_short : All (IsSlotShort (width_of v) (λ (n : StateNo). n.0)) s.gotos.slots
  gotos_short = slots_short (width_of v) (λ (n : StateNo). n.0) (length s.defaults) s.nonterminals
      s.gotos few_states r.gotos (λ k u at.
      let place = r.gotos.is_comb.slots k u at in
      omega (arith, used_goto k place.0 u at place.1 place.2 place.3, few_states))

  pub scan_rows_short : All (IsSlotShort (width_of v) (λ (n : StateNo). n.0)) s.scan_rows.slots
  scan_rows_short = slots_short (width_of v) (λ (n : StateNo). n.0) (length s.accepted) s.class_count s.scan_rows
      few_scan_states r.scan_rows (λ k u at. omega (arith, r.scan_targets k u at, few_scan_states))

  pub names_short : All (λ name. length name < 65536) s.terminals
  names_short = λ k d lt. omega (arith, (r.names k d lt).0.1)

  pub literals_short : All (Fits (width_of v)) s.literals
  literals_short = λ k d lt. omega (arith, (r.literals k d lt).1, few_symbols)

  pub scan_rules_short : All (IsScanRuleShort (width_of v)) s.scan_rules
  scan_rules_short = λ k d lt. let at = r.scan_rules k d lt in
      record {
        emits = emitted_short (length s.terminals) (bound_of (width_of v)) _ (omega (arith, few_symbols)) at.emits;
        begin = λ c e. omega (arith, at.begin c e, few_conditions);
        cut = at.cut;
      }

  pub conditions_short : All (AreStartsShort (width_of v)) s.conditions
  conditions_short = λ k d lt. let at = r.conditions k d lt in
      record {
        elsewhere = λ n e. omega (arith, at.elsewhere n e, few_scan_states);
        at_line = λ n e. omega (arith, at.at_line n e, few_scan_states);
      }

  pub accepted_short : All (IsCountable (width_of v)) s.accepted
  accepted_short = λ k d lt. option_countable (width_of v) (length s.scan_rules) _ few_scan_rules
      (λ p e. r.accepted k p (slice_get-get_or s.accepted k d lt ∙ ap Some e))
