-- What numbers mean that are within their ranges, item by item.
use Rattle.std.proofs.Common.{◌≡◌, ◌∙◌, ◌<◌, ◌≤◌, ◌+◌, ◌-◌, inl, inr, ℕ, zero, suc, List, length}
use Rattle.std.proofs.Common.{refl, ap, sym, subst, arith, map, All, Option, Some, true, false}
use Rattle.std.proofs.Common.{slice_get, nat_eq, nat_lt, lt-ltb}
use Rattle.std.specs.Int.{Width}
use Rattle.std.proofs.lemmas.Bool.{cases_eq, eq-eqb, le-ltb, ne_eqb}
use Rattle.std.proofs.lemmas.Option.{get_or_from_slice_get, none-some, same_Some, slice_get-map, slice_get_within}
use Rattle.ly_base.proofs.ListLemmas.{option_map-some}
use Rattle.ly_pack.specs.Machine.{IsRuleWithin as IsTableRuleWithin, IsShapeFor}
use Rattle.ly_base.specs.declared.version.Version.{Version}
use Rattle.ly_pack.specs.Values.{action_from}
use Rattle.ly_pack.specs.declared.action.TableAction as code
use Rattle.ly_pack.specs.declared.action.TableAction.TheVariants.{Shift, Reduce, Accept, Error}
use Rattle.ly_tables.specs.Private.Meaning.{action_meant, counted_meant, cut_meant, default_meant, emitted_meant}
use Rattle.ly_tables.specs.Private.Meaning.{number_meant, rule_meant, scan_rule_meant, shape_meant, starts_meant}
use Rattle.ly_tables.specs.Ranges.{AreStartsWithin, IsCutWithin, IsEmittedWithin, IsRuleShort, IsScanRule, IsShapeShort}
use Rattle.ly_tables.specs.Ranges.{counts_of, width_of}
use Rattle.ly_tables.specs.RawSections.{IsActionWithin, IsNoneOr, IsRuleWithin, IsScanRuleWithin, IsShapeWithin}
use Rattle.ly_tables.specs.RawSet.{Fits, RawRule, RawScanRule, RawSet, RawStarts, RuleFits, ScanRuleFits}
use Rattle.ly_tables.specs.Spelling.{action_number, least_reduction, least_shift, none_of}
use Rattle.ly_tables.proofs.WidthLemmas.{of_version}

-- a number that is there is below its bound
number_below : (w : Width) (bound n c : ℕ) → IsNoneOr w bound n → number_meant w n ≡ Some c → c < bound
number_below w bound n c within is = elim (cases_eq n (none_of w)) [
  | inl top ↦ let e : nat_eq n (none_of w) ≡ true = eq-eqb n (none_of w) top in absurd (none-some c (rw e at is))
  | inr other ↦ let e : nat_eq n (none_of w) ≡ false = ne_eqb n (none_of w) other in
      let same : n ≡ c = same_Some n c (rw e at is) in
      elim within [
        | inl top ↦ absurd (other top)
        | inr lt ↦ omega (arith, lt, same)
      ]
]

emitted_within : (k t terminals : ℕ) → (k ≡ 1 → (1 ≤ t) × (t < terminals))
    → IsEmittedWithin terminals (emitted_meant k t)
emitted_within zero t terminals token = tt
emitted_within (suc zero) t terminals token = token refl
emitted_within (suc (suc k)) t terminals token =
    let e : nat_eq (suc (suc k)) 0 ≡ false = ne_eqb (suc (suc k)) 0 (λ h. omega (arith, h)) in
    let f : nat_eq (suc (suc k)) 1 ≡ false = ne_eqb (suc (suc k)) 1 (λ h. omega (arith, h)) in
    rw (e, f) tt

cut_within : (w : Width) (k n : ℕ) → Fits w n → (k ≡ 1 → 1 ≤ n) → IsCutWithin w (cut_meant k n)
cut_within w zero n fits head = tt
cut_within w (suc zero) n fits head = (head refl, fits)
cut_within w (suc (suc k)) n fits head =
    let e : nat_eq (suc (suc k)) 0 ≡ false = ne_eqb (suc (suc k)) 0 (λ h. omega (arith, h)) in
    let f : nat_eq (suc (suc k)) 1 ≡ false = ne_eqb (suc (suc k)) 1 (λ h. omega (arith, h)) in
    rw (e, f) fits

pub scan_rule_within : (w : Width) (r : RawSet) (conditions : ℕ) (x : RawScanRule) → conditions ≡ length r.conditions
    → IsScanRuleWithin w r x → ScanRuleFits w x
    → IsScanRule w (length r.terminals) conditions (scan_rule_meant w x)
scan_rule_within w r conditions x same within fits = record {
  emits = emitted_within x.kind x.terminal (length r.terminals) within.terminal;
  begin = λ c is. omega (arith, same, number_below w (length r.conditions) x.begin c within.begin is);
  cut = cut_within w x.cut x.len fits.len within.head;
}

pub starts_within : (w : Width) (states : ℕ) (c : RawStarts)
    → IsNoneOr w states c.elsewhere × IsNoneOr w states c.at_line → AreStartsWithin states (starts_meant w c)
starts_within w states c within = record {
  elsewhere = λ s is. number_below w states c.elsewhere s within.0 is;
  at_line = λ s is. number_below w states c.at_line s within.1 is;
}

counted_some : (n p : ℕ) → counted_meant n ≡ Some p → n ≡ p + 1
counted_some zero p is = absurd (none-some p is)
counted_some (suc n) p is =
    let e : nat_eq (suc n) 0 ≡ false = ne_eqb (suc n) 0 (λ h. omega (arith, h)) in
    let same : suc n - 1 ≡ p = same_Some (suc n - 1) p (rw e at is) in
    omega (arith, same)

default_some : (n p : ℕ) → default_meant n ≡ Some p → (1 ≤ n) × (n ≡ p)
default_some zero p is = absurd (none-some p is)
default_some (suc n) p is =
    let e : nat_eq (suc n) 0 ≡ false = ne_eqb (suc n) 0 (λ h. omega (arith, h)) in
    (omega arith, same_Some (suc n) p (rw e at is))

-- an item of a list of numbers that are at most so great
numbered : (f : ℕ → Option ℕ) (bound : ℕ) (ns : List ℕ) (k p : ℕ) → All (λ n. n ≤ bound) ns
    → slice_get (map f ns) k ≡ Some (Some p) → (n : ℕ) × (n ≤ bound) × (f n ≡ Some p)
numbered f bound ns k p all is =
    let at = option_map-some f (slice_get ns k) (Some p) (sym (slice_get-map f ns k) ∙ is) in (
      at.0,
      subst (λ n. n ≤ bound) (get_or_from_slice_get ns k at.0 0 at.1)
          (all k 0 (slice_get_within ns k at.0 at.1)),
      at.2,
    )

pub accepted_within : (bound : ℕ) (ns : List ℕ) (k p : ℕ) → All (λ n. n ≤ bound) ns
    → slice_get (map counted_meant ns) k ≡ Some (Some p) → p < bound
accepted_within bound ns k p all is =
    let at = numbered counted_meant bound ns k p all is in
    omega (arith, at.1, counted_some at.0 p at.2)

pub defaults_within : (bound : ℕ) (ns : List ℕ) (k p : ℕ) → All (λ n. n ≤ bound) ns
    → slice_get (map default_meant ns) k ≡ Some (Some p) → (1 ≤ p) × (p ≤ bound)
defaults_within bound ns k p all is =
    let at = numbered default_meant bound ns k p all is in
    let same = default_some at.0 p at.2 in
    (omega (arith, same.0, same.1), omega (arith, at.1, same.1))

shape_short : (x : RawRule) → IsShapeWithin x → All (λ byte. byte < 256) x.name → IsShapeShort (shape_meant x)
shape_short x (inl nothing) bytes = rw nothing.0 tt
shape_short x (inr (inl pass)) bytes = rw pass.0 tt
shape_short x (inr (inr build)) bytes = rw build.0 (build.1, bytes)

shape_for : (r : RawSet) (x : RawRule) → IsRuleWithin r x → IsShapeWithin x → IsShapeFor x.body_length (shape_meant x)
shape_for r x within (inl nothing) = rw nothing.0 nothing.1
shape_for r x within (inr (inl pass)) = rw pass.0 (within.places 0 0 (omega (arith, pass.2)))
shape_for r x within (inr (inr build)) = rw build.0 (build.1.0, within.places, within.apart)

pub rule_short : (w : Width) (r : RawSet) (x : RawRule) → IsRuleWithin r x → RuleFits w x → IsRuleShort (rule_meant x)
rule_short w r x within fits = record {
  body = omega (arith, fits.body_length);
  shape = shape_short x within.shape fits.name.1;
}

pub rule_within : (r : RawSet) (x : RawRule) → IsRuleWithin r x → IsTableRuleWithin r.nonterminals (rule_meant x)
rule_within r x within = record { left = within.left; shape = shape_for r x within within.shape }

-- what the numbers of actions mean
module _ (v : Version) where
  pub error_meant : action_meant (width_of v) 0 ≡ Error
  error_meant =
      let facts = of_version v in
      let e : nat_lt 0 (least_shift (width_of v)) ≡ true
      = lt-ltb 0 (least_shift (width_of v)) (omega (arith, facts.quarter, facts.classes)) in
      let f : nat_lt 0 (least_reduction (width_of v)) ≡ true
      = lt-ltb 0 (least_reduction (width_of v)) (omega (arith, facts.classes)) in
      rw (e, f) refl

  pub accept_meant : action_meant (width_of v) 1 ≡ Accept
  accept_meant =
      let facts = of_version v in
      let e : nat_lt 1 (least_shift (width_of v)) ≡ true
      = lt-ltb 1 (least_shift (width_of v)) (omega (arith, facts.quarter, facts.classes)) in
      let f : nat_lt 1 (least_reduction (width_of v)) ≡ true
      = lt-ltb 1 (least_reduction (width_of v)) (omega (arith, facts.classes)) in
      rw (e, f) refl

  pub shift_meant : (s : ℕ) → action_meant (width_of v) (least_shift (width_of v) + s) ≡ Shift (record { 0 = s })
  shift_meant s =
      let least = least_shift (width_of v) in
      let e : nat_lt (least + s) least ≡ false = le-ltb (least + s) least (omega arith) in
      let same : least + s - least ≡ s = omega arith in
      rw e (λ i. Shift (record { 0 = same i }))

  pub reduction_meant : (p : ℕ) → p < least_reduction (width_of v)
      → action_meant (width_of v) (least_reduction (width_of v) + p) ≡ Reduce (record { 0 = p })
  reduction_meant p lt =
      let facts = of_version v in
      let least = least_reduction (width_of v) in
      let e : nat_lt (least + p) (least_shift (width_of v)) ≡ true
      = lt-ltb (least + p) (least_shift (width_of v)) (omega (arith, facts.quarter, lt)) in
      let f : nat_lt (least + p) least ≡ false = le-ltb (least + p) least (omega arith) in
      let same : least + p - least ≡ p = omega arith in
      rw (e, f) (λ i. Reduce (record { 0 = same i }))

  -- the number of an action that may stand somewhere is that of what it means
  pub action_back : (r : RawSet) (column n : ℕ) → length r.rules ≤ (counts_of v).rules
      → IsActionWithin (width_of v) r column n
      → action_number (width_of v) (action_from (action_meant (width_of v) n)) ≡ n
  action_back r column n few within = elim within [
    | inl error ↦ from 0 error error_meant refl
    | inr (inl accept) ↦ from 1 accept.0 accept_meant refl
    | inr (inr (inl (s, is, lt, one))) ↦ from (least_shift (width_of v) + s) is (shift_meant s) refl
    | inr (inr (inr (p, is, one, le))) ↦ from (least_reduction (width_of v) + p) is
        (reduction_meant p (let facts = of_version v in omega (arith, facts.rules, few, le))) refl
  ]
    where
      from : (m : ℕ) {a : code.TableAction} → n ≡ m → action_meant (width_of v) m ≡ a
          → action_number (width_of v) (action_from a) ≡ m
          → action_number (width_of v) (action_from (action_meant (width_of v) n)) ≡ n
      from m is meant number =
          ap (λ k. action_number (width_of v) (action_from (action_meant (width_of v) k))) is
          ∙ ap (λ (a : code.TableAction). action_number (width_of v) (action_from a)) meant ∙ number ∙ sym is
