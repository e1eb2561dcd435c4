-- Numbers that are within their ranges are those of what they mean.
use Rattle.std.proofs.Common.{◌≡◌, ◌≢◌, ◌≤◌, inl, inr, ℕ, zero, suc, List, [], ◌∷◌, length, map}
use Rattle.std.proofs.Common.{refl, sym, arith, All, slice_index, nat_eq, true, false}
use Rattle.std.specs.Int.{Width}
use Rattle.std.proofs.lemmas.Bool.{cases_eq, eq-eqb, ne_eqb}
use Rattle.std.proofs.lemmas.List.Elements.{All-head, All-tail}
use Rattle.ly_tables.specs.Private.Meaning.{counted_meant, cut_meant, default_meant, emitted_meant, number_meant}
use Rattle.ly_tables.specs.Private.Meaning.{rule_meant, scan_rule_meant, shape_meant, starts_meant}
use Rattle.ly_tables.specs.RawOf.{cut_kind, cut_length, from_one, kind_of, number_or_none, number_or_zero}
use Rattle.ly_tables.specs.RawOf.{raw_rule_of, raw_scan_rule_of, raw_starts_of, shape_kind, shape_name, shape_places}
use Rattle.ly_tables.specs.RawOf.{terminal_of}
use Rattle.ly_tables.specs.RawSections.{IsRuleWithin, IsScanRuleWithin, IsShapeWithin}
use Rattle.ly_tables.specs.RawSet.{RawRule, RawScanRule, RawSet, RawStarts}
use Rattle.ly_tables.specs.Spelling.{none_of}

-- a list that is mapped there and back
pub map_back : {A B C : Type 0} (f : A → B) (g : B → C) (h : A → C) (xs : List A) → All (λ x. g (f x) ≡ h x) xs
    → map g (map f xs) ≡ map h xs
map_back f g h [] all = refl
map_back f g h (x ∷ xs) all =
    let first : g (f x) ≡ h x = All-head (λ x. g (f x) ≡ h x) x xs all in
    let rest : map g (map f xs) ≡ map h xs
    = map_back f g h xs (All-tail (λ x. g (f x) ≡ h x) x xs all) in
    cc

emitted_back : (k t : ℕ) → k ≤ 2 → (k ≢ 1 → t ≡ 0)
    → (kind_of (emitted_meant k t) ≡ k) × (terminal_of (emitted_meant k t) ≡ t)
emitted_back zero t le bare = (refl, sym (bare (λ e. omega (arith, e))))
emitted_back (suc zero) t le bare = (refl, refl)
emitted_back (suc (suc zero)) t le bare = (refl, sym (bare (λ e. omega (arith, e))))
emitted_back (suc (suc (suc k))) t le bare = absurd (omega (arith, le))

cut_back : (k n : ℕ) → k ≤ 2 → (k ≡ 0 → n ≡ 0) → (cut_kind (cut_meant k n) ≡ k) × (cut_length (cut_meant k n) ≡ n)
cut_back zero n le whole = (refl, sym (whole refl))
cut_back (suc zero) n le whole = (refl, refl)
cut_back (suc (suc zero)) n le whole = (refl, refl)
cut_back (suc (suc (suc k))) n le whole = absurd (omega (arith, le))

number_back : (w : Width) (n : ℕ) → number_or_none w (number_meant w n) ≡ n
number_back w n = elim (cases_eq n (none_of w)) [
  | inl same ↦ let e : nat_eq n (none_of w) ≡ true = eq-eqb n (none_of w) same in rw e (sym same)
  | inr other ↦ let e : nat_eq n (none_of w) ≡ false = ne_eqb n (none_of w) other in rw e refl
]

pub counted_back : (n : ℕ) → from_one (counted_meant n) ≡ n
counted_back zero = refl
counted_back (suc n) = let e : nat_eq (suc n) 0 ≡ false = ne_eqb (suc n) 0 (λ h. omega (arith, h)) in
    rw e (omega arith)

pub default_back : (n : ℕ) → number_or_zero (default_meant n) ≡ n
default_back zero = refl
default_back (suc n) = let e : nat_eq (suc n) 0 ≡ false = ne_eqb (suc n) 0 (λ h. omega (arith, h)) in rw e refl

pub starts_back : (w : Width) (c : RawStarts) → raw_starts_of w (starts_meant w c) ≡ c
starts_back w c = λ i. record { elsewhere = number_back w c.elsewhere i; at_line = number_back w c.at_line i }

pub scan_rule_back : (w : Width) (r : RawSet) (x : RawScanRule) → IsScanRuleWithin w r x
    → raw_scan_rule_of w (scan_rule_meant w x) ≡ x
scan_rule_back w r x within =
    let emits = emitted_back x.kind x.terminal within.kind within.no_terminal in
    let cut = cut_back x.cut x.len within.cut within.whole in
    λ i. record {
      kind = emits.0 i;
      terminal = emits.1 i;
      begin = number_back w x.begin i;
      cut = cut.0 i;
      len = cut.1 i;
    }

one_place : (places : List ℕ) → length places ≡ 1 → slice_index places 0 ∷ [] ≡ places
one_place [] one = absurd (omega (arith, one))
one_place (i ∷ []) one = refl
one_place (i ∷ j ∷ places) one = absurd (omega (arith, one))

shape_back : (x : RawRule) → IsShapeWithin x → (shape_kind (shape_meant x) ≡ x.kind)
    × (shape_name (shape_meant x) ≡ x.name) × (shape_places (shape_meant x) ≡ x.places)
shape_back x (inl none) = rw none.0 (refl, sym none.2, sym none.3)
shape_back x (inr (inl pass)) = rw pass.0 (refl, sym pass.1, one_place x.places pass.2)
shape_back x (inr (inr build)) = rw build.0 (refl, refl, refl)

pub rule_back : (r : RawSet) (x : RawRule) → IsRuleWithin r x → raw_rule_of (rule_meant x) ≡ x
rule_back r x within =
    let shape = shape_back x within.shape in
    λ i. record {
      left = x.left;
      body_length = x.body_length;
      kind = shape.0 i;
      name = shape.1 i;
      places = shape.2 i;
    }
