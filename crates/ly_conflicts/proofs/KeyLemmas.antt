-- Keys that pass the test are one.
use Rattle.std.proofs.Common.{◌≡◌, ◌∙◌, ◌++◌, [], ◌∷◌, ℕ, Bool, true, false, List, Option, Some, None}
use Rattle.std.proofs.Common.{ap, get_or, inl, inr, is_some, position, refl, sym}
use Rattle.std.specs.Prelude.{◌&&◌, Contains, MatchOption, if◌then◌else◌, nat_eq, slice_get}
use Rattle.std.specs.List.{list_any}
use Rattle.std.specs.Option.{option_eq}
use Rattle.std.proofs.Math.Bool.{beq}
use Rattle.std.proofs.lemmas.Bool.{and_parts, cases_Bool, eq-eqb, eqb-true}
use Rattle.std.proofs.lemmas.List.Folds.{list_any_at}
use Rattle.std.proofs.lemmas.List.Quantifiers.{position-Some}
use Rattle.std.proofs.lemmas.Map.Views.{Contains-from_any}
use Rattle.std.proofs.lemmas.Option.{slice_get-get_or}
use Rattle.std.proofs.Common.{subst}
use Rattle.ly_conflicts.specs.declared.common.ExampleKind.{ExampleKind}
use Rattle.ly_conflicts.specs.declared.common.ExampleKind.TheVariants.{At, Merged, Unknown}
use Rattle.ly_conflicts.specs.declared.common.Choice.{Choice}
use Rattle.ly_conflicts.specs.declared.common.Choice.TheVariants.{Shift, Reduction, Refusal}
use Rattle.ly_conflicts.specs.declared.common.Common.{Common}
use Rattle.ly_conflicts.specs.declared.common.Key.{Key}
use Rattle.ly_conflicts.specs.contracts.common.ExampleKindPartialEq.TheImpl as answers
use Rattle.ly_conflicts.specs.contracts.common.ChoicePartialEq.TheImpl as choices
use Rattle.ly_conflicts.specs.contracts.common.CommonPartialEq.TheImpl as commons
use Rattle.ly_conflicts.specs.contracts.common.KeyPartialEq.TheImpl as keys

abbrev same_flag : Bool → Bool → Bool
same_flag = beq

abbrev same_answer : ExampleKind → ExampleKind → Bool
same_answer a b = (answers.eq-value).it a b

abbrev same_choice : Choice → Choice → Bool
same_choice a b = (choices.eq-value).it a b

abbrev same_common : Common → Common → Bool
same_common a b = (commons.eq-value).it a b

abbrev pub same_key : Key → Key → Bool
same_key a b = (keys.eq-value).it a b

flag_same : (a b : Bool) → same_flag a b ≡ true → a ≡ b
flag_same true true e = refl
flag_same false false e = refl
flag_same true false e = absurd (cc)
flag_same false true e = absurd (cc)

flag_self : (a : Bool) → same_flag a a ≡ true
flag_self true = refl
flag_self false = refl

answer_same : (a b : ExampleKind) → same_answer a b ≡ true → a ≡ b
answer_same At At e = refl
answer_same Merged Merged e = refl
answer_same Unknown Unknown e = refl
answer_same At Merged e = absurd (cc)
answer_same At Unknown e = absurd (cc)
answer_same Merged At e = absurd (cc)
answer_same Merged Unknown e = absurd (cc)
answer_same Unknown At e = absurd (cc)
answer_same Unknown Merged e = absurd (cc)

answer_self : (a : ExampleKind) → same_answer a a ≡ true
answer_self At = refl
answer_self Merged = refl
answer_self Unknown = refl

maybe_same : (a b : Option ExampleKind) → option_eq same_answer a b ≡ true → a ≡ b
maybe_same None None e = refl
maybe_same (Some a) (Some b) e = ap Some (answer_same a b e)
maybe_same None (Some b) e = absurd (cc)
maybe_same (Some a) None e = absurd (cc)

maybe_self : (a : Option ExampleKind) → option_eq same_answer a a ≡ true
maybe_self None = refl
maybe_self (Some a) = answer_self a

choice_same : (a b : Choice) → same_choice a b ≡ true → a ≡ b
choice_same Shift Shift e = refl
choice_same (Reduction p) (Reduction q) e = ap Reduction (eqb-true p q e)
choice_same Refusal Refusal e = refl
choice_same Shift (Reduction q) e = absurd (cc)
choice_same Shift Refusal e = absurd (cc)
choice_same (Reduction p) Shift e = absurd (cc)
choice_same (Reduction p) Refusal e = absurd (cc)
choice_same Refusal Shift e = absurd (cc)
choice_same Refusal (Reduction q) e = absurd (cc)

choice_self : (a : Choice) → same_choice a a ≡ true
choice_self Shift = refl
choice_self (Reduction p) = eq-eqb p p refl
choice_self Refusal = refl

common_same : (a b : Common) → same_common a b ≡ true → a ≡ b
common_same a b e =
    let p = and_parts (nat_eq a.state b.state)
    (nat_eq a.rule b.rule && (same_choice a.choice b.choice && same_flag a.is_shift b.is_shift)) e in
    let q = and_parts (nat_eq a.rule b.rule) (same_choice a.choice b.choice && same_flag a.is_shift b.is_shift) p.1 in
    let r = and_parts (same_choice a.choice b.choice) (same_flag a.is_shift b.is_shift) q.1 in
    ap (λ n. record a { state = n }) (eqb-true a.state b.state p.0)
    ∙ ap (λ n. record a { state = b.state; rule = n }) (eqb-true a.rule b.rule q.0)
    ∙ ap (λ c. record b { choice = c; is_shift = a.is_shift }) (choice_same a.choice b.choice r.0)
    ∙ ap (λ f. record b { is_shift = f }) (flag_same a.is_shift b.is_shift r.1)

common_self : (a : Common) → same_common a a ≡ true
common_self a = rw (
  eq-eqb a.state a.state refl,
  eq-eqb a.rule a.rule refl,
  choice_self a.choice,
  flag_self a.is_shift,
) refl

pub key_same : (a b : Key) → same_key a b ≡ true → a ≡ b
key_same a b e =
    let p = and_parts (same_common a.common b.common) (option_eq same_answer a.answer b.answer) e in
    ap (λ c. record a { common = c }) (common_same a.common b.common p.0)
    ∙ ap (λ o. record b { answer = o }) (maybe_same a.answer b.answer p.1)

pub key_self : (a : Key) → same_key a a ≡ true
key_self a = rw (common_self a.common, maybe_self a.answer) refl

any_contains : (ks : List Key) (k : Key) → Contains ks k → list_any (same_key k) ks ≡ true
any_contains ks k is = list_any_at (same_key k) ks is.0 k is.1
    (subst (λ x. same_key k x ≡ true) (sym is.2) (key_self k))

-- what a look-up answers
pub found : (ks : List Key) (k : Key) (o : Option ℕ) → o ≡ position (same_key k) ks
    → is_some o ≡ list_any (same_key k) ks
    → MatchOption o (Contains ks k → ⊥) (λ place. slice_get ks place ≡ Some k)
found ks k None at is = λ has. (let off : false ≡ true = is ∙ any_contains ks k has in cc)
found ks k (Some n) at is =
    let h = position-Some (same_key k) ks n k (sym at) in
    slice_get-get_or ks n k h.0 ∙ ap Some (sym (key_same k (get_or ks n k) h.1))

-- a key that isn't among others goes to the end
pub pushed : (ks : List Key) (k : Key) → (Contains ks k → ⊥)
    → (if list_any (same_key k) ks then ks else ks ++ k ∷ []) ≡ ks ++ k ∷ []
pushed ks k absent = elim (cases_Bool (list_any (same_key k) ks)) [
  | inl is ↦ absurd (absent (Contains-from_any key_same k ks is))
  | inr not ↦ rw not refl
]
