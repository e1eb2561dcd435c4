-- The order of sections.
use Rattle.std.proofs.Common.{◌≡◌, ◌∙◌, ◌<◌, ℕ, suc, nat_eq, if◌then◌else◌, true, false, refl}
use Rattle.std.proofs.Common.{inl, inr, arith, sym, ap, subst}
use Rattle.ly_base.specs.declared.version.Version.{Version}
use Rattle.std.proofs.lemmas.Bool.{cases_eq, false≢true}
use Rattle.ly_tables.specs.Private.SectionOrder.{AreWithinBefore, IsFirstNumber}
use Rattle.ly_tables.specs.Ranges.{counts_of, width_of}
use Rattle.ly_tables.specs.RawSections.{IsSectionWithin, Section, section_number}
use Rattle.ly_tables.specs.RawSections.{symbol_section, literal_section, scan_rule_section, condition_section}
use Rattle.ly_tables.specs.RawSections.{class_section, scan_state_section}
use Rattle.ly_tables.specs.RawSections.{scan_row_section, rule_section, state_section, action_section, goto_section}
use Rattle.ly_tables.specs.RawSet.{RawSet}

-- the section of a number
abbrev section_at : ℕ → Section
section_at n = if nat_eq n 2 then symbol_section else if nat_eq n 3 then literal_section else
    if nat_eq n 4 then scan_rule_section else if nat_eq n 5 then condition_section else
    if nat_eq n 6 then class_section else if nat_eq n 7 then scan_state_section else
    if nat_eq n 8 then scan_row_section else if nat_eq n 9 then rule_section else
    if nat_eq n 10 then state_section else if nat_eq n 11 then action_section else goto_section

section_back : (s : Section) → section_at (section_number s) ≡ s
section_back symbol_section = refl
section_back literal_section = refl
section_back scan_rule_section = refl
section_back condition_section = refl
section_back class_section = refl
section_back scan_state_section = refl
section_back scan_row_section = refl
section_back rule_section = refl
section_back state_section = refl
section_back action_section = refl
section_back goto_section = refl

from_two : (s : Section) → section_number s < 2 → ⊥
from_two symbol_section lt = absurd (omega (arith, lt))
from_two literal_section lt = absurd (omega (arith, lt))
from_two scan_rule_section lt = absurd (omega (arith, lt))
from_two condition_section lt = absurd (omega (arith, lt))
from_two class_section lt = absurd (omega (arith, lt))
from_two scan_state_section lt = absurd (omega (arith, lt))
from_two scan_row_section lt = absurd (omega (arith, lt))
from_two rule_section lt = absurd (omega (arith, lt))
from_two state_section lt = absurd (omega (arith, lt))
from_two action_section lt = absurd (omega (arith, lt))
from_two goto_section lt = absurd (omega (arith, lt))

to_twelve : (s : Section) → section_number s < 13
to_twelve symbol_section = omega arith
to_twelve literal_section = omega arith
to_twelve scan_rule_section = omega arith
to_twelve condition_section = omega arith
to_twelve class_section = omega arith
to_twelve scan_state_section = omega arith
to_twelve scan_row_section = omega arith
to_twelve rule_section = omega arith
to_twelve state_section = omega arith
to_twelve action_section = omega arith
to_twelve goto_section = omega arith

module _ (v : Version) (r : RawSet) where
  pub none_before : AreWithinBefore v r 2
  none_before = λ s lt. absurd (from_two s lt)

  pub one_more : (s : Section) → IsSectionWithin (width_of v) (counts_of v) r s → AreWithinBefore v r (section_number s)
      → AreWithinBefore v r (suc (section_number s))
  one_more s within before = λ other lt. elim (cases_eq (section_number other) (section_number s)) [
    | inl same ↦ subst (λ t. IsSectionWithin (width_of v) (counts_of v) r t)
        (sym (section_back s) ∙ ap section_at (sym same) ∙ section_back other) within
    | inr apart ↦ before other (omega (arith, lt, apart))
  ]

  pub all_within : AreWithinBefore v r 13 → (s : Section) → IsSectionWithin (width_of v) (counts_of v) r s
  all_within before = λ s. before s (to_twelve s)

  pub first_number : (s : Section) → AreWithinBefore v r (section_number s)
      → (IsSectionWithin (width_of v) (counts_of v) r s → false ≡ true) → IsFirstNumber v r (section_number s)
  first_number s before out = (s, refl, record { out = λ within. false≢true (out within); first = before })
