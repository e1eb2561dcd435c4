-- The targets of a state, as they are listed.
use Rattle.std.proofs.Common.{◌≡◌, ◌∙◌, inl, inr, ℕ, List, [], ◌∷◌, ◌++◌, Contains, Option, None, Some}
use Rattle.std.proofs.Common.{◌<◌, ap, arith, eqb-true, true, get_or, length, refl, slice_get, subst, sym}
use Rattle.std.proofs.lemmas.Option.{slice_get_read}
use Rattle.std.proofs.lemmas.List.Elements.{Contains-append_left, Contains-push, Contains-push_cases}
use Rattle.ly_base.proofs.MemberLemmas.{Contains-none}
use Rattle.ly_base.specs.contracts.numbers.StateNoPartialEq.TheImpl as partial
use Rattle.ly_base.specs.declared.numbers.StateNo.{StateNo}
use Rattle.ly_pack.specs.Machine.{Machine, TableAction, action_of, entry_at, or_default, shift, states_of}
use Rattle.ly_pack.specs.Rows.{Counted}
use Rattle.ly_pack.specs.Steady.{IsTableEdge, by_goto, by_shift}
use Rattle.ly_pack.specs.Values.{action_from}
use Rattle.ly_pack.specs.declared.action.TableAction as code
use Rattle.ly_pack.specs.declared.action.TableAction.TheVariants.{Shift, Reduce, Accept, Error}
use Rattle.ly_pack.specs.declared.cell.Cell.{Cell}
use Rattle.ly_loop.specs.Private.Edges.{AreTargets, AreTargetsOf}
use Rattle.ly_loop.specs.Private.Entries.{AreAllEntries, AreAllGotos, AreEntries, AreGotos}

pub targets_none : AreTargetsOf [] [] []
targets_none = record {
  sound = λ s has. Contains-none s has;
  shifts = λ e s has is. Contains-none e has;
  others = λ e has. Contains-none e has;
}

-- one more target
module _ (entries : List (Cell code.TableAction)) (gotos : List (Cell StateNo)) (targets : List StateNo)
    (was : AreTargetsOf entries gotos targets) where
  pub targets_shift : (e : Cell code.TableAction) (s : StateNo) → e.entry ≡ Shift s
      → AreTargetsOf (entries ++ e ∷ []) gotos (targets ++ s ∷ [])
  targets_shift e s is = record {
    sound = λ x has. elim (Contains-push_cases targets s x has) [
      | inl old ↦ elim (was.sound x old) [
        | inl from ↦ inl (from.0, Contains-append_left entries (e ∷ []) from.0 from.1, from.2)
        | inr from ↦ inr from
      ]
      | inr new ↦ inl (e, Contains-push entries e, is ∙ ap Shift new)
    ];
    shifts = λ x r has eq. elim (Contains-push_cases entries e x has) [
      | inl old ↦ Contains-append_left targets (s ∷ []) r (was.shifts x r old eq)
      | inr new ↦
          let both : Shift s ≡ Shift r = sym is ∙ (ap (λ (y : Cell code.TableAction). y.entry) new ∙ eq) in
          let same : s ≡ r = cc in
          subst (Contains (targets ++ s ∷ [])) same (Contains-push targets s)
    ];
    others = λ x has. Contains-append_left targets (s ∷ []) x.entry (was.others x has);
  }

  pub targets_other : (e : Cell code.TableAction) → ((s : StateNo) → e.entry ≡ Shift s → ⊥)
      → AreTargetsOf (entries ++ e ∷ []) gotos targets
  targets_other e other = record {
    sound = λ x has. elim (was.sound x has) [
      | inl from ↦ inl (from.0, Contains-append_left entries (e ∷ []) from.0 from.1, from.2)
      | inr from ↦ inr from
    ];
    shifts = λ x r has eq. elim (Contains-push_cases entries e x has) [
      | inl old ↦ was.shifts x r old eq
      | inr new ↦ absurd (other r (ap (λ (y : Cell code.TableAction). y.entry) new ∙ eq))
    ];
    others = was.others;
  }

  pub targets_goto : (e : Cell StateNo) → AreTargetsOf entries (gotos ++ e ∷ []) (targets ++ e.entry ∷ [])
  targets_goto e = record {
    sound = λ x has. elim (Contains-push_cases targets e.entry x has) [
      | inl old ↦ elim (was.sound x old) [
        | inl from ↦ inl from
        | inr from ↦ inr (from.0, Contains-append_left gotos (e ∷ []) from.0 from.1, from.2)
      ]
      | inr new ↦ inr (e, Contains-push gotos e, new)
    ];
    shifts = λ x r has eq. Contains-append_left targets (e.entry ∷ []) r (was.shifts x r has eq);
    others = λ x has. elim (Contains-push_cases gotos e x has) [
      | inl old ↦ Contains-append_left targets (e.entry ∷ []) x.entry (was.others x old)
      | inr new ↦ subst (λ (y : Cell StateNo). Contains (targets ++ e.entry ∷ []) y.entry) new
          (Contains-push targets e.entry)
    ];
  }

-- the same targets in another list
pub targets_same : (entries : List (Cell code.TableAction)) (gotos : List (Cell StateNo)) (old new : List StateNo)
    → ((s : StateNo) → Contains new s → Contains old s) → ((s : StateNo) → Contains old s → Contains new s)
    → AreTargetsOf entries gotos old → AreTargetsOf entries gotos new
targets_same entries gotos old new from onto was = record {
  sound = λ s has. was.sound s (from s has);
  shifts = λ e s has is. onto s (was.shifts e s has is);
  others = λ e has. onto e.entry (was.others e has);
}

-- states that pass the test are one
pub state_eq : (x y : StateNo) → partial.ghosts.eq x y ≡ true → x ≡ y
state_eq x y e = ap (λ n. record { 0 = n }) (eqb-true x.0 y.0 e)

-- what is listed first shifts to its target
pub shift_edge : (m : Machine) (below : ℕ) (entries : List (Cell code.TableAction))
    (e : Cell code.TableAction) (s : StateNo)
    → AreEntries m below entries → Contains entries e → e.entry ≡ Shift s → IsTableEdge m below s.0
shift_edge m below entries e s all h is = by_shift e.column
    (ap (λ o. or_default o (slice_get m.defaults below)) ((all.sound e h).1 ∙ ap (λ a. Some (action_from a)) is))

-- a default shifts nothing
pub shift_entry : (m : Machine) (below t top : ℕ) → action_of m below t ≡ shift top
    → entry_at m below t ≡ Some (shift top)
shift_entry m below t top e = by_entry (entry_at m below t) refl e
  where
    by_default : (d : Option (Option ℕ)) → or_default None d ≡ shift top → ⊥
    by_default None i = cc
    by_default (Some None) i = cc
    by_default (Some (Some p)) i = cc

    by_entry : (o : Option TableAction) → entry_at m below t ≡ o → or_default o (slice_get m.defaults below) ≡ shift top
        → entry_at m below t ≡ Some (shift top)
    by_entry None i e = absurd (by_default (slice_get m.defaults below) e)
    by_entry (Some a) i e = i ∙ ap Some e

shift_from : (a : code.TableAction) (top : ℕ) → action_from a ≡ shift top → (s : StateNo) × (a ≡ Shift s) × (s.0 ≡ top)
shift_from (Shift s) top e = (s, refl, cc)
shift_from (Reduce p) top e = absurd (cc)
shift_from Accept top e = absurd (cc)
shift_from Error top e = absurd (cc)

pub all_targets : (m : Machine) (below : ℕ) (entries : List (Cell code.TableAction)) (gotos : List (Cell StateNo))
    (targets : List StateNo) → AreEntries m below entries → AreGotos m below gotos
    → AreTargetsOf entries gotos targets → AreTargets m below targets
all_targets m below entries gotos targets all led are = record { sound = sound; whole = whole }
  where
    sound : (s : StateNo) → Contains targets s → IsTableEdge m below s.0
    sound s has = elim (are.sound s has) [
      | inl from ↦ shift_edge m below entries from.0 s all from.1 from.2
      | inr from ↦ by_goto from.0.column (led.sound from.0 from.1 ∙ ap (λ (x : StateNo). Some x.0) from.2)
    ]

    whole : (top : ℕ) → IsTableEdge m below top → (s : StateNo) × Contains targets s × (s.0 ≡ top)
    whole top (by_shift t is) =
        let e = all.whole t (shift top) (shift_entry m below t top is) in
        let s = shift_from e.0.entry top e.3 in
        (s.0, are.shifts e.0 s.0 e.1 s.1, s.2)
    whole top (by_goto left is) =
        let e = led.whole left top is in
        (e.0.entry, are.others e.0 e.1, e.2)

-- the targets of the rows of a state
pub targets_at : (m : Machine) (all : List (Counted code.TableAction)) (led : List (Counted StateNo)) (k : ℕ)
    (row : Counted code.TableAction) (gotos : Counted StateNo) (es : List (Cell code.TableAction))
    (gs : List (Cell StateNo)) (targets : List StateNo) → AreAllEntries m all → AreAllGotos m led → k < states_of m
    → row ≡ get_or all k row → gotos ≡ get_or led k gotos → es ≡ row.value.items → gs ≡ gotos.value.items
    → AreTargetsOf es gs targets → AreTargets m k targets
targets_at m all led k row gotos es gs targets entries goes lt at_row at_gotos is_row is_gotos are =
    all_targets m k es gs targets
    (subst (AreEntries m k) (sym is_row)
    (entries.each k row (slice_get_read all (length all) k row refl (omega (arith, entries.count)) at_row)))
    (subst (AreGotos m k) (sym is_gotos)
    (goes.each k gotos (slice_get_read led (length led) k gotos refl (omega (arith, goes.count)) at_gotos)))
    are
