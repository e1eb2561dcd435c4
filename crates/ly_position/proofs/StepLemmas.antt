-- Steps over positions in memory are steps over positions.
use Rattle.std.proofs.Common.{◌≡◌, inl, inr, ℕ, ◌<◌, ◌≤◌, List, [], Option, Some, None, length}
use Rattle.std.proofs.Common.{get_or, refl, sym, ap, subst, ◌∙◌, arith}
use Rattle.std.specs.Prelude.{Contains, option_map, slice_get, ◌↔◌}
use Rattle.std.proofs.lemmas.Bool.{cases_Bool}
use Rattle.std.proofs.lemmas.List.{get_or_past, length-map}
use Rattle.std.proofs.lemmas.Option.{get_or_from_slice_get, slice_get_cases, slice_get-get_or, slice_get-map}
use Rattle.std.proofs.lemmas.Option.{slice_get_within}
use Rattle.ly_base.specs.ByteSet.{has}
use Rattle.ly_base.proofs.ByteSetLemmas.{members_contain}
use Rattle.ly_base.proofs.MemberLemmas.{Contains-none}
use Rattle.ly_position.specs.Nfa.{Nfa, Stepped, bytes_of, follow_of, position_of, reading}
use Rattle.ly_position.specs.Position.{nfa_of, position_in}
use Rattle.ly_position.specs.Private.Targets.{GoesOn, IsSide, StepsTo, ForksTo, here, target_after, onward}
use Rattle.ly_position.specs.Target.{GoOnWithin, TargetWithin}
use Rattle.ly_position.specs.declared.nfa.Fork.{Fork}
use Rattle.ly_position.specs.declared.nfa.Slot.{Slot}
use Rattle.ly_position.specs.declared.nfa.Slot.TheVariants as slot
use Rattle.ly_position.specs.declared.nfa.Target.{Target}
use Rattle.ly_position.specs.declared.nfa.Target.TheVariants as target
use Rattle.ly_position.proofs.ReachLemmas.{reached_from-members}

module _ (slots : List Slot) (byte p : ℕ) (d : Slot) (o : Option Target) (less : p < length slots)
    (is : o ≡ target_after byte (get_or slots p d)) where
  same_next : (s : Slot) → slice_get slots p ≡ Some s → target_after byte s ≡ o
  same_next s e = let at = slice_get-get_or slots p d less in let same : s ≡ get_or slots p d = cc in
      ap (target_after byte) same ∙ sym is

  pub goes_on : (t : Target) → o ≡ Some t → GoesOn slots byte p t
  goes_on t e = (get_or slots p d, slice_get-get_or slots p d less, sym is ∙ e)

  pub goes_on_once : (t : Target) → o ≡ Some t → (u : Target) → GoesOn slots byte p u → t ≡ u
  goes_on_once t e u (s, k, n) = let same = same_next s k in cc

  pub goes_nowhere : o ≡ None → (u : Target) → GoesOn slots byte p u → ⊥
  goes_nowhere e u (s, k, n) = let same = same_next s k in cc

-- what is reached is there
pub forks_to-within : (forks : List Fork) (n m : ℕ) (t u : Target)
    → ((k : ℕ) (f : Fork) → slice_get forks k ≡ Some f → TargetWithin n m f.first × TargetWithin n m f.second)
    → TargetWithin n m t → ForksTo forks t u → TargetWithin n m u
forks_to-within forks n m t u all h here = h
forks_to-within forks n m t u all h (onward {k = k} {f = f} r e i) = side i
  where
    side : IsSide f u → TargetWithin n m u
    side (inl same) = subst (TargetWithin n m) same (all k f e).0
    side (inr same) = subst (TargetWithin n m) same (all k f e).1

module _ (slots : List Slot) (forks : List Fork) (starts : List (List ℕ)) where
  abbrev nfa : Nfa
  nfa = nfa_of slots forks starts

  pub position_at : (p : ℕ) (s : Slot) → slice_get slots p ≡ Some s
      → position_of nfa p ≡ position_in (length slots) forks s
  position_at p s e = get_or_from_slice_get nfa.positions p (position_in (length slots) forks s) (reading [] [])
      (slice_get-map (position_in (length slots) forks) slots p
      ∙ ap (option_map (position_in (length slots) forks)) e)

  pub position_past : (p : ℕ) → length slots ≤ p → position_of nfa p ≡ reading [] []
  position_past p l = get_or_past nfa.positions p (reading [] [])
      (omega (arith, length-map slots (position_in (length slots) forks)))

  module _ (within : GoOnWithin slots forks) (ps : List ℕ) (byte : ℕ) (low : byte < 256) (q : ℕ) where
    fork_within : (k : ℕ) (f : Fork) → slice_get forks k ≡ Some f
        → TargetWithin (length slots) (length forks) f.first × TargetWithin (length slots) (length forks) f.second
    fork_within k f e =
        let same = get_or_from_slice_get forks k f f e in
        rw same at (within.forks_within k f (slice_get_within forks k f e))

    there_at : (p : ℕ) (s : Slot) (t : Target) → slice_get slots p ≡ Some s → target_after byte s ≡ Some t
        → ForksTo forks t (target.Position q) → Contains (bytes_of (position_in (length slots) forks s)) byte
        × Contains (follow_of (position_in (length slots) forks s)) q
    there_at p (slot.Ends r) t e n x = cc
    there_at p (slot.Reads bytes next) t e n x = elim (cases_Bool (has bytes byte)) [
      | inl held ↦
          let some : Some next ≡ Some t = rw held at n in
          let same : next ≡ t = cc in
          let all : TargetWithin (length slots) (length forks) next =
          rw (get_or_from_slice_get slots p (slot.Reads bytes next) (slot.Reads bytes next) e) at
          (within.reads p (slot.Reads bytes next) (slice_get_within slots p (slot.Reads bytes next) e)) in
          let run : ForksTo forks next (target.Position q)
          = subst (λ z. ForksTo forks z (target.Position q)) (sym same) x in (
            (members_contain bytes byte).1 (low, held),
            (reached_from-members (length slots) forks next q).1
                (forks_to-within forks (length slots) (length forks) next (target.Position q) fork_within all run, run),
          )
      | inr none ↦ let no : None ≡ Some t = rw none at n in absurd cc
    ]

    pub there : StepsTo slots forks ps byte q → Stepped nfa ps byte q
    there (p, t, c, (s, e, n), x) =
        let h = there_at p s t e n x in
        let same = sym (position_at p s e) in
        (p, c, subst (λ z. Contains (bytes_of z) byte) same h.0, subst (λ z. Contains (follow_of z) q) same h.1)

    back_at : (p : ℕ) (s : Slot) → slice_get slots p ≡ Some s
        → Contains (bytes_of (position_in (length slots) forks s)) byte
        → Contains (follow_of (position_in (length slots) forks s)) q
        → (t : Target) × GoesOn slots byte p t × ForksTo forks t (target.Position q)
    back_at p (slot.Ends r) e r_byte f = Contains-none byte r_byte
    back_at p (slot.Reads bytes next) e r_byte f =
        let held = ((members_contain bytes byte).0 r_byte).1 in
        (next, (slot.Reads bytes next, e, rw held refl), ((reached_from-members (length slots) forks next q).0 f).1)

    pub back : Stepped nfa ps byte q → StepsTo slots forks ps byte q
    back (p, c, r, f) = elim (slice_get_cases slots p).1 [
      | inl h ↦
          let same = position_at p h.0 h.2 in
          let x = back_at p h.0 h.2 (subst (λ z. Contains (bytes_of z) byte) same r)
          (subst (λ z. Contains (follow_of z) q) same f) in
          (p, x.0, c, x.1, x.2)
      | inr h ↦ Contains-none byte (subst (λ z. Contains (bytes_of z) byte) (position_past p h.0) r)
    ]

  pub stepped : GoOnWithin slots forks → (ps : List ℕ) (byte : ℕ) → byte < 256 → (q : ℕ)
      → StepsTo slots forks ps byte q ↔ Stepped nfa ps byte q
  stepped within ps byte low q = (there within ps byte low q, back within ps byte low q)
