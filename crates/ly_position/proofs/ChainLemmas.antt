-- What may come after the positions of a chain.
use Rattle.std.proofs.Common.{◌≡◌, ◌⊎◌, inl, inr, ℕ, ◌+◌, ◌-◌, List, Some, length}
use Rattle.std.proofs.Common.{sym, subst, ◌∙◌, arith, refl, ap}
use Rattle.std.specs.Prelude.{Contains, slice_get, ◌↔◌}
use Rattle.std.proofs.lemmas.Option.{get_or_from_slice_get, slice_get_within}
use Rattle.ly_position.specs.Nfa.{Nfa, BeginsChain, Follows, GoesOnChain, follow_of}
use Rattle.ly_position.specs.Position.{nfa_of, position_in}
use Rattle.ly_position.specs.Private.Chain.{BeginsAt, GoesOnAt, IsBefore, next_of}
use Rattle.ly_position.specs.Private.Targets.{IsSide, ForksTo, here, onward}
use Rattle.ly_position.specs.Target.{GoOnWithin, TargetWithin}
use Rattle.ly_position.specs.declared.nfa.Fork.{Fork}
use Rattle.ly_position.specs.declared.nfa.Slot.{Slot}
use Rattle.ly_position.specs.declared.nfa.Slot.TheVariants as slot
use Rattle.ly_position.specs.declared.nfa.Target.{Target}
use Rattle.ly_position.specs.declared.nfa.Target.TheVariants as target
use Rattle.ly_position.proofs.ReachLemmas.{reached_from-members}
use Rattle.ly_position.proofs.StepLemmas.{forks_to-within, position_at}

-- forks lead nowhere from a position
from_position : (forks : List Fork) (p : ℕ) (u : Target) → ForksTo forks (target.Position p) u → u ≡ target.Position p
from_position forks p u here = refl
from_position forks p u (onward {k = k} r e i) = absurd (let same = from_position forks p (target.Fork k) r in cc)

-- what a side leads to, its fork does
from_side : (forks : List Fork) (k : ℕ) (f : Fork) (s u : Target) → slice_get forks k ≡ Some f → IsSide f s
    → ForksTo forks s u → ForksTo forks (target.Fork k) u
from_side forks k f s u at side here = onward here at side
from_side forks k f s u at side (onward {k = j} r e i) = onward (from_side forks k f s (target.Fork j) at side r) e i

-- and nothing else
from_fork : (forks : List Fork) (k : ℕ) (f : Fork) (u : Target) → slice_get forks k ≡ Some f
    → ForksTo forks (target.Fork k) u
    → (u ≡ target.Fork k) ⊎ (ForksTo forks f.first u ⊎ ForksTo forks f.second u)
from_fork forks k f u at here = inl refl
from_fork forks k f u at (onward {k = j} {f = g} r e i) = inr (step (from_fork forks k f (target.Fork j) at r))
  where
    side : g ≡ f → IsSide g u → ForksTo forks f.first u ⊎ ForksTo forks f.second u
    side same (inl is) = inl (subst (λ t. ForksTo forks t u) (sym is ∙ ap (λ (h : Fork). h.first) same) here)
    side same (inr is) = inr (subst (λ t. ForksTo forks t u) (sym is ∙ ap (λ (h : Fork). h.second) same) here)

    step : (target.Fork j ≡ target.Fork k) ⊎ (ForksTo forks f.first (target.Fork j)
        ⊎ ForksTo forks f.second (target.Fork j)) → ForksTo forks f.first u ⊎ ForksTo forks f.second u
    step (inl same) = let number : j ≡ k = cc in
        let one : Some g ≡ Some f = sym e ∙ ap (slice_get forks) number ∙ at in
        side (let is : g ≡ f = cc in is) i
    step (inr (inl first)) = inl (onward first e i)
    step (inr (inr second)) = inr (onward second e i)

module _ (slots : List Slot) (forks : List Fork) (starts : List (List ℕ)) (within : GoOnWithin slots forks) where
  abbrev nfa : Nfa
  nfa = nfa_of slots forks starts

  fork_within : (k : ℕ) (f : Fork) → slice_get forks k ≡ Some f
      → TargetWithin (length slots) (length forks) f.first × TargetWithin (length slots) (length forks) f.second
  fork_within k f e =
      let same = get_or_from_slice_get forks k f f e in
      rw same at (within.forks_within k f (slice_get_within forks k f e))

  -- what may come after a slot is what forks lead to from where it goes on
  in_slot : (p q : ℕ) (s : Slot) (t : Target) → slice_get slots p ≡ Some s → next_of s ≡ Some t
      → Contains (follow_of (position_in (length slots) forks s)) q ↔ ForksTo forks t (target.Position q)
  in_slot p q (slot.Ends r) t at e = absurd cc
  in_slot p q (slot.Reads bytes next) t at e =
      let same : next ≡ t = cc in
      let all : TargetWithin (length slots) (length forks) next =
      rw (get_or_from_slice_get slots p (slot.Reads bytes next) (slot.Reads bytes next) at) at
      (within.reads p (slot.Reads bytes next) (slice_get_within slots p (slot.Reads bytes next) at)) in
      subst (λ z. Contains (follow_of (position_in (length slots) forks (slot.Reads bytes next))) q
      ↔ ForksTo forks z (target.Position q)) same (
        λ h. ((reached_from-members (length slots) forks next q).0 h).1,
        λ run. (reached_from-members (length slots) forks next q).1
            (forks_to-within forks (length slots) (length forks) next (target.Position q) fork_within all run, run),
      )

  follows_slot : (p q : ℕ) (s : Slot) (t : Target) → slice_get slots p ≡ Some s → next_of s ≡ Some t
      → Follows nfa p q ↔ ForksTo forks t (target.Position q)
  follows_slot p q s t at e = subst (λ z. Contains (follow_of z) q ↔ ForksTo forks t (target.Position q))
      (sym (position_at slots forks starts p s at)) (in_slot p q s t at e)

  -- forks lead from the position before one to that position alone
  at_before : (t : Target) (number q : ℕ) → IsBefore t number
      → ForksTo forks t (target.Position q) ↔ (q + 1 ≡ number)
  at_before t number q (p, is, next) = subst (λ z. ForksTo forks z (target.Position q) ↔ (q + 1 ≡ number)) (sym is) (
    λ run. let same = from_position forks p (target.Position q) run in let one : q ≡ p = cc in omega (arith, one, next),
    λ e. let one : q ≡ p = omega (arith, e, next) in
        subst (λ z. ForksTo forks (target.Position p) (target.Position z)) (sym one) here,
  )

  pub begins : (number : ℕ) → BeginsAt slots number → BeginsChain nfa number
  begins number so q =
      let run = follows_slot number q so.slot so.next so.there so.goes_on in
      let at = at_before so.next number q so.before in
      (λ h. at.0 (run.0 h), λ h. run.1 (at.1 h))

  pub goes_on : (number : ℕ) → GoesOnAt slots forks number → GoesOnChain nfa number
  goes_on number so q = (
    λ h. there (from_fork forks so.fork_number so.fork (target.Position q) so.fork_there (run.0 h)),
    back,
  )
    where
      run : Follows nfa number q ↔ ForksTo forks (target.Fork so.fork_number) (target.Position q)
      run = follows_slot number q so.slot (target.Fork so.fork_number) so.there so.goes_on

      below : ForksTo forks so.fork.second (target.Position q) ↔ Follows nfa (number - 1) q
      below = let last : so.lower ≡ number - 1 = omega (arith, so.below) in
          let h = follows_slot so.lower q so.lower_slot so.fork.second so.lower_there so.second in
          subst (λ n. ForksTo forks so.fork.second (target.Position q) ↔ Follows nfa n q) last (h.1, h.0)

      there : (target.Position q ≡ target.Fork so.fork_number) ⊎ (ForksTo forks so.fork.first (target.Position q)
          ⊎ ForksTo forks so.fork.second (target.Position q)) → (q + 1 ≡ number) ⊎ Follows nfa (number - 1) q
      there (inl off) = absurd cc
      there (inr (inl first)) = inl ((at_before so.fork.first number q so.first).0 first)
      there (inr (inr second)) = inr (below.0 second)

      back : (q + 1 ≡ number) ⊎ Follows nfa (number - 1) q → Follows nfa number q
      back (inl e) = run.1 (from_side forks so.fork_number so.fork so.fork.first (target.Position q) so.fork_there
          (inl refl) ((at_before so.fork.first number q so.first).1 e))
      back (inr h) = run.1 (from_side forks so.fork_number so.fork so.fork.second (target.Position q) so.fork_there
          (inr refl) (below.1 h))
