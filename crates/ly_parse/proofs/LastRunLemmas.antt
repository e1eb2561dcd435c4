-- Terminals that share a run.
use Rattle.std.proofs.Common.{◌≡◌, ◌∙◌, ℕ, ◌<◌, ◌↔◌, Bool, IfSome, IsTrue, List, Option, [], ◌∷◌}
use Rattle.std.proofs.Common.{◌++◌, None, inl, inr, false, true, ap, length, refl, subst, sym}
use Rattle.std.proofs.lemmas.List.Elements.{Contains-push_cases}
use Rattle.ly_base.specs.SparseSet.{with_member}
use Rattle.ly_base.proofs.SparseSetLemmas.{with_member-new, with_member-old}
use Rattle.ly_pack.specs.Machine.{Machine, TableAction, accept, action_of, error, reduce, shift, states_of}
use Rattle.ly_pack.specs.Steady.{RunEnd, ends, goes_on, move, perform, refuses}
use Rattle.ly_base.specs.declared.numbers.Sym.{Sym}
use Rattle.ly_parse.specs.declared.last_run.LastRun.{LastRun}
use Rattle.ly_parse.specs.Expected.{IsExpected, onward, read}
use Rattle.ly_parse.specs.Private.Copied.{IsFault, top_in}
use Rattle.ly_parse.specs.Private.LastRun.{AreAlike, IsAlike, IsKnown, IsLast, IsShared, IsTold}
use Rattle.ly_parse.proofs.ExpectedRunLemmas.{accepting, behind, ended_fine, faulty, move_by}

-- each action is like itself
pub alike_itself : (a : TableAction) → IsAlike a a
alike_itself (shift s) = tt
alike_itself (reduce p) = refl
alike_itself accept = tt
alike_itself error = tt

-- and so is each terminal
pub are_alike_itself : (m : Machine) (t : ℕ) (met : List ℕ) → AreAlike m t t met
are_alike_itself m t met s has = alike_itself (action_of m s t)

-- one more state
pub one_more_alike : (m : Machine) (t u : ℕ) (met : List ℕ) (s : ℕ) (on_t on_u : TableAction) → on_t ≡ action_of m s t
    → on_u ≡ action_of m s u → AreAlike m t u met → IsAlike on_t on_u → AreAlike m t u (met ++ s ∷ [])
one_more_alike m t u met s on_t on_u by_t by_u alike is q has = elim (Contains-push_cases met s q has) [
  | inl old ↦ alike q old
  | inr new ↦ subst (λ x. IsAlike (action_of m x t) (action_of m x u)) new
      (subst (λ a. IsAlike a (action_of m s u)) by_t (subst (IsAlike on_t) by_u is))
]

like_shift : (s : ℕ) (a : TableAction) → IsAlike (shift s) a → (n : ℕ) × (shift n ≡ a)
like_shift s (shift n) is = (n, refl)
like_shift s (reduce p) is = absurd is
like_shift s accept is = absurd is
like_shift s error is = absurd is

like_reduce : (p : ℕ) (a : TableAction) → IsAlike (reduce p) a → reduce p ≡ a
like_reduce p (reduce q) is = ap reduce is
like_reduce p (shift s) is = absurd is
like_reduce p accept is = absurd is
like_reduce p error is = absurd is

like_accept : (a : TableAction) → IsAlike accept a → accept ≡ a
like_accept accept is = refl
like_accept (shift s) is = absurd is
like_accept (reduce p) is = absurd is
like_accept error is = absurd is

like_error : (a : TableAction) → IsAlike error a → error ≡ a
like_error error is = refl
like_error (shift s) is = absurd is
like_error (reduce p) is = absurd is
like_error accept is = absurd is

-- A run that has come from the whole stack to where it is now, and the state that is on top there.
module _ (m : Machine) (t : ℕ) (whole now met : List ℕ) (top : ℕ) (some : 0 < length now) (same : top ≡ top_in now)
    (back : (u : ℕ) → AreAlike m t u met → IsExpected m u now → IsExpected m u whole)
    (forth : (u : ℕ) → AreAlike m t u met → IsExpected m u whole → IsExpected m u now) where
  before_top : (u : ℕ) → AreAlike m t u (with_member met top) → AreAlike m t u met
  before_top u alike s has = alike s (with_member-old met top s has)

  on_top : (u : ℕ) (a : TableAction) → a ≡ action_of m top t → AreAlike m t u (with_member met top)
      → IsAlike a (action_of m top u)
  on_top u a is alike = subst (λ b. IsAlike b (action_of m top u)) (sym is) (alike top (with_member-new met top))

  pub shared_shift : (s : ℕ) → shift s ≡ action_of m top t → IsShared m t whole (with_member met top) true
  shared_shift s is u alike =
      let by = like_shift s (action_of m top u) (on_top u (shift s) is alike) in
      back u (before_top u alike) (read (move_by m u top now (shift by.0) some same by.1))

  pub shared_accept : accept ≡ action_of m top t → (b : Bool) → IsTrue b ↔ (1 < length now)
      → IsShared m t whole (with_member met top) b
  shared_accept is b has u alike =
      accepting m u whole now
      (move_by m u top now accept some same (like_accept (action_of m top u) (on_top u accept is alike)))
      (back u (before_top u alike)) (forth u (before_top u alike)) b has

  pub shared_error : error ≡ action_of m top t → IsShared m t whole (with_member met top) false
  shared_error is u alike x =
      ended_fine m u now refuses
      (move_by m u top now error some same (like_error (action_of m top u) (on_top u error is alike)))
      (forth u (before_top u alike) x)

  reduced : (p : ℕ) → reduce p ≡ action_of m top t → (u : ℕ) → AreAlike m t u (with_member met top)
      → move m u now ≡ perform m now (reduce p)
  reduced p is u alike =
      move_by m u top now (reduce p) some same (like_reduce p (action_of m top u) (on_top u (reduce p) is alike))

  pub shared_fault : (p : ℕ) → reduce p ≡ action_of m top t → (e : RunEnd) → perform m now (reduce p) ≡ ends e
      → IsFault e → IsShared m t whole (with_member met top) false
  shared_fault p is e made fault u alike x =
      faulty m u now e fault (reduced p is u alike ∙ made) (forth u (before_top u alike) x)

  pub back_over : (p : ℕ) (next : List ℕ) → reduce p ≡ action_of m top t → perform m now (reduce p) ≡ goes_on next
      → (u : ℕ) → AreAlike m t u (with_member met top) → IsExpected m u next → IsExpected m u whole
  back_over p next is made u alike x = back u (before_top u alike) (onward (reduced p is u alike ∙ made) x)

  pub forth_over : (p : ℕ) (next : List ℕ) → reduce p ≡ action_of m top t → perform m now (reduce p) ≡ goes_on next
      → (u : ℕ) → AreAlike m t u (with_member met top) → IsExpected m u whole → IsExpected m u next
  forth_over p next is made u alike x =
      behind m u now next (reduced p is u alike ∙ made) (forth u (before_top u alike) x)

-- what is kept of the last run tells it of a terminal that shares it
pub is_told : (m : Machine) (stack : List ℕ) (last : LastRun) (u : ℕ) (is : Bool) → IsLast m stack last
    → IsKnown m last u is → IsTold m u stack is
is_told m stack last u is kept known =
    let shared = subst (λ (o : Option Sym). IfSome o (λ t. IsShared m t.0 stack last.met.members last.is_expected))
    known.some kept.shared in
    subst (IsTold m u stack) (sym known.same) (shared u known.alike)

-- before the first run nothing is kept
pub none_last : (m : Machine) (stack : List ℕ) (last : LastRun) → last.terminal ≡ None → last.met.below ≡ states_of m
    → IsLast m stack last
none_last m stack last none room = record {
  room = room;
  terminal = subst (λ (o : Option Sym). IfSome o (λ t. t.0 < m.terminals)) (sym none) tt;
  shared = subst (λ (o : Option Sym). IfSome o (λ t. IsShared m t.0 stack last.met.members last.is_expected))
      (sym none) tt;
}
