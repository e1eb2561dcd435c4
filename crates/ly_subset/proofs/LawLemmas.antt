-- Walks over automata, and what walks over subsets come to.
use Rattle.std.proofs.Common.{◌≡◌, ◌<◌, ◌+◌, ◌-◌, ◌*◌, ◌/◌, ◌%◌, ◌∙◌, ℕ, zero, suc, List, [], ◌∷◌, ◌++◌, Option}
use Rattle.std.proofs.Common.{Some}
use Rattle.std.proofs.Common.{None, true, refl, sym, ap, subst, arith, inl, inr, length, lt-ltb, Contains}
use Rattle.std.specs.Prelude.{if◌then◌else◌, option_and_then, nat_lt}
use Rattle.std.proofs.lemmas.Bool.{cases_lt}
use Rattle.std.proofs.lemmas.Nat.{div-add-mod', div_below}
use Rattle.ly_position.specs.Nfa.{Nfa, ComesTo, ReadsByte, Follows, Stepped, IsEnd, RunsTo, starts_of}
use Rattle.ly_subset.specs.Automaton.{Automaton, IsAutomaton, IsBreadthFirst, IsReached, LeadsToRule, entry_at}
use Rattle.ly_subset.specs.Automaton.{next_by_class}
use Rattle.ly_subset.specs.Automaton.{next_of, rule_after, rule_of, start_of, start_place, state_after}
use Rattle.ly_subset.specs.Laws.{NumberedAreReached, SubsetsAreTrim, WalksAgree}
use Rattle.ly_subset.specs.Subsets.{AreSubsets, HasEnd, IsLeastRule, IsStateOf, set_at}
use Rattle.ly_subset.proofs.FoundLemmas.{state_same}
use Rattle.ly_subset.proofs.RuleLemmas.{least_same}
use Rattle.ly_subset.proofs.SubsetLemmas.{place_of, positive}

-- a walk over two strings
pub state-append : (A : Automaton) (s : Option ℕ) (u w : List ℕ)
    → state_after A s (u ++ w) ≡ state_after A (state_after A s u) w
state-append A s [] w = refl
state-append A s (b ∷ u) w = state-append A (next_of A s b) u w

module _ (A : Automaton) (is : IsAutomaton A) (order : IsBreadthFirst A) where
  reached_below : (n s : ℕ) → s < n → s < length A.rules → IsReached A s
  reached_below zero s l m = absurd (omega (arith, l))
  reached_below (suc n) s l m =
      let row = order.before_row s m in
      elim (cases_lt row.0 A.starts) [
        | inl less ↦
            let p = place_of row.0 in
            let test : nat_lt (start_place p.0 p.1) A.starts ≡ true
            = lt-ltb (start_place p.0 p.1) A.starts (subst (λ k. k < A.starts) (sym p.2) less) in (
              p.0,
              p.1,
              [],
              ap (λ t. if t then entry_at A.entries (start_place p.0 p.1) else None) test
                  ∙ ap (entry_at A.entries) p.2 ∙ row.2,
            )
        | inr past ↦
            let w = A.classes in
            let j = row.0 - A.starts in
            let small : j < s * w = omega (arith, row.1, past) in
            let some : 0 < w = positive s w j small in
            let t : j / w < s = div_below j w s some small in
            let parts : j / w * w + j % w ≡ j = div-add-mod' j w in
            let at : A.starts + (j / w * w + j % w) ≡ row.0 = omega (arith, parts, past) in
            let b = is.used (j % w) (omega (arith, some)) in
            let before = reached_below n (j / w) (omega (arith, t, l)) (omega (arith, t, m)) in (
              before.0,
              before.1,
              before.2 ++ b.0 ∷ [],
              state-append A (start_of A before.0 before.1) before.2 (b.0 ∷ [])
                  ∙ ap (λ o. next_of A o b.0) before.3
                  ∙ ap (option_and_then (next_by_class A (j / w))) b.1 ∙ ap (entry_at A.entries) at ∙ row.2,
            )
      ]

pub reached : NumberedAreReached
reached A is order s l = reached_below A is order (suc s) s (omega arith) l

-- a run comes to an end mark where it reads up to a position with the mark
run_ends : (nfa : Nfa) (i p : ℕ) (w : List ℕ) → RunsTo nfa i p w → (q : ℕ) × ComesTo nfa p w q × IsEnd nfa q i
run_ends nfa i p [] h = (p, refl, h)
run_ends nfa i p (b ∷ w) h = let rest = run_ends nfa i h.0 w h.3 in (rest.0, (h.0, h.1, h.2, rest.1), rest.2)

ends_run : (nfa : Nfa) (i p : ℕ) (w : List ℕ) (q : ℕ) → ComesTo nfa p w q → IsEnd nfa q i → RunsTo nfa i p w
ends_run nfa i p [] q e h = subst (λ x. IsEnd nfa x i) (sym e) h
ends_run nfa i p (b ∷ w) q c h = (c.0, c.1, c.2, ends_run nfa i c.0 w q c.3 h)

module _ (nfa : Nfa) (conditions : ℕ) (A : Automaton) (so : AreSubsets nfa conditions A) where
  -- what positions come to by a byte
  By : (ℕ → Type 0) → ℕ → ℕ → Type 0
  By P b r = (p : ℕ) × P p × ReadsByte nfa p b × Follows nfa p r

  After : (ℕ → Type 0) → List ℕ → ℕ → Type 0
  After P w q = (p : ℕ) × P p × ComesTo nfa p w q

  step : (P : ℕ → Type 0) (o : Option ℕ) (b : ℕ) → IsStateOf so.sets o P → IsStateOf so.sets (next_of A o b)
      (λ r. (p : ℕ) × P p × ReadsByte nfa p b × Follows nfa p r)
  step P None b h = λ r x. h x.0 x.1
  step P (Some s) b h = state_same so.sets (Stepped nfa (set_at so.sets s) b)
      (λ r. (p : ℕ) × P p × ReadsByte nfa p b × Follows nfa p r) (next_of A (Some s) b)
      (λ r. (λ x. (x.0, (h.1 x.0).0 x.1, x.2, x.3), λ x. (x.0, (h.1 x.0).1 x.1, x.2, x.3))) (so.nexts s b h.0)

  pub follow : (P : ℕ → Type 0) (o : Option ℕ) (w : List ℕ) → IsStateOf so.sets o P
      → IsStateOf so.sets (state_after A o w) (λ q. (p : ℕ) × P p × ComesTo nfa p w q)
  follow P o [] h = state_same so.sets P (λ q. (p : ℕ) × P p × (p ≡ q)) o
      (λ q. (λ x. (q, x, refl), λ x. subst P x.2 x.1)) h
  follow P o (b ∷ w) h = state_same so.sets
      (λ q. (r : ℕ) × ((p : ℕ) × P p × ReadsByte nfa p b × Follows nfa p r) × ComesTo nfa r w q)
      (λ q. (p : ℕ) × P p × ComesTo nfa p (b ∷ w) q) (state_after A (next_of A o b) w)
      (λ q. (λ x. (x.1.0, x.1.1, (x.0, x.1.2, x.1.3, x.2)), λ x. (x.2.0, (x.0, x.1, x.2.1, x.2.2), x.2.3)))
      (follow (λ r. (p : ℕ) × P p × ReadsByte nfa p b × Follows nfa p r) (next_of A o b) w (step P o b h))

  ends : (P : ℕ → Type 0) (o : Option ℕ) → IsStateOf so.sets o P
      → IsLeastRule (λ i. (q : ℕ) × P q × IsEnd nfa q i) (rule_of A o)
  ends P None h = λ i x. h x.0 x.1
  ends P (Some s) h = least_same (HasEnd nfa (set_at so.sets s)) (λ i. (q : ℕ) × P q
      × IsEnd nfa q i) (rule_of A (Some s))
      (λ i x. (x.0, (h.1 x.0).0 x.1, x.2)) (λ i x. (x.0, (h.1 x.0).1 x.1, x.2)) (so.rules s h.0)

  -- the least rule that runs from some positions over a string have
  runs : (P : ℕ → Type 0) (o : Option ℕ) (w : List ℕ) → IsStateOf so.sets o P
      → IsLeastRule (λ i. (p : ℕ) × P p × RunsTo nfa i p w) (rule_after A o w)
  runs P o w h = least_same (λ i. (q : ℕ) × ((p : ℕ) × P p × ComesTo nfa p w q) × IsEnd nfa q i)
      (λ i. (p : ℕ) × P p × RunsTo nfa i p w) (rule_after A o w)
      (λ i x. (x.1.0, x.1.1, ends_run nfa i x.1.0 w x.0 x.1.2 x.2))
      (λ i x. let end = run_ends nfa i x.0 w x.2 in (end.0, (x.0, x.1, end.1), end.2))
      (ends (λ q. (p : ℕ) × P p × ComesTo nfa p w q) (state_after A o w) (follow P o w h))

  some_rule : (P : ℕ → Type 0) (o : Option ℕ) (i : ℕ) → IsLeastRule P o → P i → (j : ℕ) × (o ≡ Some j)
  some_rule P None i least h = absurd (least i h)
  some_rule P (Some j) i least h = (j, refl)

  leads : ((p : ℕ) → p < length nfa.positions → (i : ℕ) × (w : List ℕ) × RunsTo nfa i p w) → (s : ℕ)
      → s < length A.rules → LeadsToRule A s
  leads live s l =
      let less : s < length so.sets = let count = so.count in omega arith in
      let q = so.are_sets.some s less in
      let run = live q.0 (so.are_sets.within s q.0 q.1) in
      let rule = some_rule (λ i. (p : ℕ) × Contains (set_at so.sets s) p × RunsTo nfa i p run.1)
      (rule_after A (Some s) run.1) run.0
      (runs (Contains (set_at so.sets s)) (Some s) run.1 (less, λ x. (λ h. h, λ h. h))) (q.0, q.1, run.2) in
      (run.1, rule.0, rule.1)

pub walks : WalksAgree
walks nfa conditions A c line w so l = runs nfa conditions A so (Contains (starts_of nfa c line)) (start_of A c line) w
    (so.starts c line l)

pub trim : SubsetsAreTrim
trim nfa conditions A so is live = record {
  reached = reached A is so.breadth_first;
  leads = leads nfa conditions A so live;
}
