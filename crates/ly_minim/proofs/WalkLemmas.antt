-- Walks over automata, and that a reduced automaton is smallest.
use Rattle.std.proofs.Common.{◌≡◌, ℕ, ◌≤◌, ◌<◌, ◌+◌, ◌*◌, List, [], ◌∷◌, ◌++◌, length, Option, Some}
use Rattle.std.proofs.Common.{None}
use Rattle.std.proofs.Common.{refl, ◌∙◌, sym, ap, inl, inr, arith, Bool, slice_get}
use Rattle.std.specs.Prelude.{option_and_then}
use Rattle.std.proofs.lemmas.Bool.{cases_eq, cases_lt}
use Rattle.std.proofs.lemmas.List.{get_or_past}
use Rattle.std.proofs.lemmas.Nat.{mul-le}
use Rattle.ly_base.proofs.PigeonholeLemmas.{pigeonhole}
use Rattle.ly_subset.specs.Automaton.{Automaton, IsAutomaton, next_by_class, rule_after, rule_of}
use Rattle.ly_subset.specs.Automaton.{start_of}
use Rattle.ly_subset.specs.Automaton.{state_after}
use Rattle.ly_subset.proofs.LawLemmas.{state-append}
use Rattle.ly_minim.specs.Smallest.{HaveSameRules, IsReducedAutomaton, Smallest}

-- an ended walk stays so
pub ended : (A : Automaton) (w : List ℕ) → rule_after A None w ≡ None
ended A [] = refl
ended A (b ∷ w) = ended A w

-- there is no rule from a number past the states
past : (A : Automaton) → IsAutomaton A → (s : ℕ) (w : List ℕ) → length A.rules ≤ s → rule_after A (Some s) w ≡ None
past A is s [] le = get_or_past A.rules s None le
past A is s (b ∷ w) le = ap (λ o. rule_after A o w) (by (slice_get A.class_of b)) ∙ ended A w
  where
    by : (o : Option ℕ) → option_and_then (next_by_class A s) o ≡ None
    by None = refl
    by (Some c) = get_or_past A.entries (A.starts + (s * A.classes + c)) None
        (let rows = mul-le (length A.rules) A.classes s A.classes le (omega arith) in let full = is.full in omega arith)

-- what leads to a rule is a state
is_state : (A : Automaton) → IsAutomaton A → (s : Option ℕ) (w : List ℕ) (r : ℕ) → rule_after A s w ≡ Some r
    → (t : ℕ) × (t < length A.rules) × (s ≡ Some t)
is_state A is None w r e = absurd (let off : None ≡ Some r = sym (ended A w) ∙ e in cc)
is_state A is (Some t) w r e = elim (cases_lt t (length A.rules)) [
  | inl lt ↦ (t, lt, refl)
  | inr le ↦ absurd (let off : None ≡ Some r = sym (past A is t w le) ∙ e in cc)
]

-- after a string from a start, two automata with the same rules have the same rules
onward : (A B : Automaton) (c : ℕ) (line : Bool) (u w : List ℕ) → HaveSameRules A B
    → rule_after A (state_after A (start_of A c line) u) w ≡ rule_after B (state_after B (start_of B c line) u) w
onward A B c line u w same = sym (ap (rule_of A) (state-append A (start_of A c line) u w)) ∙ same c line (u ++ w)
    ∙ ap (rule_of B) (state-append B (start_of B c line) u w)

-- the other automaton's state after the string that reaches a state
counterpart : (A B : Automaton) → IsReducedAutomaton A → IsAutomaton B → HaveSameRules A B → (s : ℕ)
    → s < length A.rules
    → (t : ℕ) × (t < length B.rules) × ((w : List ℕ) → rule_after A (Some s) w ≡ rule_after B (Some t) w)
counterpart A B reduced is same s lt =
    let r = reduced.trim.reached s lt in
    let l = reduced.trim.leads s lt in
    let there = state_after B (start_of B r.0 r.1) r.2 in
    let agree : (w : List ℕ) → rule_after A (Some s) w ≡ rule_after B there w
    = λ w. sym (ap (λ o. rule_after A o w) r.3) ∙ onward A B r.0 r.1 r.2 w same in
    let t = is_state B is there l.0 l.1 (sym (agree l.0) ∙ l.2) in
    (t.0, t.1, λ w. agree w ∙ ap (λ o. rule_after B o w) t.2)

pub smallest : Smallest
smallest A B reduced is same = pigeonhole (length A.rules) (length B.rules)
    (λ s t. (w : List ℕ) → rule_after A (Some s) w ≡ rule_after B (Some t) w) (counterpart A B reduced is same) one
  where
    one : (s u t : ℕ) → s < length A.rules → u < length A.rules
        → ((w : List ℕ) → rule_after A (Some s) w ≡ rule_after B (Some t) w)
        → ((w : List ℕ) → rule_after A (Some u) w ≡ rule_after B (Some t) w) → s ≡ u
    one s u t a b p q = elim (cases_eq s u) [
      | inl e ↦ e
      | inr ne ↦ let d = reduced.distinguished s u a b ne in absurd (d.1 (p d.0 ∙ sym (q d.0)))
    ]
