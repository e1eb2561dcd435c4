-- What matches, by the states of an automaton.
use Rattle.std.proofs.Common.{◌≡◌, ◌∙◌, ◌↔◌, ℕ, ◌+◌, ◌*◌, ◌<◌, List, [], ◌∷◌, ◌++◌, Bool, true, false, Option}
use Rattle.std.proofs.Common.{None, Some, slice_index_or}
use Rattle.std.proofs.Common.{refl, sym, ap, subst, length, slice_get}
use Rattle.std.specs.Prelude.{if◌then◌else◌, option_and_then, nat_lt, IfSome}
use Rattle.ly_subset.specs.Automaton.{Automaton, IsAutomaton, IsBreadthFirst, entry_at, next_by_class, next_of}
use Rattle.ly_subset.specs.Automaton.{rule_after, rule_of, start_of, start_place, state_after}
use Rattle.ly_subset.proofs.LawLemmas.{reached, state-append}
use Rattle.ly_counterexamples.specs.Doubts.{IsMatched, NeverMatches}
use Rattle.ly_counterexamples.specs.Private.Marks.{AreAdded, AreMarked, ByStepBefore}
use Rattle.ly_counterexamples.specs.Private.Matched.{LeadsAtOnce}
use Rattle.ly_counterexamples.proofs.MarkLemmas.{all_added, marked_as}

-- THE STATES OF A WALK ARE STATES

-- the state, if there is one, is one of the automaton's
abbrev pub IsWithin : Automaton → Option ℕ → Type 0
IsWithin A o = IfSome o (λ s. s < length A.rules)

entry_state : (A : Automaton) → IsAutomaton A → (k : ℕ) (o : Option ℕ) → entry_at A.entries k ≡ o → IsWithin A o
entry_state A is k None e = tt
entry_state A is k (Some s) e = is.within k s e

pub start_within : (A : Automaton) → IsAutomaton A → (c : ℕ) (line : Bool) → IsWithin A (start_of A c line)
start_within A is c line = by (nat_lt (start_place c line) A.starts) where
  by : (t : Bool) → IsWithin A (if t then entry_at A.entries (start_place c line) else None)
  by true = entry_state A is (start_place c line) (entry_at A.entries (start_place c line)) refl
  by false = tt

pub next_within : (A : Automaton) → IsAutomaton A → (o : Option ℕ) (b : ℕ) → IsWithin A (next_of A o b)
next_within A is None b = tt
next_within A is (Some s) b = by (slice_get A.class_of b) where
  by : (o : Option ℕ) → IsWithin A (option_and_then (next_by_class A s) o)
  by None = tt
  by (Some c) = entry_state A is (A.starts + (s * A.classes + c)) (next_by_class A s c) refl

-- ONE BYTE LEADS TO A RULE

-- a byte leads where its class does
pub next_by : (A : Automaton) (s b c : ℕ) → slice_get A.class_of b ≡ Some c
    → next_of A (Some s) b ≡ next_by_class A s c
next_by A s b c e = ap (option_and_then (next_by_class A s)) e

-- from which state the last byte leads to the rule
last_byte : (A : Automaton) → IsAutomaton A → (i : ℕ) (o : Option ℕ) → IsWithin A o → (b : ℕ) (w : List ℕ)
    → rule_after A o (b ∷ w) ≡ Some i → (s : ℕ) × (s < length A.rules) × LeadsAtOnce A s i
last_byte A is i o within b (a ∷ w) e = last_byte A is i (next_of A o b) (next_within A is o b) a w e
last_byte A is i None within b [] e = absurd cc
last_byte A is i (Some s) within b [] e = by (slice_get A.class_of b) refl where
  by : (o : Option ℕ) → slice_get A.class_of b ≡ o → (s : ℕ) × (s < length A.rules) × LeadsAtOnce A s i
  by None off = absurd (
      let no : None ≡ Some i = sym (ap (λ x. rule_of A (option_and_then (next_by_class A s) x)) off) ∙ e in cc)
  by (Some c) at = (s, within, (c, is.class_within b c at, ap (rule_of A) (sym (next_by A s b c at)) ∙ e))

-- a string and one byte more
one_more : (A : Automaton) (i : ℕ) (o : Option ℕ) (w : List ℕ) (b : ℕ) → rule_after A o (w ++ b ∷ []) ≡ Some i
    → (a : ℕ) × (v : List ℕ) × (rule_after A o (a ∷ v) ≡ Some i)
one_more A i o [] b e = (b, [], e)
one_more A i o (a ∷ w) b e = (a, w ++ b ∷ [], e)

pub matched_at_once : (A : Automaton) → IsAutomaton A → IsBreadthFirst A → (i : ℕ)
    → ((s : ℕ) × (s < length A.rules) × LeadsAtOnce A s i) ↔ IsMatched A i
matched_at_once A is order i = (
  to,
  λ (c, line, b, w, e).
      last_byte A is i (start_of A c line) (start_within A is c line) b w e,
)
  where
    to : ((s : ℕ) × (s < length A.rules) × LeadsAtOnce A s i) → IsMatched A i
    to (s, lt, (c, within, e)) =
        let r = reached A is order s lt in
        let b = is.used c within in
        let there : state_after A (start_of A r.0 r.1) (r.2 ++ b.0 ∷ []) ≡ next_by_class A s c
        = state-append A (start_of A r.0 r.1) r.2 (b.0 ∷ []) ∙ ap (λ o. next_of A o b.0) r.3 ∙ next_by A s b.0 c b.1 in
        let more = one_more A i (start_of A r.0 r.1) r.2 b.0 (ap (rule_of A) there ∙ e) in
        (r.0, r.1, more.0, more.1, more.2)

-- the rules that are marked once all states were gone over match
pub all_matched : (A : Automaton) → IsAutomaton A → IsBreadthFirst A → (rules n : ℕ) → n ≡ length A.rules
    → (none marks : List Bool) → AreMarked rules (λ i. ⊥) none → AreAdded (ByStepBefore (LeadsAtOnce A) n) none marks
    → AreMarked rules (IsMatched A) marks
all_matched A is order rules n all none marks empty added
    = marked_as (ByStepBefore (LeadsAtOnce A) n) (IsMatched A) rules marks (λ i lt. (
      λ by. (matched_at_once A is order i).0 (by.0, subst (λ k. by.0 < k) all by.1, by.2),
      λ m. let by = (matched_at_once A is order i).1 m in (by.0, subst (λ k. by.0 < k) (sym all) by.1, by.2),
    )) (all_added (ByStepBefore (LeadsAtOnce A) n) rules none marks empty added)

-- a rule of which it isn't so that it never matches
pub matched_other : (A : Automaton) (rules : ℕ) (marks : List Bool) → AreMarked rules (IsMatched A) marks → (i : ℕ)
    → i < rules → (NeverMatches A rules i → ⊥) → IsMatched A i
matched_other A rules marks are i lt off = by (slice_index_or marks i false) refl where
  by : (b : Bool) → slice_index_or marks i false ≡ b → IsMatched A i
  by true e = ((are.exact i).0 e).1
  by false e = absurd (off (lt, λ is. let on = (are.exact i).1 (lt, is) in cc))
