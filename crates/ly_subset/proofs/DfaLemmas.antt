-- Automata in memory: entries lead to states.
use Rattle.std.proofs.Common.{◌≡◌, ◌<◌, ◌+◌, ◌*◌, ◌∙◌, ℕ, Option, Some, None, sym, ap, subst, arith, get_or}
use Rattle.std.proofs.Common.{length}
use Rattle.std.specs.Prelude.{IfSome}
use Rattle.std.proofs.lemmas.List.{get_or-map, get_or_read, length-map}
use Rattle.std.proofs.lemmas.Nat.{mul-add-lt}
use Rattle.std.proofs.Math.Nat.{mul_comm}
use Rattle.ly_subset.specs.Automaton.{Automaton, IsAutomaton, entry_at}
use Rattle.ly_base.specs.Entry.{target_of}
use Rattle.ly_subset.specs.Dfa.{automaton_of}
use Rattle.ly_subset.specs.declared.dfa.Dfa.TheInside.{Inside}
use Rattle.ly_base.specs.declared.entry.Entry.{Entry}

some_within : (A : Automaton) → IsAutomaton A → (k : ℕ) (o : Option ℕ) → o ≡ entry_at A.entries k
    → IfSome o (λ s. s < length A.rules)
some_within A is k None e = tt
some_within A is k (Some s) e = is.within k s (sym e)

read : (d : Inside) (k : ℕ) (e : Entry) (o : Option ℕ) → k < length d.entries.items → e ≡ get_or d.entries.items k e
    → o ≡ target_of e → o ≡ entry_at (automaton_of d).entries k
read d k e o l f g = g ∙ ap target_of (get_or_read d.entries.items k e l f e)
    ∙ sym (get_or-map target_of d.entries.items k e None l)

-- the state of an entry at a place
pub entry_state : (d : Inside) (A : Automaton) → automaton_of d ≡ A → IsAutomaton (automaton_of d) → (k : ℕ) (e : Entry)
    (o : Option ℕ) → k < length A.entries → e ≡ get_or d.entries.items k e → o ≡ target_of e
    → IfSome o (λ s. s < length A.rules)
entry_state d A view is k e o l f g
    = subst (λ (B : Automaton). IfSome o (λ s. s < length B.rules)) view
    (some_within (automaton_of d) is k o (read d k e o there f g))
  where
    there : k < length d.entries.items
    there = omega (
      arith,
      subst (λ (B : Automaton). k < length B.entries) (sym view) l,
      length-map d.entries.items target_of,
    )

-- the state that a class leads to
pub next_state : (d : Inside) (A : Automaton) → automaton_of d ≡ A → IsAutomaton (automaton_of d)
    → (s c : ℕ) (e : Entry)
    (o : Option ℕ) → s < length A.rules → c < A.classes
    → e ≡ get_or d.entries.items (d.starts + (s * d.classes + c)) e → o ≡ target_of e
    → IfSome o (λ t. t < length A.rules)
next_state d A view is s c e o l m f g = entry_state d A view is (d.starts + (s * d.classes + c)) e o
    (subst (λ (B : Automaton). d.starts + (s * d.classes + c) < length B.entries) view there) f g
  where
    there : d.starts + (s * d.classes + c) < length (automaton_of d).entries
    there = let n = length (automaton_of d).rules in
        let row = mul-add-lt s d.classes c n (subst (λ (B : Automaton). s < length B.rules) (sym view) l)
        (subst (λ (B : Automaton). c < B.classes) (sym view) m) in
        let turned : d.classes * n ≡ n * d.classes = mul_comm d.classes n in
        let full = is.full in omega (arith, row, turned)
