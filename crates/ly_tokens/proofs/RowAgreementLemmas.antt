-- The walk over rows agrees with the rules that the automaton tells.
use Rattle.std.proofs.Common.{◌≡◌, ◌≤◌, ◌∙◌, ℕ, List, Bool, Option, Some, None, true, false, refl, sym, ap, subst}
use Rattle.std.proofs.Common.{[], ◌∷◌, arith, inl, inr, ◌*◌}
use Rattle.std.specs.Prelude.{nat_lt, if◌then◌else◌, option_map, unwrap_or}
use Rattle.std.proofs.lemmas.Bool.{cases_lt}
use Rattle.std.proofs.lemmas.Bool.Decides.{nat_tests}
use Rattle.ly_base.specs.declared.cut.Cut.TheVariants.{Whole}
use Rattle.ly_ere.specs.Expression.{Expression}
use Rattle.ly_ere.specs.Names.{defined}
use Rattle.ly_ere.specs.declared.pattern.Rule.{Rule}
use Rattle.ly_ere.specs.Winner.{AreCut, IsString}
use Rattle.ly_lexread.specs.LexText.{LexText}
use Rattle.ly_lexread.specs.declared.file.LexFile.{LexFile}
use Rattle.ly_lexread.proofs.FileLemmas.{rules_of, rules_cut}
use Rattle.ly_minim.specs.Smallest.{HaveSameRules}
use Rattle.ly_position.specs.Nfa.{Nfa}
use Rattle.ly_position.specs.Patterns.{ArePositions, RunsFrom}
use Rattle.ly_scan.specs.StateWalk as states
use Rattle.ly_scan.specs.StateWalk.{says}
use Rattle.ly_subset.specs.Automaton.{Automaton, entry_at, next_of, rule_after, rule_of, start_of, start_place}
use Rattle.ly_subset.specs.Automaton.{state_after}
use Rattle.ly_subset.specs.Subsets.{AreSubsets, IsLeastRule}
use Rattle.ly_subset.proofs.LawLemmas.{walks}
use Rattle.ly_subset.proofs.RuleLemmas.{least_same}
use Rattle.ly_tokens.specs.Agreement.{Agrees, HaveBytes}
use Rattle.ly_tokens.specs.RowWalk.{cut_in, row_walk, rows_of}

-- after each string the automaton has the least rule that the string belongs to
abbrev pub TellsRules : List Expression → List Rule → Automaton → Type 0
TellsRules names rules A = (c : ℕ) (line : Bool) (w : List ℕ)
    → IsLeastRule (λ i. IsString names rules c line i w) (rule_after A (start_of A c line) w)

-- the states after a string are those of the automaton
same_states : (A : Automaton) (s : Option ℕ) (w : List ℕ)
    → states.state_after (rows_of A) s w ≡ state_after A s w
same_states A s [] = refl
same_states A None (b ∷ w) = same_states A None w
same_states A (Some s) (b ∷ w) = same_states A (next_of A (Some s) b) w

-- what the walk says is what the automaton's state says
pub row_walk-says : (A : Automaton) (c : ℕ) (line : Bool) (w : List ℕ)
    → row_walk A c line w ≡ says (rows_of A) (state_after A (start_of A c line) w)
row_walk-says A c line w = ap (says (rows_of A)) (same_states A (start_of A c line) w)

-- a walk has a rule where its state has one
pub rule_said : (A : Automaton) (s : Option ℕ) (i : ℕ) → says (rows_of A) s ≡ Some (Some i) → rule_of A s ≡ Some i
rule_said A None i e = absurd cc
rule_said A (Some s) i e = cc

pub said_rule : (A : Automaton) (s : Option ℕ) (i : ℕ) → rule_of A s ≡ Some i → says (rows_of A) s ≡ Some (Some i)
said_rule A None i e = absurd cc
said_rule A (Some s) i e = ap (λ o. Some o) e

is_rule : (P : ℕ → Type 0) (o : Option ℕ) (i : ℕ) → IsLeastRule P o → o ≡ Some i → P i
is_rule P None i least e = absurd cc
is_rule P (Some j) i least e = let same : j ≡ i = cc in subst P same least.0

is_least : (P : ℕ → Type 0) (o : Option ℕ) (i j : ℕ) → IsLeastRule P o → o ≡ Some i → P j → i ≤ j
is_least P None i j least e h = absurd cc
is_least P (Some k) i j least e h = let same : k ≡ i = cc in subst (λ n. n ≤ j) same (least.1 j h)

is_some : (P : ℕ → Type 0) (o : Option ℕ) (j : ℕ) → IsLeastRule P o → P j → (i : ℕ) × (o ≡ Some i)
is_some P None j least h = absurd (least j h)
is_some P (Some i) j least h = (i, refl)

-- an automaton that tells the rules makes a walk that agrees with them
rows_agree : (names : List Expression) (rules : List Rule) (A : Automaton) → TellsRules names rules A
    → AreCut names rules → HaveBytes names rules
    → Agrees names rules (record { walk = row_walk A; cut = cut_in rules })
rows_agree names rules A tells cuts bytes = record {
  belongs = λ c line w i e. is_rule (λ k. IsString names rules c line k w) (rule_after A (start_of A c line) w) i
      (tells c line w)
      (rule_said A (state_after A (start_of A c line) w) i (sym (row_walk-says A c line w) ∙ e));
  least = λ c line w i j e s. is_least (λ k. IsString names rules c line k w) (rule_after A (start_of A c line) w) i j
      (tells c line w)
      (rule_said A (state_after A (start_of A c line) w) i (sym (row_walk-says A c line w) ∙ e)) s;
  found = λ c line w j s.
      let some = is_some (λ k. IsString names rules c line k w) (rule_after A (start_of A c line) w) j
      (tells c line w) s
      in (some.0, row_walk-says A c line w ∙ said_rule A (state_after A (start_of A c line) w) some.0 some.1);
  same_cut = λ i r e. ap (λ o. unwrap_or (option_map (λ (rule : Rule). rule.pattern.cut) o) Whole) e;
  true_cuts = cuts;
  with_bytes = bytes;
}

-- a head that a tail follows has a byte
have_bytes : (bytes : List ℕ) (file : LexFile) → LexText bytes file
    → HaveBytes (defined file.names) file.rules.items
have_bytes bytes file text i r e = (rules_of bytes file text i r e).some_head

-- a condition that isn't one of the automaton's has no start
no_start : (A : Automaton) (c : ℕ) (line : Bool) (conditions : ℕ) → A.starts ≡ 2 * conditions → conditions ≤ c
    → start_of A c line ≡ None
no_start A c line conditions two more =
    let past : (nat_lt (start_place c line) A.starts ≡ true) → ⊥ = λ e. outside line e in
    stays (nat_lt (start_place c line) A.starts) past
  where
    outside : (line : Bool) → nat_lt (start_place c line) A.starts ≡ true → ⊥
    outside true e = grind (arith, nat_tests, two, more, e)
    outside false e = grind (arith, nat_tests, two, more, e)

    stays : (t : Bool) → (t ≡ true → ⊥) → (if t then entry_at A.entries (start_place c line) else None) ≡ None
    stays true h = absurd (h refl)
    stays false h = refl

no_rule_from_none : (A : Automaton) (w : List ℕ) → rule_after A None w ≡ None
no_rule_from_none A [] = refl
no_rule_from_none A (b ∷ w) = no_rule_from_none A w

module _ (bytes : List ℕ) (file : LexFile) (text : LexText bytes file) (nfa : Nfa) (A : Automaton)
    (are : ArePositions (defined file.names) file.rules.items file.conditions nfa)
    (so : AreSubsets nfa file.conditions A) where
  subsets_tell : TellsRules (defined file.names) file.rules.items A
  subsets_tell c line w = elim (cases_lt c file.conditions) [
    | inl less ↦ least_same (λ i. RunsFrom nfa c line i w)
        (λ i. IsString (defined file.names) file.rules.items c line i w) (rule_after A (start_of A c line) w)
        (λ i. (are.spells c line i w less).0) (λ i. (are.spells c line i w less).1)
        (walks nfa file.conditions A c line w so less)
    | inr more ↦
        let none : rule_after A (start_of A c line) w ≡ None
        = ap (λ s. rule_after A s w) (no_start A c line file.conditions so.two_starts more) ∙ no_rule_from_none A w in
        subst (λ o. IsLeastRule (λ i. IsString (defined file.names) file.rules.items c line i w) o) (sym none)
        (λ i s. let active = (rules_of bytes file text i s.rule s.is_active.is_rule).active c s.is_active.in_condition
        in omega (arith, active, more))
  ]

  -- so does an automaton that has the same rules
  pub same_rules_agree : (B : Automaton) → HaveSameRules A B
      → Agrees (defined file.names) file.rules.items (record { walk = row_walk B; cut = cut_in file.rules.items })
  same_rules_agree B same = rows_agree (defined file.names) file.rules.items B
      (λ c line w. subst (λ o. IsLeastRule (λ i. IsString (defined file.names) file.rules.items c line i w) o)
      (same c line w) (subsets_tell c line w))
      (rules_cut bytes file text) (have_bytes bytes file text)
