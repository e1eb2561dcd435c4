-- Which bytes stand first in matches of rules that return their first byte.
use Rattle.std.proofs.Common.{◌≡◌, ◌∙◌, ◌⊎◌, ◌↔◌, inl, inr, ℕ, ◌+◌, ◌*◌, ◌<◌, ◌≤◌, List, [], ◌∷◌, ◌++◌, Bool}
use Rattle.std.proofs.Common.{false, true}
use Rattle.std.proofs.Common.{Option, Some, None, refl, sym, ap, subst, arith, length, slice_get, Contains}
use Rattle.std.proofs.Common.{replicate, lt-ltb}
use Rattle.std.specs.Prelude.{if◌then◌else◌, nat_lt, option_and_then}
use Rattle.std.specs.FinSet as set
use Rattle.std.specs.FinSet.{contains-empty}
use Rattle.std.specs.Ordering.{nat_cmp}
use Rattle.std.proofs.lemmas.Bool.{cases_eq, cases_lt}
use Rattle.std.proofs.lemmas.Bool.Decides.{nat_tests}
use Rattle.std.proofs.lemmas.List.{get_or-set_other, get_or-set_same, get_or_past, length-replicate, length-set}
use Rattle.std.proofs.lemmas.List.Elements.{Contains-append_left, Contains-push, Contains-push_cases}
use Rattle.std.proofs.lemmas.Option.{slice_get_within}
use Rattle.ly_base.proofs.MemberLemmas.{Contains-none}
use Rattle.ly_base.specs.declared.scan_action.ScanAction.{ScanAction}
use Rattle.ly_digraph.specs.Digraph.{Digraph, IsEdge, Reaches, along, here}
use Rattle.ly_digraph.specs.Least.{IsBetween, IsLeast}
use Rattle.ly_sets.specs.NumberSet.{Member, NumberSet}
use Rattle.ly_sets.specs.SetMatrix.{Matrix, row, with_row}
use Rattle.ly_sets.proofs.MatrixLemmas.{row-empty}
use Rattle.ly_sets.proofs.NumberSetLemmas.{contains-insert_nat}
use Rattle.ly_subset.specs.Automaton.{Automaton, IsAutomaton, entry_at, next_by_class, next_of, rule_after, rule_of}
use Rattle.ly_subset.specs.Automaton.{start_of, start_place}
use Rattle.ly_subset.proofs.SubsetLemmas.{place_of}
use Rattle.ly_counterexamples.specs.Private.FirstBytes.{AreEdgesAdded, AreFirstBefore, AreMoves, BeginsAt, BeginsFirst}
use Rattle.ly_counterexamples.specs.Private.FirstBytes.{BeginsMarked}
use Rattle.ly_counterexamples.specs.Private.FirstBytes.{BeginsWith, ByEdgeStepBefore, HasFirst, HasZero}
use Rattle.ly_counterexamples.specs.Private.FirstBytes.{IsRowWithZero, LeadsToFirst, Moves}
use Rattle.ly_counterexamples.specs.Private.FirstBytes.{MovesByClass}
use Rattle.ly_counterexamples.specs.Private.FirstBytes.{StandsFirst}
use Rattle.ly_counterexamples.specs.Private.Marks.{AreAdded, AreMarked, ByStepBefore}
use Rattle.ly_counterexamples.proofs.MarkLemmas.{added_as, all_added, marked_as}
use Rattle.ly_counterexamples.proofs.MatchedLemmas.{IsWithin, next_by, next_within}

-- EDGES THAT STEPS ADD, ONE AFTER ANOTHER

pub no_edges : (P : ℕ → ℕ → ℕ → Type 0) (g : Digraph) → AreEdgesAdded (ByEdgeStepBefore P 0) g g
no_edges P g = record {
  nodes = refl;
  exact = λ i j. (
    λ is. inl is,
    λ either. elim either [ inl was ↦ was | inr by ↦ absurd (let k = by.1 in omega (arith, k)) ],
  );
}

pub edges_added : (P : ℕ → ℕ → ℕ → Type 0) (n : ℕ) (first old new : Digraph)
    → AreEdgesAdded (ByEdgeStepBefore P n) first old → AreEdgesAdded (P n) old new
    → AreEdgesAdded (ByEdgeStepBefore P (n + 1)) first new
edges_added P n first old new before added = record {
  nodes = added.nodes ∙ before.nodes;
  exact = λ i j. (to i j, back i j);
}
  where
    to : (i j : ℕ) → IsEdge new i j → IsEdge first i j ⊎ ByEdgeStepBefore P (n + 1) i j
    to i j is = elim ((added.exact i j).0 is) [
      | inl was ↦ elim ((before.exact i j).0 was) [
        | inl first ↦ inl first
        | inr by ↦ inr (by.0, (let lt = by.1 in omega (arith, lt)), by.2)
      ]
      | inr by ↦ inr (n, omega arith, by)
    ]

    last : (i j k : ℕ) → P k i j → (k < n) ⊎ (k ≡ n) → IsEdge new i j
    last i j k by (inl lt) = (added.exact i j).1 (inl ((before.exact i j).1 (inr (k, lt, by))))
    last i j k by (inr same) = (added.exact i j).1 (inr (subst (λ m. P m i j) same by))

    back : (i j : ℕ) → IsEdge first i j ⊎ ByEdgeStepBefore P (n + 1) i j → IsEdge new i j
    back i j (inl was) = (added.exact i j).1 (inl ((before.exact i j).1 (inl was)))
    back i j (inr (k, lt, by)) = last i j k by (elim (cases_lt k n) [
      | inl less ↦ inl less
      | inr past ↦ inr (omega (arith, lt, past))
    ])

pub no_edge_added : (P : ℕ → ℕ → Type 0) (g : Digraph) → ((i j : ℕ) → P i j → ⊥) → AreEdgesAdded P g g
no_edge_added P g none = record {
  nodes = refl;
  exact = λ i j. (
    λ is. inl is,
    λ either. elim either [ inl was ↦ was | inr by ↦ absurd (none i j by) ],
  );
}

pub edge_added : (P : ℕ → ℕ → Type 0) (old new : Digraph) (k m : ℕ)
    → new ≡ record old { edges = old.edges ++ (k, m) ∷ [] }
    → ((i j : ℕ) → P i j ↔ ((i ≡ k) × (j ≡ m))) → AreEdgesAdded P old new
edge_added P old new k m e one = record {
  nodes = ap (λ g. g.nodes) e;
  exact = λ i j. (
    λ is. elim (Contains-push_cases old.edges (k, m) (i, j) (subst (λ es. Contains es (i, j)) edges is)) [
      | inl was ↦ inl was
      | inr same ↦ inr ((one i j).1 (sym (ap (λ p. p.0) same), sym (ap (λ p. p.1) same)))
    ],
    λ either. subst (λ es. Contains es (i, j)) (sym edges) (elim either [
      | inl was ↦ Contains-append_left old.edges ((k, m) ∷ []) (i, j) was
      | inr by ↦ let same = (one i j).0 by in
          subst (λ p. Contains (old.edges ++ (k, m) ∷ []) p) (pair i j same.0 same.1)
          (Contains-push old.edges (k, m))
    ]),
  );
}
  where
    edges : new.edges ≡ old.edges ++ (k, m) ∷ []
    edges = ap (λ g. g.edges) e

    pair : (i j : ℕ) → i ≡ k → j ≡ m → let x : ℕ × ℕ = (k, m) in let y : ℕ × ℕ = (i, j) in x ≡ y
    pair i j a b = ap (λ x. (x, m)) (sym a) ∙ ap (λ y. (i, y)) (sym b)

-- a state's classes have been gone over
pub same_moves : (A : Automaton) (s n : ℕ) (old new : Digraph) → n ≡ A.classes
    → AreEdgesAdded (ByEdgeStepBefore (MovesByClass A s) n) old new → AreEdgesAdded (Moves A s) old new
same_moves A s n old new all added
    = subst (λ k. AreEdgesAdded (ByEdgeStepBefore (MovesByClass A s) k) old new) all added

-- all states have been gone over
pub all_moves : (A : Automaton) (n : ℕ) (none g : Digraph) → n ≡ length A.rules
    → none ≡ record { nodes = length A.rules; edges = [] } → AreEdgesAdded (ByEdgeStepBefore (Moves A) n) none g
    → AreMoves A g
all_moves A n none g all empty added = record {
  nodes = added.nodes ∙ ap (λ x. x.nodes) empty;
  exact = λ i j. (
    λ is. elim ((added.exact i j).0 is) [
      | inl was ↦ Contains-none (i, j) (subst (λ es. Contains es (i, j)) (ap (λ x. x.edges) empty) was)
      | inr by ↦ (by.0, subst (λ m. by.0 < m) all by.1, by.2)
    ],
    λ by. (added.exact i j).1 (inr (by.0, subst (λ m. by.0 < m) (sym all) by.1, by.2)),
  );
}

-- THE ROWS OF STATES WHOSE RULES RETURN THEIR FIRST BYTE

pub no_first_rows : (actions : List ScanAction) (A : Automaton) (m : Matrix) (n : ℕ) → n ≡ length A.rules
    → m ≡ record { width = 1; sets = replicate n set.empty; changes = 0 } → AreFirstBefore actions A 0 m
no_first_rows actions A m n all empty = record {
  width = ap (λ x. x.width) empty;
  rows = ap (λ x. length x.sets) empty ∙ length-replicate n set.empty ∙ all;
  exact = λ s. (
    λ is. absurd (let no : false ≡ true = sym (ap (λ x. set.contains (row x.sets s) 0) empty
        ∙ ap (λ x. set.contains x 0) (row-empty n s) ∙ contains-empty nat_cmp 0) ∙ is in cc),
    λ both. absurd (let lt = both.0 in omega (arith, lt)),
  );
}

-- a state's row
pub first_row_more : (actions : List ScanAction) (A : Automaton) (n : ℕ) (old new : Matrix) → n < length A.rules
    → AreFirstBefore actions A n old → HasFirst actions (rule_of A (Some n))
    → new ≡ with_row old n (set.insert (row old.sets n) 0) → AreFirstBefore actions A (n + 1) new
first_row_more actions A n old new lt before has e = record {
  width = ap (λ x. x.width) e ∙ before.width;
  rows = ap (λ x. length x.sets) e ∙ length-set old.sets n changed ∙ before.rows;
  exact = λ s. by s (cases_eq s n);
}
  where
    changed : NumberSet
    changed = set.insert (row old.sets n) 0

    here : Member (row new.sets n) 0
    here = ap (λ x. set.contains (row x.sets n) 0) e
        ∙ ap (λ x. set.contains x 0)
        (get_or-set_same old.sets n changed set.empty (subst (λ m. n < m) (sym before.rows) lt))
        ∙ contains-insert_nat (row old.sets n) 0 0

    other : (s : ℕ) → (s ≡ n → ⊥) → row new.sets s ≡ row old.sets s
    other s off = ap (λ x. row x.sets s) e ∙ get_or-set_other old.sets n s changed set.empty off

    by : (s : ℕ) → (s ≡ n) ⊎ (s ≡ n → ⊥)
        → Member (row new.sets s) 0 ↔ ((s < n + 1) × HasFirst actions (rule_of A (Some s)))
    by s (inl same) = (
      λ is. (omega (arith, same), subst (λ k. HasFirst actions (rule_of A (Some k))) (sym same) has),
      λ both. subst (λ k. Member (row new.sets k) 0) (sym same) here,
    )
    by s (inr off) = (
      λ is.
          let both = (before.exact s).0 (ap (λ x. set.contains x 0) (sym (other s off)) ∙ is) in
          let less = both.0 in
          (omega (arith, less), both.1),
      λ both.
          let less = both.0 in
          ap (λ x. set.contains x 0) (other s off) ∙ (before.exact s).1 (omega (arith, less, off), both.1),
    )

pub first_row_same : (actions : List ScanAction) (A : Automaton) (n : ℕ) (m : Matrix) → AreFirstBefore actions A n m
    → (HasFirst actions (rule_of A (Some n)) → ⊥) → AreFirstBefore actions A (n + 1) m
first_row_same actions A n m before off = record {
  width = before.width;
  rows = before.rows;
  exact = λ s. (
    λ is. let both = (before.exact s).0 is in let less = both.0 in (omega (arith, less), both.1),
    λ both. (before.exact s).1 (below_it s both.0 both.1, both.1),
  );
}
  where
    below_it : (s : ℕ) → s < n + 1 → HasFirst actions (rule_of A (Some s)) → s < n
    below_it s lt has = elim (cases_lt s n) [
      | inl less ↦ less
      | inr past ↦ absurd (let same : s ≡ n = omega (arith, lt, past) in
          off (subst (λ k. HasFirst actions (rule_of A (Some k))) same has))
    ]

-- a walk that has ended comes to no rule
no_first : (A : Automaton) (actions : List ScanAction) (w : List ℕ) → HasFirst actions (rule_after A None w) → ⊥
no_first A actions [] (i, e, r) = cc
no_first A actions (b ∷ w) has = no_first A actions w has

-- FROM WHICH STATES A STRING LEADS TO A RULE THAT RETURNS ITS FIRST BYTE

module _ (A : Automaton) (is : IsAutomaton A) (actions : List ScanAction) (g : Digraph) (moves : AreMoves A g)
    (given : Matrix) (first : AreFirstBefore actions A (length A.rules) given) (sets : List NumberSet)
    (least : IsLeast g given.sets sets) (between : IsBetween g given.sets sets) where
  -- a way along the graph is a string
  leads_along : (i j : ℕ) → Reaches g i j → HasFirst actions (rule_of A (Some j)) → LeadsToFirst actions A i
  leads_along i j (here k) has = ([], has)
  leads_along i j (along k n m edge rest) has =
      let move = (moves.exact k n).0 edge in
      let class = move.2 in
      let step : next_by_class A k class.0 ≡ Some n = subst (λ s. next_by_class A s class.0 ≡ Some n) (sym class.2.0)
      class.2.1 in
      let b = is.used class.0 class.1 in
      let more = leads_along n m rest has in (
        b.0 ∷ more.0,
        subst (λ o. HasFirst actions (rule_after A o more.0)) (sym (next_by A k b.0 class.0 b.1 ∙ step))
            more.1,
      )

  -- a state is within
  rule_within : (s : ℕ) → HasFirst actions (rule_of A (Some s)) → s < length A.rules
  rule_within s (i, e, r) = elim (cases_lt s (length A.rules)) [
    | inl lt ↦ lt
    | inr past ↦ absurd (let no : None ≡ Some i = sym (past_rules past) ∙ e in cc)
  ]
    where
      past_rules : length A.rules ≤ s → rule_of A (Some s) ≡ None
      past_rules past = get_or_past A.rules s None past

  -- the class of a byte that leads from a state to another
  class_step : (s b t : ℕ) → next_of A (Some s) b ≡ Some t → (c : ℕ) × (c < A.classes) × (next_by_class A s c ≡ Some t)
  class_step s b t e = by (slice_get A.class_of b) refl where
    by : (o : Option ℕ) → slice_get A.class_of b ≡ o → (c : ℕ) × (c < A.classes) × (next_by_class A s c ≡ Some t)
    by None at = absurd (let no : None ≡ Some t = sym (ap (option_and_then (next_by_class A s)) at) ∙ e in cc)
    by (Some c) at = (c, is.class_within b c at, sym (next_by A s b c at) ∙ e)

  member_before : (s b t : ℕ) → s < length A.rules → next_of A (Some s) b ≡ Some t
      → (t < length A.rules → Member (row sets t) 0) → Member (row sets s) 0
  member_before s b t lt e behind =
      let class = class_step s b t e in
      let within : t < length A.rules = is.within (A.starts + (s * A.classes + class.0)) t class.2 in
      least.grows.grows s t 0 ((moves.exact s t).1 (s, lt, (class.0, class.1, (refl, class.2)))) (behind within)

  led_member : (w : List ℕ) (s : ℕ) → s < length A.rules → HasFirst actions (rule_after A (Some s) w)
      → Member (row sets s) 0
  led_member [] s lt has = least.holds.holds s 0 ((first.exact s).1 (lt, has))
  led_member (b ∷ w) s lt has = by_next (λ t behind. led_member w t behind) (next_of A (Some s) b) refl where
    by_next : ((t : ℕ) → t < length A.rules → HasFirst actions (rule_after A (Some t) w) → Member (row sets t) 0)
        → (o : Option ℕ) → next_of A (Some s) b ≡ o → Member (row sets s) 0
    by_next more None e = absurd (no_first A actions w (subst (λ x. HasFirst actions (rule_after A x w)) e has))
    by_next more (Some t) e = member_before s b t lt e
        (λ within. more t within (subst (λ x. HasFirst actions (rule_after A x w)) e has))

  pub led_exact : (s : ℕ) → s < length A.rules → Member (row sets s) 0 ↔ LeadsToFirst actions A s
  led_exact s lt = (
    λ member.
        let way = between.reached s 0 member in
        leads_along s way.0 way.1 ((first.exact way.0).0 way.2).1,
    λ (w, has). led_member w s lt has,
  )

-- those that are marked
pub leading_marked : (A : Automaton) → IsAutomaton A → (actions : List ScanAction) (g : Digraph) → AreMoves A g
    → (given : Matrix) → AreFirstBefore actions A (length A.rules) given → (sets : List NumberSet)
    → IsLeast g given.sets sets → IsBetween g given.sets sets → (n : ℕ) → n ≡ length A.rules → (marks : List Bool)
    → AreMarked n (HasZero sets) marks → AreMarked (length A.rules) (LeadsToFirst actions A) marks
leading_marked A is actions g moves given first sets least between n all marks marked =
    let exact = led_exact A is actions g moves given first sets least between in
    subst (λ k. AreMarked k (LeadsToFirst actions A) marks) all
    (marked_as (HasZero sets) (LeadsToFirst actions A) n marks (λ s lt. exact s (subst (λ m. s < m) all lt)) marked)

-- the rows that steps mark
pub zeros_marked : (sets : List NumberSet) (n rows : ℕ) → rows ≤ n → (none marks : List Bool)
    → AreMarked rows (λ s. ⊥) none → AreAdded (ByStepBefore (IsRowWithZero sets) n) none marks
    → AreMarked rows (HasZero sets) marks
zeros_marked sets n rows past none marks empty added = marked_as (ByStepBefore (IsRowWithZero sets) n) (HasZero sets)
    rows marks (λ s lt. (
      λ (k, less, (same, has)). subst (HasZero sets) (sym same) has,
      λ has. (s, omega (arith, lt, past), (refl, has)),
    )) (all_added (ByStepBefore (IsRowWithZero sets) n) rows none marks empty added)

-- WHICH BYTES

-- a byte is below 256
byte_below : (A : Automaton) → IsAutomaton A → (s b : ℕ) (o : Option ℕ) → slice_get A.class_of b ≡ o → (t : ℕ)
    → next_of A (Some s) b ≡ Some t → b < 256
byte_below A is s b None at t e = absurd (let no : None ≡ Some t = sym (ap (option_and_then (next_by_class A s)) at) ∙ e
    in cc)
byte_below A is s b (Some c) at t e = subst (λ n. b < n) is.bytes (slice_get_within A.class_of b c at)

pub bytes_marked : (A : Automaton) → IsAutomaton A → (leading : List Bool) (s n : ℕ) → 256 ≤ n → (old new : List Bool)
    → AreAdded (ByStepBefore (BeginsWith leading A s) n) old new → AreAdded (BeginsMarked leading A s) old new
bytes_marked A is leading s n past old new added = added_as (ByStepBefore (BeginsWith leading A s) n)
    (BeginsMarked leading A s) old new (λ b. (
      λ (k, lt, (same, begins)). subst (BeginsMarked leading A s) (sym same) begins,
      λ begins.
          let below = byte_below A is s b (slice_get A.class_of b) refl begins.0 begins.1 in
          (b, omega (arith, below, past), (refl, begins)),
    )) added

-- THE STARTS

-- a walk over one byte more
first_step : (A : Automaton) (actions : List ScanAction) (s b : ℕ) (w : List ℕ)
    → HasFirst actions (rule_after A (Some s) (b ∷ w)) → BeginsFirst actions A s b
first_step A actions s b w has = by (next_of A (Some s) b) refl where
  by : (o : Option ℕ) → next_of A (Some s) b ≡ o → BeginsFirst actions A s b
  by None e = absurd (no_first A actions w (subst (λ x. HasFirst actions (rule_after A x w)) e has))
  by (Some t) e = (t, e, (w, subst (λ x. HasFirst actions (rule_after A x w)) e has))

start_at : (A : Automaton) (c : ℕ) (line : Bool) → start_place c line < A.starts
    → start_of A c line ≡ entry_at A.entries (start_place c line)
start_at A c line lt = ap (λ t. if t then entry_at A.entries (start_place c line) else None)
    (lt-ltb (start_place c line) A.starts lt)

no_start : (A : Automaton) (c : ℕ) (line : Bool) → A.starts ≤ start_place c line → start_of A c line ≡ None
no_start A c line past = ap (λ t. if t then entry_at A.entries (start_place c line) else None) (test past) where
  test : A.starts ≤ start_place c line → nat_lt (start_place c line) A.starts ≡ false
  test past = grind (arith, nat_tests)

-- what begins a string that leads to a rule is a byte
pub stands_below : (A : Automaton) → IsAutomaton A → (actions : List ScanAction) (b : ℕ) → StandsFirst actions A b
    → b < 256
stands_below A is actions b (c, line, w, has) = by (start_of A c line) refl where
  by : (o : Option ℕ) → start_of A c line ≡ o → b < 256
  by None e = absurd (no_first A actions (b ∷ w) (subst (λ x. HasFirst actions (rule_after A x (b ∷ w))) e has))
  by (Some s) e =
      let begins = first_step A actions s b w (subst (λ x. HasFirst actions (rule_after A x (b ∷ w))) e has) in
      byte_below A is s b (slice_get A.class_of b) refl begins.0 begins.1

pub starts_marked : (A : Automaton) (actions : List ScanAction) (n : ℕ) → n ≡ A.starts → (none marks : List Bool)
    → AreMarked 256 (λ b. ⊥) none → AreAdded (ByStepBefore (BeginsAt actions A) n) none marks
    → AreMarked 256 (StandsFirst actions A) marks
starts_marked A actions n all none marks empty added = marked_as (ByStepBefore (BeginsAt actions A) n)
    (StandsFirst actions A) 256 marks (λ b lt. (to b, back b))
    (all_added (ByStepBefore (BeginsAt actions A) n) 256 none marks empty added)
  where
    to : (b : ℕ) → ByStepBefore (BeginsAt actions A) n b → StandsFirst actions A b
    to b (k, lt, (s, at, (t, step, (w, has)))) =
        let p = place_of k in
        let start : start_of A p.0 p.1 ≡ Some s
        = start_at A p.0 p.1 (subst (λ m. start_place p.0 p.1 < m) all (subst (λ m. m < n) (sym p.2) lt))
        ∙ ap (entry_at A.entries) p.2 ∙ at in
        (p.0, p.1, w, subst (λ o. HasFirst actions (rule_after A o w)) (sym (ap (λ o. next_of A o b) start ∙ step)) has)

    back : (b : ℕ) → StandsFirst actions A b → ByStepBefore (BeginsAt actions A) n b
    back b (c, line, w, has) = by (cases_lt (start_place c line) A.starts) where
      from : (o : Option ℕ) → start_of A c line ≡ o → start_place c line < A.starts
          → ByStepBefore (BeginsAt actions A) n b
      from None e lt = absurd (no_first A actions (b ∷ w)
          (subst (λ x. HasFirst actions (rule_after A x (b ∷ w))) e has))
      from (Some s) e lt = (
        start_place c line,
        subst (λ m. start_place c line < m) (sym all) lt,
        (
          s,
          sym (start_at A c line lt) ∙ e,
          first_step A actions s b w
              (subst (λ x. HasFirst actions (rule_after A x (b ∷ w))) e has),
        ),
      )

      by : (start_place c line < A.starts) ⊎ (A.starts ≤ start_place c line) → ByStepBefore (BeginsAt actions A) n b
      by (inl lt) = from (start_of A c line) refl lt
      by (inr past) = absurd (no_first A actions (b ∷ w)
          (subst (λ x. HasFirst actions (rule_after A x (b ∷ w))) (no_start A c line past) has))

-- the bytes that begin at an entry are those of its state
pub begins_at : (A : Automaton) → IsAutomaton A → (actions : List ScanAction) (leading : List Bool)
    → AreMarked (length A.rules) (LeadsToFirst actions A) leading → (k s : ℕ) → entry_at A.entries k ≡ Some s → (b : ℕ)
    → BeginsMarked leading A s b ↔ BeginsAt actions A k b
begins_at A is actions leading marked k s at b = (
  λ (t, e, on). (s, at, (t, e, ((marked.exact t).0 on).1)),
  λ (o, there, (t, e, leads)).
      let same : o ≡ s = cc in
      let lt : t < length A.rules = subst (IsWithin A) e (next_within A is (Some o) b) in
      (t, ap (λ x. next_of A (Some x) b) (sym same) ∙ e, (marked.exact t).1 (lt, leads)),
)

pub begins_nowhere : (A : Automaton) (actions : List ScanAction) (k : ℕ) → entry_at A.entries k ≡ None → (b : ℕ)
    → BeginsAt actions A k b → ⊥
begins_nowhere A actions k at b (s, e, begins) = cc
