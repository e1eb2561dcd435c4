-- The states of subsets as sets of positions of patterns.
use Rattle.std.proofs.Common.{◌≡◌, inl, inr, ℕ, suc, ◌*◌, ◌<◌, ◌≤◌, List, [], ◌∷◌, length, get_or}
use Rattle.std.proofs.Common.{Bool, true, false, Option, Some, None, refl, sym, ap, subst, ◌∙◌, arith}
use Rattle.std.specs.Prelude.{◌↔◌, Contains, nat_lt, if◌then◌else◌}
use Rattle.std.proofs.lemmas.Bool.{cases_lt, cases_Bool, ltb-true}
use Rattle.ly_ere.specs.Expression.{Expression}
use Rattle.ly_ere.specs.declared.pattern.Rule.{Rule}
use Rattle.std.proofs.lemmas.List.{get_or_past}
use Rattle.ly_base.proofs.MemberLemmas.{Contains-none}
use Rattle.ly_position.specs.Nfa.{Nfa, ComesTo, ReadsByte, bytes_of, reading, starts_of}
use Rattle.ly_position.specs.Spots.{Spot, IsNext, IsSpot, ArePositionsOf}
use Rattle.ly_base.proofs.PigeonholeLemmas.{pigeonhole}
use Rattle.ly_position.proofs.SpotLemmas.{come_next}
use Rattle.ly_subset.specs.Automaton.{Automaton, IsAutomaton, entry_at, start_of, start_place, state_after}
use Rattle.ly_subset.specs.Laws.{ClassesOfRules, MoreSetsOfRules, NoMoreSetsThanStates, SubsetsAreSpotSets}
use Rattle.ly_subset.specs.Classes.{AreReadAlike}
use Rattle.ly_subset.specs.RuleSets.{AreSpotsAlike, IsReadAt}
use Rattle.ly_subset.specs.RuleSets.{AreSpotSets, HasSpot, HaveMoreSets, HaveSameSpots, IsSpotAfter, state_of}
use Rattle.ly_subset.specs.Subsets.{AreAlike, AreSubsets, Beginning, HasMoreSets, IsAfter, IsAlive, IsStateOf}
use Rattle.ly_subset.specs.Subsets.{set_at}
use Rattle.ly_subset.proofs.LawLemmas.{follow, reached}

-- what can come next is a position of its pattern
next_spot : (names : List Expression) (rules : List Rule) (c : ℕ) (line : Bool) (w : List ℕ) (s : Spot)
    → IsNext names rules c line w s → IsSpot names rules s
next_spot names rules c line w s h = (h.0, h.1.is_rule, (h.2.0, h.2.1, h.2.2))

module _ (names : List Expression) (rules : List Rule) (conditions : ℕ) (nfa : Nfa) (spot : ℕ → Spot)
    (all : ArePositionsOf names rules conditions nfa spot) where
  -- where runs come to is there
  comes_within : (w : List ℕ) (p q : ℕ) → p < length nfa.positions → ComesTo nfa p w q → q < length nfa.positions
  comes_within [] p q l h = subst (λ x. x < length nfa.positions) h l
  comes_within (b ∷ w) p q l h = comes_within w h.0 q (all.follow_within p h.0 h.2) h.3

  after_within : (o : Beginning) (q : ℕ) → IsAfter nfa o q → q < length nfa.positions
  after_within o q h = comes_within o.text h.0 q (all.starts_within o.condition o.line h.0 h.1) h.2

  -- a position that can come next is a spot that can
  to_spot : (o : Beginning) (q : ℕ) → o.condition < conditions → IsAfter nfa o q → IsSpotAfter names rules o (spot q)
  to_spot o q l h
      = (come_next names rules conditions nfa spot all o.condition o.line o.text q l (after_within o q h)).0 h

  of_spot : (o : Beginning) (q : ℕ) → o.condition < conditions → q < length nfa.positions
      → IsSpotAfter names rules o (spot q) → IsAfter nfa o q
  of_spot o q l m h = (come_next names rules conditions nfa spot all o.condition o.line o.text q l m).1 h

  -- each spot that can come next is such a position
  some_position : (o : Beginning) (s : Spot) → o.condition < conditions → IsSpotAfter names rules o s
      → (q : ℕ) × (q < length nfa.positions) × (spot q ≡ s) × IsAfter nfa o q
  some_position o s l h =
      let q = all.each s (next_spot names rules o.condition o.line o.text s h) in
      (q.0, q.1, q.2, of_spot o q.0 l q.1 (subst (IsSpotAfter names rules o) (sym q.2) h))

  -- the same positions are the same spots
  pub alike_same : (o u : Beginning) → o.condition < conditions → u.condition < conditions → AreAlike nfa o u
      → HaveSameSpots names rules o u
  alike_same o u l m h s = (
    λ x. let q = some_position o s l x in subst (IsSpotAfter names rules u) q.2 (to_spot u q.0 m ((h q.0).0 q.3)),
    λ x. let q = some_position u s m x in subst (IsSpotAfter names rules o) q.2 (to_spot o q.0 l ((h q.0).1 q.3)),
  )

  pub same_alike : (o u : Beginning) → o.condition < conditions → u.condition < conditions
      → HaveSameSpots names rules o u → AreAlike nfa o u
  same_alike o u l m h q = (
    λ x. of_spot u q m (after_within o q x) ((h (spot q)).0 (to_spot o q l x)),
    λ x. of_spot o q l (after_within u q x) ((h (spot q)).1 (to_spot u q m x)),
  )

  pub alive_spot : (o : Beginning) → IsAlive nfa conditions o → HasSpot names rules conditions o
  alive_spot o h = (h.0, (spot h.1.0, to_spot o h.1.0 h.0 h.1.1))

  pub spot_alive : (o : Beginning) → HasSpot names rules conditions o → IsAlive nfa conditions o
  spot_alive o h = let q = some_position o h.1.0 h.0 h.1.1 in (h.0, (q.0, q.3))

  pub to_rules : (n : ℕ) → HasMoreSets nfa conditions n → HaveMoreSets names rules conditions n
  to_rules n h = record {
    after = h.after;
    count = h.count;
    alive = λ k d l. alive_spot (get_or h.after k d) (h.alive k d l);
    apart = λ i j d l m e. h.apart i j d l m (same_alike (get_or h.after i d) (get_or h.after j d)
        (h.alive i d (omega (arith, l, m))).0 (h.alive j d m).0 e);
  }

  pub of_rules : (n : ℕ) → HaveMoreSets names rules conditions n → HasMoreSets nfa conditions n
  of_rules n h = record {
    after = h.after;
    count = h.count;
    alive = λ k d l. spot_alive (get_or h.after k d) (h.alive k d l);
    apart = λ i j d l m e. h.apart i j d l m (alike_same (get_or h.after i d) (get_or h.after j d)
        (h.alive i d (omega (arith, l, m))).0 (h.alive j d m).0 e);
  }

  module _ (A : Automaton) (so : AreSubsets nfa conditions A) (is : IsAutomaton A) where
    -- the state after a string is that of the positions that can come next
    state_is : (o : Beginning) → o.condition < conditions → IsStateOf so.sets (state_of A o) (IsAfter nfa o)
    state_is o l = follow nfa conditions A so (Contains (starts_of nfa o.condition o.line))
        (start_of A o.condition o.line) o.text (so.starts o.condition o.line l)

    below : (x : Option ℕ) (P : ℕ → Type 0) (s : ℕ) → IsStateOf so.sets x P → x ≡ Some s → s < length A.rules
    below None P s h e = cc
    below (Some t) P s h e = let same : t ≡ s = cc in omega (arith, h.0, so.count)

    empty_state : (x : Option ℕ) (P : ℕ → Type 0) → IsStateOf so.sets x P → x ≡ None → (q : ℕ) → P q → ⊥
    empty_state None P h e = h
    empty_state (Some t) P h e = cc

    no_state : (x : Option ℕ) (P : ℕ → Type 0) → IsStateOf so.sets x P → ((q : ℕ) → P q → ⊥) → x ≡ None
    no_state None P h f = refl
    no_state (Some t) P h f = let q = so.are_sets.some t h.0 in absurd (f q.0 ((h.1 q.0).0 q.1))

    one_state : (x y : Option ℕ) (P Q : ℕ → Type 0) → IsStateOf so.sets x P → IsStateOf so.sets y Q → x ≡ y
        → (q : ℕ) → P q ↔ Q q
    one_state None None P Q h k e q = (λ p. absurd (h q p), λ p. absurd (k q p))
    one_state None (Some t) P Q h k e q = cc
    one_state (Some s) None P Q h k e q = cc
    one_state (Some s) (Some t) P Q h k e q =
        let same : s ≡ t = cc in
        let g = subst (λ z. (r : ℕ) → Contains (set_at so.sets z) r ↔ P r) same h.1 in
        (λ p. (k.1 q).0 ((g q).1 p), λ p. (g q).0 ((k.1 q).1 p))

    state_one : (x y : Option ℕ) (P Q : ℕ → Type 0) → IsStateOf so.sets x P → IsStateOf so.sets y Q
        → ((q : ℕ) → P q ↔ Q q) → x ≡ y
    state_one None None P Q h k f = refl
    state_one None (Some t) P Q h k f = let q = so.are_sets.some t k.0 in absurd (h q.0 ((f q.0).1 ((k.1 q.0).0 q.1)))
    state_one (Some s) None P Q h k f = let q = so.are_sets.some s h.0 in absurd (k q.0 ((f q.0).0 ((h.1 q.0).0 q.1)))
    state_one (Some s) (Some t) P Q h k f = ap (λ z. Some z) (so.are_sets.apart s t h.0 k.0 (λ q. (
      λ c. (k.1 q).1 ((f q).0 ((h.1 q).0 c)),
      λ c. (h.1 q).1 ((f q).1 ((k.1 q).0 c)),
    )))

    -- nothing starts in a condition that there is not
    ended : (w : List ℕ) → state_after A None w ≡ None
    ended [] = refl
    ended (b ∷ w) = ended w

    no_start : (c : ℕ) (line : Bool) → conditions ≤ c → start_of A c line ≡ None
    no_start c line l = elim (cases_Bool (nat_lt (start_place c line) A.starts)) [
      | inl inside ↦ absurd (omega (arith, ltb-true (start_place c line) A.starts inside, so.two_starts, above line))
      | inr past ↦ ap (λ t. if t then entry_at A.entries (start_place c line) else None) past
    ]
      where
        above : (line : Bool) → 2 * conditions ≤ start_place c line
        above true = omega (arith, l)
        above false = omega (arith, l)

    each_state : (s : ℕ) → s < length A.rules
        → (o : Beginning) × (o.condition < conditions) × (state_of A o ≡ Some s)
    each_state s l =
        let r = reached A is so.breadth_first s l in
        elim (cases_lt r.0 conditions) [
          | inl less ↦ (record { condition = r.0; line = r.1; text = r.2 }, less, r.3)
          | inr past ↦
              let none : state_after A (start_of A r.0 r.1) r.2 ≡ None
              = ap (λ z. state_after A z r.2) (no_start r.0 r.1 past) ∙ ended r.2 in
              let some = r.3 in absurd cc
        ]

    pub spot_sets : AreSpotSets names rules conditions A
    spot_sets = record {
      within = λ o s l e. below (state_of A o) (IsAfter nfa o) s (state_is o l) e;
      nowhere = λ o l. (
        λ e s h. let q = some_position o s l h in
            empty_state (state_of A o) (IsAfter nfa o) (state_is o l) e q.0 q.3,
        λ f. no_state (state_of A o) (IsAfter nfa o) (state_is o l) (λ q h. f (spot q) (to_spot o q l h)),
      );
      same = λ o u l m. (
        λ e. alike_same o u l m (one_state (state_of A o) (state_of A u) (IsAfter nfa o) (IsAfter nfa u) (state_is o l)
            (state_is u m) e),
        λ h. state_one (state_of A o) (state_of A u) (IsAfter nfa o) (IsAfter nfa u) (state_is o l) (state_is u m)
            (same_alike o u l m h),
      );
      each = each_state;
    }

pub subsets_are_spot_sets : SubsetsAreSpotSets
subsets_are_spot_sets names rules conditions nfa A h so is = spot_sets names rules conditions nfa h.0 h.1 A so is

pub more_sets_of_rules : MoreSetsOfRules
more_sets_of_rules names rules conditions nfa n h
    = (to_rules names rules conditions nfa h.0 h.1 n, of_rules names rules conditions nfa h.0 h.1 n)

-- strings after which different spots can come next lead to different states
module _ (names : List Expression) (rules : List Rule) (conditions : ℕ) (A : Automaton) (n : ℕ)
    (so : AreSpotSets names rules conditions A) (h : HaveMoreSets names rules conditions n) where
  none : Beginning
  none = record { condition = 0; line = false; text = [] }

  abbrev nth : ℕ → Beginning
  nth i = get_or h.after i none

  alive : (i : ℕ) → i < suc n → HasSpot names rules conditions (nth i)
  alive i l = h.alive i none (omega (arith, h.count))

  some_state : (i : ℕ) → i < suc n → (x : Option ℕ) → state_of A (nth i) ≡ x
      → (s : ℕ) × (s < length A.rules) × (state_of A (nth i) ≡ Some s)
  some_state i l None e = let a = alive i l in absurd ((so.nowhere (nth i) a.0).0 e a.1.0 a.1.1)
  some_state i l (Some s) e = (s, so.within (nth i) s (alive i l).0 e, e)

  no_pair : (i j s : ℕ) → i < j → j < suc n → state_of A (nth i) ≡ Some s → state_of A (nth j) ≡ Some s → ⊥
  no_pair i j s l m e f = h.apart i j none l (omega (arith, h.count))
      ((so.same (nth i) (nth j) (alive i (omega arith)).0 (alive j m).0).0 (e ∙ sym f))

  pub more_states : suc n ≤ length A.rules
  more_states = pigeonhole (suc n) (length A.rules) (λ i s. state_of A (nth i) ≡ Some s)
      (λ i l. some_state i l (state_of A (nth i)) refl)
      (λ i j s l m e f. elim (cases_lt i j) [
        | inl less ↦ absurd (no_pair i j s less m e f)
        | inr past ↦ elim (cases_lt j i) [
          | inl less ↦ absurd (no_pair j i s less l f e)
          | inr same ↦ omega arith
        ]
      ])

pub no_more_sets_than_states : NoMoreSetsThanStates
no_more_sets_than_states names rules conditions A n so l h
    = let more = more_states names rules conditions A n so h in omega arith

-- the bytes of a position are those of its spot
module _ (names : List Expression) (rules : List Rule) (conditions : ℕ) (nfa : Nfa) (spot : ℕ → Spot)
    (all : ArePositionsOf names rules conditions nfa spot) where
  read_at : (p b : ℕ) → p < length nfa.positions → ReadsByte nfa p b ↔ IsReadAt names rules (spot p) b
  read_at p b l =
      let s = all.is_spot p l in (
        λ h. (s.0, s.1, (all.reads p b s.0 l s.1).0 h),
        λ h. (all.reads p b h.0 l h.1).1 h.2,
      )

  past_reads : (p b : ℕ) → length nfa.positions ≤ p → ReadsByte nfa p b → ⊥
  past_reads p b l h = Contains-none b (subst (λ x. Contains (bytes_of x) b)
      (get_or_past nfa.positions p (reading [] []) l) h)

  spots_alike : (a b : ℕ) → AreReadAlike nfa a b → AreSpotsAlike names rules a b
  spots_alike a b h s is =
      let p = all.each s is in
      subst (λ x. IsReadAt names rules x a ↔ IsReadAt names rules x b) p.2 (
        λ x. (read_at p.0 b p.1).0 ((h p.0).0 ((read_at p.0 a p.1).1 x)),
        λ x. (read_at p.0 a p.1).0 ((h p.0).1 ((read_at p.0 b p.1).1 x)),
      )

  read_alike : (a b : ℕ) → AreSpotsAlike names rules a b → AreReadAlike nfa a b
  read_alike a b h p = elim (cases_lt p (length nfa.positions)) [
    | inl l ↦ let k = h (spot p) (all.is_spot p l) in (
      λ x. (read_at p b l).1 (k.0 ((read_at p a l).0 x)),
      λ x. (read_at p a l).1 (k.1 ((read_at p b l).0 x)),
    )
    | inr l ↦ (λ x. absurd (past_reads p a l x), λ x. absurd (past_reads p b l x))
  ]

  pub of_rules_alike : (a b : ℕ) → AreReadAlike nfa a b ↔ AreSpotsAlike names rules a b
  of_rules_alike a b = (spots_alike a b, read_alike a b)

pub classes_of_rules : ClassesOfRules
classes_of_rules names rules conditions nfa a b h = of_rules_alike names rules conditions nfa h.0 h.1 a b
