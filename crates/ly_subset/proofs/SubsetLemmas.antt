-- What was found is all: each set comes after a string from a start, and what is complete is an automaton of the sets.
use Rattle.std.proofs.Common.{◌≡◌, ◌<◌, ◌≤◌, ◌+◌, ◌-◌, ◌*◌, ◌/◌, ◌%◌, ◌∙◌, ℕ, zero, suc, List, [], ◌∷◌, ◌++◌, Option}
use Rattle.std.proofs.Common.{Some}
use Rattle.std.proofs.Common.{None, Bool, true, false, refl, sym, ap, subst, arith, inl, inr, get_or, length}
use Rattle.std.proofs.Common.{Contains}
use Rattle.std.proofs.Common.{lt-ltb, slice_get}
use Rattle.std.specs.Prelude.{◌↔◌, slice_index_or, if◌then◌else◌, nat_lt, option_and_then}
use Rattle.std.proofs.lemmas.Bool.{cases_eq, cases_lt}
use Rattle.std.proofs.lemmas.List.{get_or_append_left, get_or_push, length_push}
use Rattle.std.proofs.lemmas.List.Elements.{All-from_get_or}
use Rattle.std.proofs.lemmas.Nat.{div-add-mod', div_below, mul-add-lt}
use Rattle.std.proofs.lemmas.Option.{slice_get-get_or, slice_get_past, slice_get_within, get_or_from_slice_get}
use Rattle.std.proofs.Math.Nat.{mul_comm}
use Rattle.ly_position.specs.Nfa.{Nfa, ComesTo, ReadsByte, Follows, Stepped, starts_of}
use Rattle.ly_subset.specs.Automaton.{AreInOrder, Automaton, IsAutomaton, entry_at, next_by_class, next_of, start_of}
use Rattle.ly_subset.specs.Automaton.{start_place}
use Rattle.ly_subset.specs.Classes.{AreClasses, class_at}
use Rattle.ly_subset.specs.Subsets.{AreSubsets, Beginning, HasMoreSets, IsAfter, IsAlive, IsStateOf}
use Rattle.ly_subset.specs.Subsets.{set_at}
use Rattle.ly_subset.specs.Private.Classes.{AreLeast}
use Rattle.ly_subset.specs.Private.Found.{AreFound, HaveRules, IsPast}
use Rattle.ly_subset.proofs.FoundLemmas.{each_more, state_same}
use Rattle.ly_subset.proofs.OrderLemmas.{entry_within}

-- a run and one byte more
comes_more : (nfa : Nfa) (p : ℕ) (w : List ℕ) (q b r : ℕ) → ComesTo nfa p w q → ReadsByte nfa q b → Follows nfa q r
    → ComesTo nfa p (w ++ b ∷ []) r
comes_more nfa p [] q b r e reads follows
    = (r, subst (λ x. ReadsByte nfa x b) (sym e) reads, subst (λ x. Follows nfa x r) (sym e) follows, refl)
comes_more nfa p (a ∷ w) q b r h reads follows = (h.0, h.1, h.2, comes_more nfa h.0 w q b r h.3 reads follows)

comes_back : (nfa : Nfa) (p : ℕ) (w : List ℕ) (b r : ℕ) → ComesTo nfa p (w ++ b ∷ []) r
    → (q : ℕ) × ComesTo nfa p w q × ReadsByte nfa q b × Follows nfa q r
comes_back nfa p [] b r h = (p, refl, h.1, subst (λ x. Follows nfa p x) h.3 h.2)
comes_back nfa p (a ∷ w) b r h = let back = comes_back nfa h.0 w b r h.3 in
    (back.0, (h.0, h.1, h.2, back.1), back.2, back.3)

-- The set is what can come next after some string from a start.
pub record IsReachedSet (nfa : Nfa) (conditions : ℕ) (set : List ℕ) : Type 0 where
  pub after : Beginning
  pub condition : after.condition < conditions
  pub same : (q : ℕ) → Contains set q ↔ IsAfter nfa after q

-- a start's place is that of a condition, where a line begins or elsewhere
pub place_of : (k : ℕ) → (c : ℕ) × (line : Bool) × (start_place c line ≡ k)
place_of k = elim (cases_eq (k % 2) 0) [
  | inl even ↦ (k / 2, false, omega (arith, even))
  | inr odd ↦ (k / 2, true, omega (arith, odd))
]

pub place_below : (c : ℕ) (line : Bool) (conditions : ℕ) → start_place c line < 2 * conditions → c < conditions
place_below c true conditions l = omega (arith, l)
place_below c false conditions l = omega (arith, l)

pub below_place : (c : ℕ) (line : Bool) (conditions : ℕ) → c < conditions → start_place c line < 2 * conditions
below_place c true conditions l = omega (arith, l)
below_place c false conditions l = omega (arith, l)

start_reached : (nfa : Nfa) (conditions : ℕ) (set : List ℕ) (k : ℕ) → k < 2 * conditions
    → ((q : ℕ) → Contains set q ↔ Contains (slice_index_or nfa.starts k []) q) → IsReachedSet nfa conditions set
start_reached nfa conditions set k l same =
    let p = place_of k in
    let at : (q : ℕ) → Contains set q ↔ Contains (starts_of nfa p.0 p.1) q
    = subst (λ j. (q : ℕ) → Contains set q ↔ Contains (slice_index_or nfa.starts j []) q) (sym p.2) same in
    record {
      after = record { condition = p.0; line = p.1; text = [] };
      condition = place_below p.0 p.1 conditions (subst (λ j. j < 2 * conditions) (sym p.2) l);
      same = λ q. (
        λ h. (q, (at q).0 h, refl),
        λ h. (at q).1 (subst (λ x. Contains (starts_of nfa p.0 p.1) x) h.2 h.1),
      );
    }

step_reached : (nfa : Nfa) (conditions : ℕ) (from set : List ℕ) (b : ℕ) → IsReachedSet nfa conditions from
    → ((q : ℕ) → Contains set q ↔ Stepped nfa from b q) → IsReachedSet nfa conditions set
step_reached nfa conditions from set b r same = record {
  after = record {
    condition = r.after.condition;
    line = r.after.line;
    text = r.after.text ++ b ∷ [];
  };
  condition = r.condition;
  same = λ q. (
    λ h. let step = (same q).0 h in let was = (r.same step.0).0 step.1 in
        (was.0, was.1, comes_more nfa was.0 r.after.text step.0 b q was.2 step.2 step.3),
    λ h. let back = comes_back nfa h.0 r.after.text b q h.2 in
        (same q).1 (back.0, (r.same back.0).1 (h.0, h.1, back.1), back.2, back.3),
  );
}

-- the set of a state that an entry leads to
pub set_of : (sets : List (List ℕ)) (P : ℕ → Type 0) (o : Option ℕ) (s : ℕ) → IsStateOf sets o P → o ≡ Some s
    → (q : ℕ) → Contains (set_at sets s) q ↔ P q
set_of sets P None s h e = cc
set_of sets P (Some t) s h e = let same : t ≡ s = cc in
    subst (λ u. (q : ℕ) → Contains (set_at sets u) q ↔ P q) same h.1

pub positive : (s w j : ℕ) → j < s * w → 0 < w
positive s zero j l = absurd (omega (arith, l))
positive s (suc w) j l = omega arith

module _ (nfa : Nfa) (conditions : ℕ) (least : List ℕ) (limit : ℕ) (sets : List (List ℕ)) (entries : List (Option ℕ))
    (so : AreFound nfa (2 * conditions) least limit sets entries) where
  -- each set that was found comes after a string
  reached_below : (n s : ℕ) → s < n → s < length sets → IsReachedSet nfa conditions (set_at sets s)
  reached_below zero s l m = absurd (omega (arith, l))
  reached_below (suc n) s l m =
      let row = so.order.before_row s m in
      let there : row.0 < length entries = entry_within entries row.0 s row.2 in
      elim (cases_lt row.0 (2 * conditions)) [
        | inl less ↦ start_reached nfa conditions (set_at sets s) row.0 less
            (set_of sets (Contains (slice_index_or nfa.starts row.0 [])) (entry_at entries row.0) s
            (so.at_start row.0 there less) row.2)
        | inr past ↦
            let w = length least in
            let j = row.0 - 2 * conditions in
            let small : j < s * w = omega (arith, row.1, past) in
            let some : 0 < w = positive s w j small in
            let t : j / w < s = div_below j w s some small in
            let parts : j / w * w + j % w ≡ j = div-add-mod' j w in
            let at : 2 * conditions + (j / w * w + j % w) ≡ row.0 = omega (arith, parts, past) in
            let here = so.at_row (j / w) (j % w) (omega (arith, some)) (omega (arith, at, there)) in
            step_reached nfa conditions (set_at sets (j / w)) (set_at sets s) (slice_index_or least (j % w) 0)
            (reached_below n (j / w) (omega (arith, t, l)) here.0)
            (set_of sets (Stepped nfa (set_at sets (j / w)) (slice_index_or least (j % w) 0))
            (entry_at entries (2 * conditions + (j / w * w + j % w))) s here.1 (ap (entry_at entries) at ∙ row.2))
      ]

  pub reached_set : (s : ℕ) → s < length sets → IsReachedSet nfa conditions (set_at sets s)
  reached_set s l = reached_below (suc s) s (omega arith) l

-- as many strings as there are sets
beginnings : (nfa : Nfa) (conditions : ℕ) (sets : List (List ℕ))
    → ((s : ℕ) → s < length sets → IsReachedSet nfa conditions (set_at sets s)) → (n : ℕ) → n ≤ length sets
    → (os : List Beginning) × (length os ≡ n)
    × ((s : ℕ) (d : Beginning) → s < n → (get_or os s d).condition < conditions
    × ((q : ℕ) → Contains (set_at sets s) q ↔ IsAfter nfa (get_or os s d) q))
beginnings nfa conditions sets reached zero l = ([], refl, λ s d m. absurd (omega (arith, m)))
beginnings nfa conditions sets reached (suc n) l =
    let h = beginnings nfa conditions sets reached n (omega (arith, l)) in
    let r = reached n (omega (arith, l)) in (
      h.0 ++ r.after ∷ [],
      omega (arith, length_push h.0 r.after, h.1),
      λ s d m. elim (cases_lt s n) [
        | inl less ↦ subst (λ o. (o.condition < conditions) × ((q : ℕ) → Contains (set_at sets s) q ↔ IsAfter nfa o q))
            (sym (get_or_append_left h.0 (r.after ∷ []) d s (omega (arith, less, h.1)))) (h.2 s d less)
        | inr past ↦ let last : n ≡ s = omega (arith, m, past) in
            subst (λ t. ((get_or (h.0 ++ r.after ∷ []) t d).condition < conditions)
            × ((q : ℕ) → Contains (set_at sets t) q ↔ IsAfter nfa (get_or (h.0 ++ r.after ∷ []) t d) q)) last
            (subst (λ o. (o.condition < conditions) × ((q : ℕ) → Contains (set_at sets n) q ↔ IsAfter nfa o q))
            (sym (get_or_push h.0 r.after d n h.1)) (r.condition, r.same))
      ],
    )

-- sets that strings lead to, none empty and no two the same, are as many that can come next
more_sets : (nfa : Nfa) (conditions : ℕ) (sets : List (List ℕ)) (n : ℕ) → length sets ≡ suc n
    → ((s : ℕ) → s < length sets → IsReachedSet nfa conditions (set_at sets s))
    → ((s : ℕ) → s < length sets → (q : ℕ) × Contains (set_at sets s) q)
    → ((s t : ℕ) → s < t → t < length sets → ((q : ℕ) → Contains (set_at sets s) q ↔ Contains (set_at sets t) q) → ⊥)
    → HasMoreSets nfa conditions n
more_sets nfa conditions sets n count reached some apart =
    let h = beginnings nfa conditions sets reached (length sets) (omega arith) in
    record {
      after = h.0;
      count = h.1 ∙ count;
      alive = All-from_get_or (IsAlive nfa conditions) h.0 none (λ s l.
          let here = h.2 s none (omega (arith, l, h.1)) in let q = some s (omega (arith, l, h.1)) in
          (here.0, (q.0, (here.1 q.0).0 q.1)));
      apart = λ s t d l m e.
          let a = h.2 s d (omega (arith, l, m, h.1)) in let b = h.2 t d (omega (arith, m, h.1)) in
          apart s t l (omega (arith, m, h.1)) (λ q. (
            λ x. (b.1 q).1 ((e q).0 ((a.1 q).0 x)),
            λ x. (a.1 q).1 ((e q).1 ((b.1 q).0 x)),
          ));
    }
  where
    none : Beginning
    none = record { condition = 0; line = false; text = [] }

-- a set more than the limit allows
pub many_of_past : (nfa : Nfa) (conditions : ℕ) (least : List ℕ) (limit : ℕ) → IsPast nfa (2 * conditions) least limit
    → HasMoreSets nfa conditions limit
many_of_past nfa conditions least limit past =
    let sets = past.sets in
    let members = past.members in
    let kept = past.found.kept in
    let reached = reached_set nfa conditions least limit sets past.entries past.found in
    let full : length sets ≡ limit = let few = kept.few in let full = past.full.full in omega arith in
    more_sets nfa conditions (sets ++ members ∷ []) limit (omega (arith, length_push sets members, full))
    (each_more sets members (λ s set. IsReachedSet nfa conditions set) reached (elim past.reached [
      | inl start ↦ start_reached nfa conditions members start.0 start.1 start.2
      | inr row ↦ step_reached nfa conditions (set_at sets row.0) members (slice_index_or least row.1 0)
          (reached row.0 row.2) row.4
    ]))
    (each_more sets members (λ s set. (q : ℕ) × Contains set q) kept.are_sets.some past.full.some)
    (λ s t l m. each_more sets members
    (λ t' set. s < t' → ((q : ℕ) → Contains (set_at (sets ++ members ∷ []) s) q ↔ Contains set q) → ⊥)
    (λ t' less before e. absurd (omega (
      arith,
      before,
      kept.are_sets.apart s t' (omega (arith, before, less)) less
          (subst (λ set. (q : ℕ) → Contains set q ↔ Contains (set_at sets t') q) (old s (omega
          (arith, before, less))) e),
    )))
    (λ before e. past.full.other s before
    (subst (λ set. (q : ℕ) → Contains set q ↔ Contains members q) (old s before) e))
    t m l)
  where
    old : (s : ℕ) → s < length past.sets → set_at (past.sets ++ past.members ∷ []) s ≡ set_at past.sets s
    old s l = get_or_append_left past.sets (past.members ∷ []) [] s l

module _ (nfa : Nfa) (conditions limit : ℕ) (A : Automaton) (least : List ℕ) (sets : List (List ℕ))
    (classes : AreClasses nfa A.class_of A.classes) (are_least : AreLeast A.class_of least)
    (count : length least ≡ A.classes) (starts : A.starts ≡ 2 * conditions)
    (so : AreFound nfa A.starts least limit sets A.entries)
    (full : length A.entries ≡ A.starts + length sets * length least) (rules : HaveRules nfa sets A.rules) where
  -- what is complete is an automaton
  pub is_automaton : IsAutomaton A
  is_automaton = record {
    bytes = classes.bytes;
    used = λ c l. let b = classes.used c l in (
      b.0,
      slice_get-get_or A.class_of b.0 0 (let bytes = classes.bytes in omega (arith, b.1))
          ∙ ap (λ x. Some x) b.2,
    );
    class_within = λ b c e. subst (λ d. d < A.classes) (get_or_from_slice_get A.class_of b c 0 e)
        (classes.within b (let bytes = classes.bytes in omega (arith, slice_get_within A.class_of b c e)));
    full = full ∙ ap (λ n. A.starts + n * length least) (sym rules.count)
        ∙ ap (λ n. A.starts + length A.rules * n) count;
    within = λ k s e. let count' = rules.count in omega (arith, so.order.within k s e);
  }

  -- bytes of one class come to the same
  same_class : (set : List ℕ) (b : ℕ) → b < 256 → (q : ℕ)
      → Stepped nfa set (slice_index_or least (class_at A.class_of b) 0) q ↔ Stepped nfa set b q
  same_class set b l q =
      let c = class_at A.class_of b in
      let within : c < length least = are_least.within b l in
      let alike = (classes.alike (slice_index_or least c 0) b (are_least.byte c within) l).0
      (are_least.in_class c within) in
      (λ h. (h.0, h.1, (alike h.0).0 h.2, h.3), λ h. (h.0, h.1, (alike h.0).1 h.2, h.3))

  next_state : (s b : ℕ) → s < length sets → b < 256 → IsStateOf sets (next_of A (Some s) b) (Stepped nfa
      (set_at sets s) b)
  next_state s b l m =
      let c = class_at A.class_of b in
      let within : c < length least = are_least.within b m in
      let place : s * length least + c < length sets * length least
      = let row = mul-add-lt s (length least) c (length sets) l within in
      let turned : length least * length sets ≡ length sets * length least = mul_comm (length least) (length sets) in
      omega (arith, row, turned) in
      let here = (so.at_row s c within (omega (arith, full, place))).1 in
      let at : slice_get A.class_of b ≡ Some c = slice_get-get_or A.class_of b 0
      (let bytes = classes.bytes in omega arith) in
      subst (λ o. IsStateOf sets (option_and_then (next_by_class A s) o) (Stepped nfa (set_at sets s) b)) (sym at)
      (state_same sets (Stepped nfa (set_at sets s) (slice_index_or least c 0)) (Stepped nfa (set_at sets s) b)
      (next_by_class A s c) (same_class (set_at sets s) b m)
      (subst (λ n. IsStateOf sets (entry_at A.entries (A.starts + (s * n + c)))
      (Stepped nfa (set_at sets s) (slice_index_or least c 0))) count here))

  -- what is no byte leads nowhere
  each_next : (s b : ℕ) → s < length sets → IsStateOf sets (next_of A (Some s) b) (Stepped nfa (set_at sets s) b)
  each_next s b l = elim (cases_lt b 256) [
    | inl less ↦ next_state s b l less
    | inr past ↦ subst (λ o. IsStateOf sets (option_and_then (next_by_class A s) o) (Stepped nfa (set_at sets s) b))
        (sym (slice_get_past A.class_of b (let bytes = classes.bytes in omega arith)))
        (λ q h. absurd (omega (arith, classes.read h.0 b h.2, past)))
  ]

  start_state : (c : ℕ) (line : Bool) → c < conditions → IsStateOf sets (start_of A c line) (Contains
      (starts_of nfa c line))
  start_state c line l =
      let less : start_place c line < A.starts = omega (arith, starts, below_place c line conditions l) in
      let test : nat_lt (start_place c line) A.starts ≡ true = lt-ltb (start_place c line) A.starts less in
      subst (λ t. IsStateOf sets (if t then entry_at A.entries (start_place c line) else None) (Contains
      (starts_of nfa c line)))
      (sym test) (so.at_start (start_place c line) (omega (arith, full, less)) less)

  -- of the sets that strings lead to
  pub are_subsets : AreSubsets nfa conditions A
  are_subsets = record {
    classes = classes;
    sets = sets;
    are_sets = so.kept.are_sets;
    count = sym rules.count;
    two_starts = starts;
    starts = start_state;
    nexts = each_next;
    rules = rules.least;
    breadth_first = subst (λ n. AreInOrder A.starts n (length A.rules) A.entries) count
        (subst (λ n. AreInOrder A.starts (length least) n A.entries) (sym rules.count) so.order);
  }
