-- States that are sets of positions, numbered breadth first, are numbered in one way.
use Rattle.std.proofs.Common.{◌≡◌, ◌⊎◌, inl, inr, ℕ, zero, suc, ◌+◌, ◌-◌, ◌*◌, ◌/◌, ◌%◌, ◌<◌, ◌≤◌, List, [], ◌∷◌, ◌++◌}
use Rattle.std.proofs.Common.{length, Bool, true, Option, Some, None, refl, sym, ap, subst, ◌∙◌, arith, lt-ltb}
use Rattle.std.specs.Prelude.{if◌then◌else◌, nat_lt, option_and_then, slice_get}
use Rattle.std.proofs.lemmas.Bool.{cases_eq, cases_lt}
use Rattle.std.proofs.lemmas.List.{get_or_default, same_lists}
use Rattle.std.proofs.lemmas.Nat.{div-add-mod', div_below}
use Rattle.ly_ere.specs.Expression.{Expression}
use Rattle.ly_ere.specs.declared.pattern.Rule.{Rule}
use Rattle.ly_base.proofs.PigeonholeLemmas.{pigeonhole}
use Rattle.ly_subset.specs.Automaton.{AppearInOrder, Automaton, IsAutomaton, IsBreadthFirst, entry_at, next_by_class}
use Rattle.ly_subset.specs.Automaton.{next_of, start_of, start_place}
use Rattle.ly_subset.specs.Laws.{EntriesAreOne}
use Rattle.ly_subset.specs.RuleSets.{AreSpotSets, state_of}
use Rattle.ly_subset.specs.Subsets.{Beginning}
use Rattle.ly_subset.proofs.LawLemmas.{state-append}
use Rattle.ly_subset.proofs.SubsetLemmas.{place_below, place_of, positive}

-- whether a number stands among the first entries
abbrev Seen : List (Option ℕ) → ℕ → ℕ → Type 0
Seen entries n u = (j : ℕ) × (j < n) × (entry_at entries j ≡ Some u)

abbrev IsUnseen : List (Option ℕ) → ℕ → ℕ → Type 0
IsUnseen entries n u = (j : ℕ) → j < n → entry_at entries j ≡ Some u → ⊥

is_number : (o : Option ℕ) (u : ℕ) → (o ≡ Some u) ⊎ (o ≡ Some u → ⊥)
is_number None u = inr (λ e. cc)
is_number (Some t) u = elim (cases_eq t u) [
  | inl same ↦ inl (ap (λ z. Some z) same)
  | inr other ↦ inr (λ e. other (let one : t ≡ u = cc in one))
]

seen : (entries : List (Option ℕ)) (n u : ℕ) → Seen entries n u ⊎ IsUnseen entries n u
seen entries zero u = inr (λ j l e. absurd (omega (arith, l)))
seen entries (suc n) u = more (seen entries n u) (is_number (entry_at entries n) u)
  where
    more : Seen entries n u ⊎ IsUnseen entries n u
        → (entry_at entries n ≡ Some u) ⊎ (entry_at entries n ≡ Some u → ⊥)
        → Seen entries (suc n) u ⊎ IsUnseen entries (suc n) u
    more (inl s) d = inl (s.0, omega (arith, s.1), s.2)
    more (inr s) (inl here) = inl (n, omega arith, here)
    more (inr s) (inr other) = inr (λ j l e. elim (cases_lt j n) [
      | inl less ↦ s j less e
      | inr past ↦ let same : j ≡ n = omega arith in other (subst (λ z. entry_at entries z ≡ Some u) same e)
    ])

-- every number below one that stands there stands before it
lower : (entries : List (Option ℕ)) → AppearInOrder entries → (t u k : ℕ) → u < t → entry_at entries k ≡ Some t
    → Seen entries k u
lower entries order zero u k l e = absurd (omega (arith, l))
lower entries order (suc t) u k l e =
    let before = order k t e in
    elim (cases_eq t u) [
      | inl same ↦ (before.0, before.1, before.2 ∙ ap (λ z. Some z) same)
      | inr other ↦
          let less : u < t = omega arith in
          let s = lower entries order t u before.0 less before.2 in
          (s.0, omega (arith, s.1, before.1), s.2)
    ]

module _ (names : List Expression) (rules : List Rule) (conditions : ℕ) (A B : Automaton)
    (a_sets : AreSpotSets names rules conditions A) (b_sets : AreSpotSets names rules conditions B) where
  -- where one has a state, so has the other
  other_state : (o : Beginning) → o.condition < conditions → (s : ℕ) → state_of A o ≡ Some s → (y : Option ℕ)
      → state_of B o ≡ y → (t : ℕ) × (state_of B o ≡ Some t)
  other_state o l s e None f =
      let none : state_of A o ≡ None = (a_sets.nowhere o l).1 ((b_sets.nowhere o l).0 f) in
      absurd (let off : None ≡ Some s = sym none ∙ e in cc)
  other_state o l s e (Some t) f = (t, f)

  -- two strings lead to one state in both or in neither
  one_state : (o u : Beginning) → o.condition < conditions → u.condition < conditions
      → state_of A o ≡ state_of A u → state_of B o ≡ state_of B u
  one_state o u l m e = (b_sets.same o u l m).1 ((a_sets.same o u l m).0 e)

  abbrev Pair : ℕ → ℕ → Type 0
  Pair s t = (o : Beginning) × (o.condition < conditions) × (state_of A o ≡ Some s) × (state_of B o ≡ Some t)

  partner : (s : ℕ) → s < length A.rules → (t : ℕ) × (t < length B.rules) × Pair s t
  partner s l =
      let o = a_sets.each s l in
      let t = other_state o.0 o.1 s o.2 (state_of B o.0) refl in
      (t.0, b_sets.within o.0 t.0 o.1 t.1, (o.0, o.1, o.2, t.1))

pub no_more_states : (names : List Expression) (rules : List Rule) (conditions : ℕ) (A B : Automaton)
    → AreSpotSets names rules conditions A → AreSpotSets names rules conditions B → length A.rules ≤ length B.rules
no_more_states names rules conditions A B a b = pigeonhole (length A.rules) (length B.rules)
    (Pair names rules conditions A B a b) (partner names rules conditions A B a b)
    (λ s u t l m p q.
    let same : state_of A p.0 ≡ state_of A q.0
    = one_state names rules conditions B A b a p.0 q.0 p.1 q.1 (p.3 ∙ sym q.3) in
    let x = p.2 in let y = q.2 in let one : s ≡ u = cc in one)

module _ (names : List Expression) (rules : List Rule) (conditions : ℕ) (A B : Automaton) (a_is : IsAutomaton A)
    (a_order : IsBreadthFirst A) (b_order : IsBreadthFirst B)
    (a_sets : AreSpotSets names rules conditions A) (b_sets : AreSpotSets names rules conditions B)
    (class_of : A.class_of ≡ B.class_of) (classes : A.classes ≡ B.classes) (a_starts : A.starts ≡ 2 * conditions)
    (b_starts : B.starts ≡ 2 * conditions) where
  -- a string that leads to an entry in both, where the entries are the same
  record Agree (k : ℕ) : Type 0 where
    text : Beginning
    condition : text.condition < conditions
    in_a : state_of A text ≡ entry_at A.entries k
    in_b : state_of B text ≡ entry_at B.entries k
    same : entry_at A.entries k ≡ entry_at B.entries k

  abbrev Before : ℕ → Type 0
  Before k = (j : ℕ) → j < k → Agree j

  -- the string alone
  record Leads (k : ℕ) : Type 0 where
    text : Beginning
    condition : text.condition < conditions
    in_a : state_of A text ≡ entry_at A.entries k
    in_b : state_of B text ≡ entry_at B.entries k

  start_is : (M : Automaton) (c : ℕ) (line : Bool) (k : ℕ) → start_place c line ≡ k → k < M.starts
      → start_of M c line ≡ entry_at M.entries k
  start_is M c line k e l =
      let test : nat_lt (start_place c line) M.starts ≡ true
      = lt-ltb (start_place c line) M.starts (subst (λ z. z < M.starts) (sym e) l) in
      ap (λ t. if t then entry_at M.entries (start_place c line) else None) test ∙ ap (entry_at M.entries) e

  by_start : (k : ℕ) → k < A.starts → Leads k
  by_start k l =
      let p = place_of k in
      let m : k < B.starts = omega arith in
      record {
        text = record { condition = p.0; line = p.1; text = [] };
        condition = place_below p.0 p.1 conditions (subst (λ z. z < 2 * conditions) (sym p.2) (omega arith));
        in_a = start_is A p.0 p.1 k p.2 l;
        in_b = start_is B p.0 p.1 k p.2 m;
      }

  -- a byte more
  step_is : (M : Automaton) (o : Beginning) (b c s k : ℕ) → state_of M o ≡ Some s → slice_get M.class_of b ≡ Some c
      → M.starts + (s * M.classes + c) ≡ k
      → state_of M (record { condition = o.condition; line = o.line; text = o.text ++ b ∷ [] }) ≡ entry_at M.entries k
  step_is M o b c s k e f at = state-append M (start_of M o.condition o.line) o.text (b ∷ [])
      ∙ ap (λ x. next_of M x b) e ∙ ap (option_and_then (next_by_class M s)) f ∙ ap (entry_at M.entries) at

  by_row : (k : ℕ) → A.starts ≤ k → k < length A.entries → Before k → Leads k
  by_row k past l before =
      let w = A.classes in
      let j = k - A.starts in
      let small : j < length A.rules * w = let full = a_is.full in omega arith in
      let some : 0 < w = positive (length A.rules) w j small in
      let s = j / w in
      let c = j % w in
      let less : s < length A.rules = div_below j w (length A.rules) some small in
      let parts : s * w + c ≡ j = div-add-mod' j w in
      let row = a_order.before_row s less in
      let earlier : row.0 < k = let r = row.1 in omega arith in
      let h = before row.0 earlier in
      let b = a_is.used c (omega (arith, some)) in
      let turned : s * B.classes ≡ s * w = ap (λ n. s * n) (sym classes) in
      record {
        text = record { condition = h.text.condition; line = h.text.line; text = h.text.text ++ b.0 ∷ [] };
        condition = h.condition;
        in_a = step_is A h.text b.0 c s k (h.in_a ∙ row.2) b.1 (omega arith);
        in_b = step_is B h.text b.0 c s k (h.in_b ∙ sym h.same ∙ row.2)
            (subst (λ xs. slice_get xs b.0 ≡ Some c) class_of b.1) (omega arith);
      }

  -- such a string leads to the same entry in both
  two_states : (k s t : ℕ) → Before k → (p : Leads k) → entry_at A.entries k ≡ Some s → entry_at B.entries k ≡ Some t
      → s ≡ t
  two_states k s t before p e f = by (seen A.entries k s) (seen B.entries k t)
    where
      -- the state stands at an earlier entry of the first, or of the second
      in_first : Seen A.entries k s → s ≡ t
      in_first x =
          let h = before x.0 x.1 in
          let same = one_state names rules conditions A B a_sets b_sets h.text p.text h.condition p.condition
          (h.in_a ∙ x.2 ∙ sym e ∙ sym p.in_a) in
          let one : Some s ≡ Some t = sym x.2 ∙ h.same ∙ sym h.in_b ∙ same ∙ p.in_b ∙ f in
          cc

      in_second : Seen B.entries k t → s ≡ t
      in_second x =
          let h = before x.0 x.1 in
          let same = one_state names rules conditions B A b_sets a_sets h.text p.text h.condition p.condition
          (h.in_b ∙ x.2 ∙ sym f ∙ sym p.in_b) in
          let one : Some t ≡ Some s = sym x.2 ∙ sym h.same ∙ sym h.in_a ∙ same ∙ p.in_a ∙ e in
          cc

      by : Seen A.entries k s ⊎ IsUnseen A.entries k s → Seen B.entries k t ⊎ IsUnseen B.entries k t → s ≡ t
      by (inl x) y = in_first x
      by (inr x) (inl y) = in_second y
      by (inr x) (inr y) = elim (cases_lt s t) [
        | inl less ↦
            let z = lower B.entries b_order.in_order t s k less f in
            absurd (x z.0 z.1 ((before z.0 z.1).same ∙ z.2))
        | inr past ↦ elim (cases_lt t s) [
          | inl less ↦
              let z = lower A.entries a_order.in_order s t k less e in
              absurd (y z.0 z.1 (sym (before z.0 z.1).same ∙ z.2))
          | inr same ↦ omega arith
        ]
      ]

  same_entry : (k : ℕ) → Before k → (p : Leads k) → (x y : Option ℕ) → entry_at A.entries k ≡ x
      → entry_at B.entries k ≡ y → x ≡ y
  same_entry k before p None None e f = refl
  same_entry k before p None (Some t) e f =
      let a = other_state names rules conditions B A b_sets a_sets p.text p.condition t (p.in_b ∙ f)
      (state_of A p.text) refl in
      absurd (let off : None ≡ Some a.0 = sym e ∙ sym p.in_a ∙ a.1 in cc)
  same_entry k before p (Some s) None e f =
      let b = other_state names rules conditions A B a_sets b_sets p.text p.condition s (p.in_a ∙ e)
      (state_of B p.text) refl in
      absurd (let off : None ≡ Some b.0 = sym f ∙ sym p.in_b ∙ b.1 in cc)
  same_entry k before p (Some s) (Some t) e f = ap (λ z. Some z) (two_states k s t before p e f)

  agree : (k : ℕ) → k < length A.entries → Before k → Agree k
  agree k l before =
      let p : Leads k = elim (cases_lt k A.starts) [
        | inl less ↦ by_start k less
        | inr past ↦ by_row k past l before
      ] in
      record {
        text = p.text;
        condition = p.condition;
        in_a = p.in_a;
        in_b = p.in_b;
        same = same_entry k before p (entry_at A.entries k) (entry_at B.entries k) refl refl;
      }

  agree_below : (n k : ℕ) → k < n → n ≤ length A.entries → Agree k
  agree_below zero k l m = absurd (omega (arith, l))
  agree_below (suc n) k l m = agree k (omega arith) (λ j less. agree_below n j (omega arith) (omega arith))

  pub entry_is : (k : ℕ) → k < length A.entries → entry_at A.entries k ≡ entry_at B.entries k
  entry_is k l = (agree_below (suc k) k (omega arith) (omega arith)).same

pub entries_are_one : EntriesAreOne
entries_are_one names rules conditions A B a_is b_is a_order b_order a b class_of classes a_starts b_starts =
    let count : length A.rules ≡ length B.rules =
    let x = no_more_states names rules conditions A B a b in
    let y = no_more_states names rules conditions B A b a in omega arith in
    let long : length A.entries ≡ length B.entries = a_is.full ∙ ap (λ n. n + length A.rules * A.classes) (a_starts
    ∙ sym b_starts) ∙ ap (λ n. B.starts + n * A.classes) count ∙ ap (λ n. B.starts + length B.rules * n) classes
    ∙ sym b_is.full in
    same_lists A.entries B.entries long (λ k d l. get_or_default A.entries k d None l
    ∙ entry_is names rules conditions A B a_is a_order b_order a b class_of classes a_starts b_starts k l
    ∙ get_or_default B.entries k None d (omega arith))
