-- Groups of conflicts, one conflict after another.
use Rattle.std.proofs.Common.{◌≡◌, ◌∙◌, ◌<◌, ◌+◌, ◌++◌, ◌⊎◌, ℕ, zero, suc, List, [], ◌∷◌, Option, Some, None}
use Rattle.std.proofs.Common.{ap, arith, inl, inr, length, refl, slice_get, subst, sym}
use Rattle.std.specs.Prelude.{AllPairs, Contains, Err, IfSome, Ok, OnOk, Result}
use Rattle.std.proofs.lemmas.Bool.{cases_eq}
use Rattle.std.proofs.lemmas.List.{length-append}
use Rattle.std.proofs.lemmas.List.Elements.{Contains-append_left, Contains-push, Contains-push_cases}
use Rattle.std.proofs.lemmas.Option.{same_Some, slice_get_within}
use Rattle.ly_base.proofs.ListLemmas.{AllPairs-append, AllPairs-one, slice_get-append, slice_get-behind, some_at}
use Rattle.ly_base.proofs.CellLemmas.{slice_get-set_other, slice_get-set_same}
use Rattle.ly_base.proofs.MemberLemmas.{Contains-one}
use Rattle.ly_join.proofs.ListLemmas.{member_at}
use Rattle.ly_lr0.specs.Automaton.{Lr0Automaton}
use Rattle.ly_join.specs.Grammar.{symbol_of}
use Rattle.std.proofs.Common.{length-set, map, reverse, set}
use Rattle.ly_resolve.specs.Conflicts as spec
use Rattle.ly_resolve.specs.Resolved.{Resolved}
use Rattle.ly_resolve.specs.Values.{conflict_from}
use Rattle.ly_resolve.specs.declared.conflict.Conflict.{Conflict}
use Rattle.ly_resolve.specs.declared.conflict.ConflictKind.{ConflictKind}
use Rattle.ly_resolve.specs.declared.conflict.ConflictKind.TheVariants.{ShiftReduce, ReduceReduce}
use Rattle.ly_counterexamples.specs.Examples.{IsSearchResult}
use Rattle.ly_counterexamples.specs.declared.example.Example.{Example}
use Rattle.ly_counterexamples.specs.declared.example.Example.TheVariants.{At, Merged, Unknown}
use Rattle.ly_conflicts.specs.declared.common.Key.{Key}
use Rattle.ly_conflicts.specs.declared.groups.Group.{Group}
use Rattle.ly_conflicts.specs.Groups.{IsTrueOf, answer_from, most_demands}
use Rattle.ly_conflicts.specs.Private.Grouping.{AreGroupsBelow, HasKey, IsAt, IsGroupBelow, IsJoinedBy, IsOpenedBy}
use Rattle.ly_conflicts.specs.Private.Grouping.{IsSought}
use Rattle.ly_conflicts.specs.Private.Keys.{asked_of, key_from}

-- what was answered is so
pub true_answer : (M : Lr0Automaton) (c : spec.Conflict) (example : Option Example)
    → IfSome example (IsSearchResult M c most_demands) → IsTrueOf M c (answer_from example)
true_answer M c None h = tt
true_answer M c (Some (At string)) h = (reverse (map symbol_of string.items), h)
true_answer M c (Some Merged) h = h
true_answer M c (Some Unknown) h = h

true_asked : (M : Lr0Automaton) (c : spec.Conflict) (kind : ConflictKind) (example : Option Example)
    → IfSome example (IsSearchResult M c most_demands) → IsTrueOf M c (asked_of kind example)
true_asked M c ShiftReduce example h = tt
true_asked M c ReduceReduce example h = true_answer M c example h

-- A group of which another one comes at its place, by a conflict that joins one of them.
record IsFrom (n place : ℕ) (old : List Group) (p : ℕ) (h : Group) : Type 0 where
  pub group : Group
  pub at : slice_get old p ≡ Some group
  pub on : (i : ℕ) → Contains group.conflicts.items i → Contains h.conflicts.items i
  pub back : (i : ℕ) → Contains h.conflicts.items i → Contains group.conflicts.items i ⊎ ((i ≡ n) × (p ≡ place))

-- a place of a list with one more element
pub pushed_at : {X : Type 0} (xs : List X) (x : X) (p : ℕ) (y : X) → slice_get (xs ++ x ∷ []) p ≡ Some y
    → (slice_get xs p ≡ Some y) ⊎ ((p ≡ length xs) × (x ≡ y))
pushed_at [] x zero y h = inr (refl, same_Some x y h)
pushed_at [] x (suc p) y h = absurd (cc)
pushed_at (z ∷ xs) x zero y h = inl h
pushed_at (z ∷ xs) x (suc p) y h = elim (pushed_at xs x p y h) [
  | inl before ↦ inl before
  | inr last ↦ inr (omega (arith, last.0), last.1)
]

module _ (r : Resolved) where
  -- the key of a conflict whose example was sought
  pub has_key : (n : ℕ) (x : Conflict) (example : Option Example) → IsAt r n x → IsSought r x example
      → HasKey r (key_from x example) n
  has_key n x example is sought = record {
    conflict = x;
    is = is;
    common = refl;
    answer = true_asked r.automaton (conflict_from r.automaton x) x.kind example sought;
  }

  group_more : (n : ℕ) (k : Key) (g : Group) → IsGroupBelow r n k g → IsGroupBelow r (n + 1) k g
  group_more n k g h = record {
    first = h.first;
    begins = h.begins;
    conflict = h.conflict;
    is_first = h.is_first;
    example = h.example;
    key = h.key;
    rising = h.rising;
    below = λ i has. omega (arith, h.below i has);
    keyed = h.keyed;
  }

  group_push : (n : ℕ) (k : Key) (g h : Group) → IsGroupBelow r n k g → HasKey r k n
      → h.conflicts.items ≡ g.conflicts.items ++ n ∷ [] → h.example ≡ g.example → IsGroupBelow r (n + 1) k h
  group_push n k g h was new items example = record {
    first = was.first;
    begins = subst (λ xs. slice_get xs 0 ≡ Some was.first) (sym items)
        (slice_get-append g.conflicts.items (n ∷ []) 0 was.first was.begins);
    conflict = was.conflict;
    is_first = was.is_first;
    example = subst (IsSought r was.conflict) (sym example) was.example;
    key = was.key ∙ ap (key_from was.conflict) (sym example);
    rising = subst (AllPairs (λ i j. i < j)) (sym items)
        (AllPairs-append (λ i j. i < j) g.conflicts.items (n ∷ []) was.rising (AllPairs-one (λ i j. i < j) n)
        (λ i j has one. subst (λ m. i < m) (Contains-one n j one) (was.below i has)));
    below = λ i has. elim (cases i has) [
      | inl before ↦ omega (arith, was.below i before)
      | inr last ↦ omega (arith, last)
    ];
    keyed = λ i has. elim (cases i has) [
      | inl before ↦ was.keyed i before
      | inr last ↦ subst (HasKey r k) last new
    ];
  }
    where
      cases : (i : ℕ) → Contains h.conflicts.items i → Contains g.conflicts.items i ⊎ (n ≡ i)
      cases i has = Contains-push_cases g.conflicts.items n i (subst (λ xs. Contains xs i) items has)

  group_one : (n : ℕ) (x : Conflict) (example : Option Example) (g : Group) → IsAt r n x → IsSought r x example
      → g.conflicts.items ≡ n ∷ [] → g.example ≡ example → IsGroupBelow r (n + 1) (key_from x example) g
  group_one n x example g is sought items has = record {
    first = n;
    begins = ap (λ xs. slice_get xs 0) items;
    conflict = x;
    is_first = is;
    example = subst (IsSought r x) (sym has) sought;
    key = ap (key_from x) (sym has);
    rising = subst (AllPairs (λ i j. i < j)) (sym items) (AllPairs-one (λ i j. i < j) n);
    below = λ i there. omega (arith, only i there);
    keyed = λ i there. subst (HasKey r (key_from x example)) (only i there) (has_key n x example is sought);
  }
    where
      only : (i : ℕ) → Contains g.conflicts.items i → n ≡ i
      only i there = Contains-one n i (subst (λ xs. Contains xs i) items there)

  -- no conflicts make no groups
  pub grouped_none : AreGroupsBelow r 0 [] []
  grouped_none = record {
    count = refl;
    distinct = λ p q k a b. absurd (cc);
    are = λ p k g a b. absurd (cc);
    each = λ i lt. absurd (omega (arith, lt));
    once = λ p q i g h a b. absurd (cc);
    ordered = λ p q g h lt a b. absurd (cc);
  }

  -- each group has one of the conflicts before
  some_before : (n : ℕ) (k : Key) (g : Group) → IsGroupBelow r n k g → (i : ℕ) × Contains g.conflicts.items i × (i < n)
  some_before n k g h = let has = member_at g.conflicts.items 0 h.first h.begins in (h.first, has, h.below h.first has)

  module _ (n : ℕ) (keys : List Key) (old : List Group) (was : AreGroupsBelow r n keys old) where
    key_at : (p : ℕ) (g : Group) → slice_get old p ≡ Some g → (k : Key) × (slice_get keys p ≡ Some k)
    key_at p g at = some_at keys p (omega (arith, was.count, slice_get_within old p g at))

    group_at : (p : ℕ) (k : Key) → slice_get keys p ≡ Some k → (g : Group) × (slice_get old p ≡ Some g)
    group_at p k at = some_at old p (omega (arith, was.count, slice_get_within keys p k at))

    first_below : (p : ℕ) (g : Group) → slice_get old p ≡ Some g → (i : ℕ) × Contains g.conflicts.items i × (i < n)
    first_below p g at = let k = key_at p g at in some_before n k.0 g (was.are p k.0 g k.1 at)

    within : (p i : ℕ) (g : Group) → slice_get old p ≡ Some g → Contains g.conflicts.items i → i < n
    within p i g at has = let k = key_at p g at in (was.are p k.0 g k.1 at).below i has

    -- A conflict joins a group.
    module _ (place : ℕ) (k : Key) (new : List Group) (keyed : slice_get keys place ≡ Some k) (has : HasKey r k n)
        (joins : IsJoinedBy place n old new) where
      -- what stands at a place comes of what stood there
      before : (p : ℕ) (h : Group) → slice_get new p ≡ Some h → IsFrom n place old p h
      before p h at = elim (cases_eq p place) [
        | inl same ↦
            let g = group_at place k keyed in
            let to = joins.there g.0 g.1 in
            let is : to.0 ≡ h = same_Some to.0 h (sym to.1 ∙ subst (λ q. slice_get new q ≡ Some h) same at) in
            let items : h.conflicts.items ≡ g.0.conflicts.items ++ n ∷ []
            = subst (λ x. x.conflicts.items ≡ g.0.conflicts.items ++ n ∷ []) is to.2 in
            record {
              group = g.0;
              at = subst (λ q. slice_get old q ≡ Some g.0) (sym same) g.1;
              on = λ i there. subst (λ xs. Contains xs i) (sym items)
                  (Contains-append_left g.0.conflicts.items (n ∷ []) i there);
              back = λ i there. elim (Contains-push_cases g.0.conflicts.items n i
                  (subst (λ xs. Contains xs i) items there)) [
                    | inl was ↦ inl was
                    | inr last ↦ inr (sym last, same)
                  ];
            }
        | inr other ↦ record {
          group = h;
          at = sym (joins.others p other) ∙ at;
          on = λ i there. there;
          back = λ i there. inl there;
        }
      ]

      -- and what stood at a place is in what stands there
      after : (p : ℕ) (g : Group) → slice_get old p ≡ Some g
          → (h : Group) × (slice_get new p ≡ Some h)
          × ((i : ℕ) → Contains g.conflicts.items i → Contains h.conflicts.items i)
      after p g at =
          let h = some_at new p (omega (arith, joins.count, slice_get_within old p g at)) in
          let from = before p h.0 h.1 in
          let same : from.group ≡ g = same_Some from.group g (sym from.at ∙ at) in
          (h.0, h.1, subst (λ x. (i : ℕ) → Contains x.conflicts.items i → Contains h.0.conflicts.items i) same from.on)

      pub joined : AreGroupsBelow r (n + 1) keys new
      joined = record {
        count = was.count ∙ sym joins.count;
        distinct = was.distinct;
        are = λ p l h key at. elim (cases_eq p place) [
          | inl same ↦
              let g = group_at place k keyed in
              let to = joins.there g.0 g.1 in
              let is : to.0 ≡ h = same_Some to.0 h (sym to.1 ∙ subst (λ q. slice_get new q ≡ Some h) same at) in
              let one : k ≡ l = same_Some k l (sym keyed ∙ subst (λ q. slice_get keys q ≡ Some l) same key) in
              subst (λ m. IsGroupBelow r (n + 1) m h) one
              (subst (IsGroupBelow r (n + 1) k) is
              (group_push n k g.0 to.0 (was.are place k g.0 keyed g.1) has to.2 to.3))
          | inr other ↦ group_more n l h (was.are p l h key (sym (joins.others p other) ∙ at))
        ];
        each = λ i lt. elim (cases_eq i n) [
          | inl same ↦
              let g = group_at place k keyed in
              let to = joins.there g.0 g.1 in (
                place,
                to.0,
                to.1,
                subst (λ xs. Contains xs i) (sym to.2)
                    (subst (Contains (g.0.conflicts.items ++ n ∷ [])) (sym same) (Contains-push g.0.conflicts.items n)),
              )
          | inr other ↦
              let old_one = was.each i (omega (arith, lt, other)) in
              let to = after old_one.0 old_one.1 old_one.2 in
              (old_one.0, to.0, to.1, to.2 i old_one.3)
        ];
        once = λ p q i g h a b x y.
            let f = before p g a in
            let t = before q h b in
            elim (f.back i x) [
              | inl was_in ↦ elim (t.back i y) [
                | inl also ↦ was.once p q i f.group t.group f.at t.at was_in also
                | inr last ↦ absurd (omega (arith, within p i f.group f.at was_in, last.0))
              ]
              | inr first ↦ elim (t.back i y) [
                | inl also ↦ absurd (omega (arith, within q i t.group t.at also, first.0))
                | inr last ↦ first.1 ∙ sym last.1
              ]
            ];
        ordered = λ p q g h lt a b j there.
            let f = before p g a in
            let t = before q h b in
            elim (t.back j there) [
              | inl was_in ↦
                  let e = was.ordered p q f.group t.group lt f.at t.at j was_in in
                  (e.0, f.on e.0 e.1, e.2)
              | inr last ↦
                  let e = first_below p f.group f.at in
                  (e.0, f.on e.0 e.1, omega (arith, e.2, last.0))
            ];
      }

    -- A conflict makes a group of its own.
    module _ (x : Conflict) (example : Option Example) (new : List Group) (is : IsAt r n x)
        (sought : IsSought r x example) (absent : Contains keys (key_from x example) → ⊥)
        (opens : IsOpenedBy n example old new) where
      pub opened : AreGroupsBelow r (n + 1) (keys ++ key_from x example ∷ []) new
      opened = subst (AreGroupsBelow r (n + 1) (keys ++ key_from x example ∷ [])) (sym opens.list) (record {
        count = length-append keys (key_from x example ∷ []) ∙ ap (λ m. m + 1) was.count
            ∙ sym (length-append old (opens.group ∷ []));
        distinct = λ p q k a b. elim (pushed_at keys (key_from x example) p k a) [
          | inl pa ↦ elim (pushed_at keys (key_from x example) q k b) [
            | inl qa ↦ was.distinct p q k pa qa
            | inr ql ↦ absurd (absent (subst (Contains keys) (sym ql.1) (member_at keys p k pa)))
          ]
          | inr pl ↦ elim (pushed_at keys (key_from x example) q k b) [
            | inl qa ↦ absurd (absent (subst (Contains keys) (sym pl.1) (member_at keys q k qa)))
            | inr ql ↦ pl.0 ∙ sym ql.0
          ]
        ];
        are = λ p k g a b. elim (pushed_at keys (key_from x example) p k a) [
          | inl pa ↦ elim (pushed_at old opens.group p g b) [
            | inl ga ↦ group_more n k g (was.are p k g pa ga)
            | inr gl ↦ absurd (omega (arith, gl.0, was.count, slice_get_within keys p k pa))
          ]
          | inr pl ↦ elim (pushed_at old opens.group p g b) [
            | inl ga ↦ absurd (omega (arith, pl.0, was.count, slice_get_within old p g ga))
            | inr gl ↦ subst (λ m. IsGroupBelow r (n + 1) m g) pl.1
                (subst (IsGroupBelow r (n + 1) (key_from x example)) gl.1
                (group_one n x example opens.group is sought opens.conflicts opens.has))
          ]
        ];
        each = λ i lt. elim (cases_eq i n) [
          | inl same ↦ (
            length old,
            opens.group,
            slice_get-behind old [] (length old) opens.group refl,
            subst (λ xs. Contains xs i) (sym opens.conflicts)
                (subst (Contains (n ∷ [])) (sym same) (Contains-push [] n)),
          )
          | inr other ↦
              let one = was.each i (omega (arith, lt, other)) in
              (one.0, one.1, slice_get-append old (opens.group ∷ []) one.0 one.1 one.2, one.3)
        ];
        once = λ p q i g h a b c d. elim (pushed_at old opens.group p g a) [
          | inl pa ↦ elim (pushed_at old opens.group q h b) [
            | inl qa ↦ was.once p q i g h pa qa c d
            | inr ql ↦ absurd (omega (arith, within p i g pa c, only i h ql.1 d))
          ]
          | inr pl ↦ elim (pushed_at old opens.group q h b) [
            | inl qa ↦ absurd (omega (arith, within q i h qa d, only i g pl.1 c))
            | inr ql ↦ pl.0 ∙ sym ql.0
          ]
        ];
        ordered = λ p q g h lt a b j there. elim (pushed_at old opens.group q h b) [
          | inl qa ↦ elim (pushed_at old opens.group p g a) [
            | inl pa ↦ was.ordered p q g h lt pa qa j there
            | inr pl ↦ absurd (omega (arith, lt, pl.0, slice_get_within old q h qa))
          ]
          | inr ql ↦ elim (pushed_at old opens.group p g a) [
            | inl pa ↦
                let e = first_below p g pa in
                (e.0, e.1, omega (arith, e.2, only j h ql.1 there))
            | inr pl ↦ absurd (omega (arith, lt, pl.0, ql.0))
          ]
        ];
      })
        where
          only : (i : ℕ) (g : Group) → opens.group ≡ g → Contains g.conflicts.items i → n ≡ i
          only i g same there = Contains-one n i (subst (λ xs. Contains xs i) opens.conflicts
              (subst (λ y. Contains y.conflicts.items i) (sym same) there))

-- a conflict written behind those of a group
pub set_joined : (place index : ℕ) (old : List Group) (g h : Group) → slice_get old place ≡ Some g
    → h.conflicts.items ≡ g.conflicts.items ++ index ∷ [] → h.example ≡ g.example
    → IsJoinedBy place index old (set old place h)
set_joined place index old g h at items example = record {
  count = length-set old place h;
  there = λ x is.
      let same : g ≡ x = same_Some g x (sym at ∙ is) in (
        h,
        slice_get-set_same old place h (slice_get_within old place g at),
        items ∙ ap (λ y. y.conflicts.items ++ index ∷ []) same,
        example ∙ ap (λ y. y.example) same,
      );
  others = λ q other. slice_get-set_other old place q h other;
}

-- what two clauses on a value say together
pub on_both : {T E P Q R : Type 0} (result : Result T E) → OnOk result P → OnOk result Q → (P → Q → R) → OnOk result R
on_both (Ok x) p q f = f p q
on_both (Err e) p q f = tt
