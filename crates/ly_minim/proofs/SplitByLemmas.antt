-- Blocks that are split by keys: first the states with one of the keys are marked, then the blocks with marked states
-- are split.
use Rattle.std.proofs.Common.{◌≡◌, ◌≢◌, ◌⊎◌, ◌↔◌, ◌<◌, ◌+◌, ◌∙◌, [], ℕ, List, length, Option, Some}
use Rattle.std.proofs.Common.{sym, ap, subst, arith, inl, inr, get_or}
use Rattle.std.proofs.lemmas.Bool.{cases_eq, cases_lt}
use Rattle.std.proofs.lemmas.List.{get_or_default}
use Rattle.ly_minim.specs.Private.Partition.{AreClear, AreSplitBy, AreTouched, ExactlyOne, HasKeyBelow, IsClear}
use Rattle.ly_minim.specs.Private.Partition.{IsFiner, IsKeyed, IsMarked, IsPartition, IsSplit, home}
use Rattle.ly_minim.specs.declared.partition.Partition.{Partition}

-- no state of a clear block is marked
pub not_marked : (p : Partition) → IsPartition p → (s : ℕ) → s < length p.of.items → IsClear p (home p s)
    → IsMarked p s → ⊥
not_marked p laid s l clear is = omega (arith, is, clear, laid.begins s l)

pub touched_none : (p : Partition) → AreClear p → AreTouched p 0 []
touched_none p clear = record {
  blocks = λ i l. absurd (omega (arith, l));
  all = λ b l not. absurd (not (clear b l));
}

-- the states with one of the first keys are marked
pub marks_none : (p : Partition) → IsPartition p → AreClear p → (key : ℕ → Option ℕ) (keys : List ℕ) (s : ℕ)
    → s < length p.of.items → (IsMarked p s ↔ HasKeyBelow key keys 0 s)
marks_none p laid clear key keys s l = (
  λ is. absurd (not_marked p laid s l (clear (home p s) (laid.within s l)) is),
  λ has. absurd (omega (arith, has.1)),
)

pub marks_more : (mid new : Partition) (key : ℕ → Option ℕ) (keys : List ℕ) (i k s : ℕ)
    → (IsMarked mid s ↔ HasKeyBelow key keys i s) → (IsMarked new s ↔ (IsMarked mid s ⊎ (key s ≡ Some k)))
    → k ≡ get_or keys i 0 → (IsMarked new s ↔ HasKeyBelow key keys (i + 1) s)
marks_more mid new key keys i k s so more at = (
  λ is. elim (more.0 is) [
    | inl was ↦ let has = so.0 was in (has.0, omega (arith, has.1), has.2)
    | inr e ↦ (i, omega arith, e ∙ ap (λ x. Some x) at)
  ],
  λ has. elim (cases_lt has.0 i) [
    | inl before ↦ more.1 (inl (so.1 (has.0, before, has.2)))
    | inr past ↦ let this : has.0 ≡ i = omega (arith, past, has.1) in
        more.1 (inr (has.2 ∙ ap (λ j. Some (get_or keys j 0)) this ∙ ap (λ x. Some x) (sym at)))
  ],
)

pub keyed_of : (key : ℕ → Option ℕ) (keys : List ℕ) (count s : ℕ) → count ≡ length keys
    → HasKeyBelow key keys count s → IsKeyed key keys s
keyed_of key keys count s all has = let l : has.0 < length keys = omega (arith, has.1, all) in (
  get_or keys has.0 0,
  (has.0, l, get_or_default keys has.0 (get_or keys has.0 0) 0 l),
  has.2,
)

pub of_keyed : (key : ℕ → Option ℕ) (keys : List ℕ) (count s : ℕ) → count ≡ length keys → IsKeyed key keys s
    → HasKeyBelow key keys count s
of_keyed key keys count s all has = let at = has.1 in (
  at.0,
  omega (arith, at.1, all),
  has.2 ∙ ap (λ x. Some x) (sym at.2 ∙ get_or_default keys at.0 has.0 0 at.1),
)

-- The blocks that are clear have been split by the keys; in the others the states with one of the keys are marked.
pub record IsSplitting (key : ℕ → Option ℕ) (keys : List ℕ) (start now : Partition) : Type 0 where
  pub settled : (s : ℕ) → s < length start.of.items
      → IsClear now (home now s) ⊎ (IsMarked now s ↔ IsKeyed key keys s)
  pub apart : AreSplitBy key keys start now

-- one of two facts, said in other words
exactly : (P Q R S : Type 0) → (P ↔ R) → (Q ↔ S) → ExactlyOne P Q → ExactlyOne R S
exactly P Q R S a b (inl x) = inl (a.0 x.0, λ s. x.1 (b.1 s))
exactly P Q R S a b (inr x) = inr (λ r. x.0 (a.1 r), b.0 x.1)

module _ (start old new : Partition) (b : ℕ) (laid : IsPartition old)
    (count : length old.of.items ≡ length start.of.items)
    (split : IsSplit b old new) where
  here : (s : ℕ) → s < length start.of.items → s < length old.of.items
  here s l = omega (arith, l, count)

  pub finer_more : IsFiner start old → IsFiner start new
  finer_more finer s t l m e = finer s t l m (split.finer s t (here s l) (here t m) e)

  place_same : (s : ℕ) → get_or new.place.items s 0 ≡ get_or old.place.items s 0
  place_same s = ap (λ xs. get_or xs s 0) split.place

  module _ (key : ℕ → Option ℕ) (keys : List ℕ) (so : IsSplitting key keys start old) where
    settled_other : (s : ℕ) → s < length start.of.items → home old s ≢ b
        → IsClear new (home new s) ⊎ (IsMarked new s ↔ IsKeyed key keys s)
    settled_other s l ne =
        let within = laid.within s (here s l) in
        let same = split.kept s (here s l) ne in
        let first = ap (λ j. get_or new.first.items j 0) same ∙ split.same_first (home old s) within ne in
        let middle = ap (λ j. get_or new.middle.items j 0) same ∙ split.same_middle (home old s) within ne in
        elim (so.settled s l) [
          | inl clear ↦ inl (middle ∙ clear ∙ sym first)
          | inr iff ↦ inr (
            λ is. iff.0 (omega (arith, is, middle, place_same s)),
            λ has. let was = iff.1 has in omega (arith, was, middle, place_same s),
          )
        ]

    settled_more : (s : ℕ) → s < length start.of.items
        → IsClear new (home new s) ⊎ (IsMarked new s ↔ IsKeyed key keys s)
    settled_more s l = elim (cases_eq (home old s) b) [
      | inl this ↦ inl (split.clear (home new s) (split.laid.within s (omega (arith, l, count, split.count)))
          (split.moved s (here s l) this))
      | inr ne ↦ settled_other s l ne
    ]

    -- a block with a marked state isn't clear
    by_keys : (s t : ℕ) → s < length start.of.items → t < length start.of.items → home old s ≡ home old t
        → ExactlyOne (IsMarked old s) (IsMarked old t) → ExactlyOne (IsKeyed key keys s) (IsKeyed key keys t)
    by_keys s t l m e one = elim (so.settled s l) [
      | inl clear ↦ absurd (none clear)
      | inr left ↦ elim (so.settled t m) [
        | inl clear ↦ absurd (none (subst (λ j. IsClear old j) (sym e) clear))
        | inr right ↦ exactly (IsMarked old s) (IsMarked old t) (IsKeyed key keys s) (IsKeyed key keys t) left right one
      ]
    ]
      where
        none : IsClear old (home old s) → ⊥
        none clear = elim one [
          | inl x ↦ not_marked old laid s (here s l) clear x.0
          | inr x ↦ not_marked old laid t (here t m) (subst (λ j. IsClear old j) e clear) x.1
        ]

    pub splitting_more : IsSplitting key keys start new
    splitting_more = record {
      settled = settled_more;
      apart = λ s t l m e ne. elim (cases_eq (home old s) (home old t)) [
        | inl same ↦ by_keys s t l m same (split.apart s t (here s l) (here t m) same ne).1
        | inr other ↦ so.apart s t l m e other
      ];
    }

  pub touched_next : (i : ℕ) (touched : List ℕ) → get_or touched i 0 ≡ b → AreTouched old i touched
      → AreTouched new (i + 1) touched
  touched_next i touched at so = record {
    blocks = λ j l. let more = split.more in omega (arith, so.blocks j l);
    all = λ j l not. elim (cases_lt j (length old.first.items)) [
      | inr past ↦ absurd (not (split.clear j l (inr past)))
      | inl before ↦ elim (cases_eq j b) [
        | inl this ↦ absurd (not (split.clear j l (inl this)))
        | inr ne ↦ let was = so.all j before
            (λ clear. not (split.same_middle j before ne ∙ clear ∙ sym (split.same_first j before ne))) in (
              was.0,
              elim (cases_lt i was.0) [
                | inl after ↦ omega (arith, after)
                | inr le ↦ let same : was.0 ≡ i = omega (arith, le, was.1) in
                    absurd (ne (sym was.3 ∙ ap (λ x. get_or touched x 0) same ∙ at))
              ],
              was.2,
              was.3,
            )
      ]
    ];
  }

-- after the last one all blocks are clear
pub clear_all : (p : Partition) (i : ℕ) (touched : List ℕ) → i ≡ length touched → AreTouched p i touched → AreClear p
clear_all p i touched end so b l = elim (cases_eq (get_or p.middle.items b 0) (get_or p.first.items b 0)) [
  | inl same ↦ same
  | inr ne ↦ let was = so.all b l ne in absurd (omega (arith, was.1, was.2, end))
]
