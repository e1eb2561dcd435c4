-- Partitions that are refined by halves.
use Rattle.std.proofs.Common.{◌≡◌, ◌≢◌, ◌<◌, ◌∙◌, ℕ, List, length, Option, Some, None}
use Rattle.std.proofs.Common.{sym, ap, refl, arith, inl, inr, get_or}
use Rattle.std.specs.Prelude.{option_map}
use Rattle.std.proofs.lemmas.Bool.{cases_eq}
use Rattle.ly_subset.specs.Automaton.{Automaton, IsAutomaton, IsTrim, next_by_class}
use Rattle.ly_minim.specs.Private.Blocks.{AreApart, AreBlocks}
use Rattle.ly_minim.specs.Private.Halves.{IsRefinedBy}
use Rattle.ly_minim.specs.Private.Partition.{AreSplitBy, ExactlyOne, IsFiner, IsKeyed, IsPartition, IsUnion, home}
use Rattle.ly_minim.specs.Private.Signature.{block_after, block_of}
use Rattle.ly_minim.specs.declared.partition.Partition.{Partition}
use Rattle.ly_minim.proofs.BlockLemmas.{by_class}
use Rattle.ly_minim.proofs.PartitionLemmas.{few}

-- states with one key aren't taken apart
keyed_alike : (key : ℕ → Option ℕ) (keys : List ℕ) (s t : ℕ) → key s ≡ key t
    → ExactlyOne (IsKeyed key keys s) (IsKeyed key keys t) → ⊥
keyed_alike key keys s t e (inl x) = x.1 (x.0.0, x.0.1, sym e ∙ x.0.2)
keyed_alike key keys s t e (inr x) = x.0 (x.1.0, x.1.1, e ∙ x.1.2)

-- what is split by blocks is in different ones
pub within_more : (n : ℕ) (start keys : List ℕ) (old new : Partition) → length old.of.items ≡ n
    → IsRefinedBy n old.of.items start → AreSplitBy (λ s. Some (block_of start s)) keys old new
    → IsRefinedBy n new.of.items start
within_more n start keys old new count within split s t l m ne = elim (cases_eq (home old s) (home old t)) [
  | inr other ↦ within s t l m other
  | inl same ↦ λ e. keyed_alike (λ u. Some (block_of start u)) keys s t (ap (λ x. Some x) e)
      (split s t (omega (arith, l, count)) (omega (arith, m, count)) same ne)
]

-- the partition as blocks
pub blocks_from : (p : Partition) → IsPartition p → AreBlocks (length p.of.items) p.of.items (length p.first.items)
blocks_from p laid = record {
  states = refl;
  within = laid.within;
  used = λ b l. let some = laid.some b l in let inside = laid.inside b l in
      let at = get_or p.first.items b 0 in
      (get_or p.states.items at 0, laid.state_within at (omega arith), laid.block b at l (omega arith) some);
  few = few (length p.of.items) p.states.items p.place.items p.of.items p.first.items p.middle.items p.end.items laid;
  fits = laid.fits;
}

-- lists of whole blocks stay so where blocks are split
pub union_finer : (old new : Partition) (xs : List ℕ) → length new.of.items ≡ length old.of.items → IsFiner old new
    → IsUnion old.of.items xs → IsUnion new.of.items xs
union_finer old new xs count finer so = record {
  inside = λ s has. omega (arith, so.inside s has, count);
  whole = λ s t l has e. let here : t < length old.of.items = omega (arith, l, count) in
      so.whole s t here has (finer t s here (so.inside s has) e);
}

module _ (A : Automaton) (is : IsAutomaton A) (trim : IsTrim A) (c : ℕ) (less : c < A.classes) (old new : Partition)
    (count : length old.of.items ≡ length A.rules) (half : List ℕ) (union : IsUnion old.of.items half)
    (apart : AreApart A old.of.items) where
  -- one class leads into the half and the other doesn't
  off_half : (s t : ℕ) → IsKeyed (λ u. next_by_class A u c) half s → (IsKeyed (λ u. next_by_class A u c) half t → ⊥)
      → block_after A old.of.items s c ≢ block_after A old.of.items t c
  off_half s t has off e = go (next_by_class A t c) refl
    where
      from : block_after A old.of.items s c ≡ Some (home old has.0)
      from = ap (option_map (block_of old.of.items)) has.2

      go : (o : Option ℕ) → next_by_class A t c ≡ o → ⊥
      go None n = let no : Some (home old has.0) ≡ None = sym from ∙ e ∙ ap (option_map (block_of old.of.items)) n in cc
      go (Some y) n = let both : Some (home old has.0) ≡ Some (home old y)
          = sym from ∙ e ∙ ap (option_map (block_of old.of.items)) n in
          let same : home old y ≡ home old has.0 = cc in
          off (y, union.whole has.0 y (omega (arith, is.within _ y n, count)) has.1 same, n)

  -- what a half takes apart is told apart
  pub apart_split : AreSplitBy (λ u. next_by_class A u c) half old new → AreApart A new.of.items
  apart_split split s t l m ne = elim (cases_eq (home old s) (home old t)) [
    | inr other ↦ apart s t l m other
    | inl same ↦ by_class A is trim old.of.items apart s t c less (elim (split s t (omega (arith, l, count))
        (omega (arith, m, count)) same ne) [
          | inl x ↦ off_half s t x.0 x.1
          | inr x ↦ λ e. off_half t s x.1 x.0 (sym e)
        ])
  ]
