-- The bytes of ranges.
use Rattle.std.proofs.Common.{◌≡◌, ℕ, List, [], ◌∷◌, ◌++◌, refl, arith, nat_eq, nat_le}
use Rattle.std.specs.Prelude.{◌||◌, ◌&&◌}
use Rattle.std.proofs.Math.Bool.{or-false, or_assoc, or_comm}
use Rattle.std.proofs.lemmas.Bool.Decides.{nat_tests}
use Rattle.ly_base.specs.declared.byte_set.ByteSet.{ByteSet}
use Rattle.ly_base.specs.ByteSet.{has}
use Rattle.ly_ere.specs.Private.Brackets.{IsAdded}
use Rattle.ly_ere.specs.Elements.{in_ranges}

-- the bytes of two lists of ranges
pub ranges_append : (rs ss : List (ℕ × ℕ)) (b : ℕ) → in_ranges (rs ++ ss) b ≡ (in_ranges rs b || in_ranges ss b)
ranges_append [] ss b = refl
ranges_append (r ∷ rs) ss b = rw (ranges_append rs ss b, or_assoc) refl

-- one range is added
pub added_range : (old new : ByteSet) (low high : ℕ)
    → ((b : ℕ) → has new b ≡ (nat_le low b && nat_le b high || has old b)) → IsAdded old new ((low, high) ∷ [])
added_range old new low high h b = rw (h b, or-false (nat_le low b && nat_le b high)) refl

-- one byte is added
pub added_byte : (old new : ByteSet) (c : ℕ) → ((b : ℕ) → has new b ≡ (nat_eq b c || has old b))
    → IsAdded old new ((c, c) ∷ [])
added_byte old new c h = added_range old new c c (λ b. rw (← same b) (h b))
  where
    same : (b : ℕ) → nat_eq b c ≡ (nat_le c b && nat_le b c)
    same b = grind (arith, nat_tests)

-- more ranges are added
pub added_more : (old new : ByteSet) (rs ss : List (ℕ × ℕ)) → ((b : ℕ) → has old b ≡ in_ranges rs b)
    → IsAdded old new ss → (b : ℕ) → has new b ≡ in_ranges (rs ++ ss) b
added_more old new rs ss h k b = rw (k b, h b, ranges_append rs ss b) (or_comm (in_ranges ss b) (in_ranges rs b))

-- one range is added behind others
pub added_push : (old mid new : ByteSet) (rs : List (ℕ × ℕ)) (r : ℕ × ℕ) → IsAdded old mid rs
    → ((b : ℕ) → has new b ≡ (nat_le r.0 b && nat_le b r.1 || has mid b)) → IsAdded old new (rs ++ r ∷ [])
added_push old mid new rs r h k b = rw (
  k b,
  h b,
  ranges_append rs (r ∷ []) b,
  or-false (nat_le r.0 b && nat_le b r.1),
  or_comm (in_ranges rs b) (nat_le r.0 b && nat_le b r.1),
  or_assoc,
) refl
