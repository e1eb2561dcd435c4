-- Pairs of numbers, as keys.
use Rattle.std.proofs.Common.{◌≡◌, ℕ, refl, true}
use Rattle.std.specs.Ordering.{is_eq, nat_cmp}
use Rattle.std.specs.declared.cmp.Ordering.{Ordering}
use Rattle.std.specs.declared.cmp.Ordering.TheVariants.{Equal, Greater, Less}
use Rattle.std.proofs.lemmas.Map.Lookups.{exact_pairs, exact_unsigned}
use Rattle.ly_loop.specs.Private.Pairs.{pair_cmp}

equal_from : (o : Ordering) → is_eq o ≡ true → o ≡ Equal
equal_from Less is = absurd (cc)
equal_from Equal is = refl
equal_from Greater is = absurd (cc)

-- keys that are equal in order are the same
pub same_pair : (x y : ℕ × ℕ) → is_eq (pair_cmp x y) ≡ true → x ≡ y
same_pair x y is = exact_pairs nat_cmp nat_cmp exact_unsigned exact_unsigned x y (equal_from (pair_cmp x y) is)
