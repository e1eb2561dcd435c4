-- What a test of the front of a text says.
use Rattle.std.proofs.Common.{◌≡◌, ℕ, zero, suc, ◌<◌, ◌≤◌, List, [], ◌∷◌, length, drop, get_or, refl, arith, true}
use Rattle.std.proofs.Common.{false, nat_eq}
use Rattle.std.proofs.lemmas.Bool.{eqb-true}
use Rattle.ly_base.proofs.EscapeLemmas.{byte_at}
use Rattle.ly_ere.specs.Elements.{stands_at}

pub at_is : (t : List ℕ) (n b : ℕ) → n < length t → stands_at t n b ≡ nat_eq (get_or t n 0) b
at_is [] n b l = absurd (omega arith)
at_is (c ∷ t) zero b l = refl
at_is (c ∷ t) (suc n) b l = at_is t n b (omega arith)

pub at_none : (t : List ℕ) (n b : ℕ) → length t ≤ n → stands_at t n b ≡ false
at_none [] n b l = refl
at_none (c ∷ t) zero b l = absurd (omega arith)
at_none (c ∷ t) (suc n) b l = at_none t n b (omega arith)

-- the byte is there
pub stands : (t : List ℕ) (n b : ℕ) → stands_at t n b ≡ true → (n < length t) × (get_or t n 0 ≡ b)
stands [] n b e = absurd (cc)
stands (c ∷ t) zero b e = (omega arith, eqb-true c b e)
stands (c ∷ t) (suc n) b e = let k = stands t n b e in (omega (arith, k.0), k.1)

-- a text that begins with the byte
pub first_is : (t : List ℕ) (b : ℕ) → stands_at t 0 b ≡ true → t ≡ b ∷ drop 1 t
first_is t b e = let k = stands t 0 b e in byte_at t 0 b k.0 k.1

-- what stands behind the front
pub stands_drop : (t : List ℕ) (n b : ℕ) → stands_at t n b ≡ stands_at (drop n t) 0 b
stands_drop [] zero b = refl
stands_drop [] (suc n) b = refl
stands_drop (c ∷ t) zero b = refl
stands_drop (c ∷ t) (suc n) b = stands_drop t n b
