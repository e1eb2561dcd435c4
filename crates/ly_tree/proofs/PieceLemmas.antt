-- A leaf's text or a node's children, as a piece of a forest's.
use Rattle.std.proofs.Common.{◌≡◌, ℕ, zero, suc, ◌+◌, ◌≤◌, List, [], ◌∷◌, ◌++◌, length, take, drop}
use Rattle.std.proofs.Common.{refl, ap, ◌∙◌, arith}
use Rattle.std.specs.Prelude.{IsSome, None, Option, Some, option_map}
use Rattle.ly_tree.specs.Forest.{first, piece}

pub mapped_some : {A B : Type 0} (f : A → B) (o : Option A) → IsSome (option_map f o) → IsSome o
mapped_some f None h = h
mapped_some f (Some x) h = refl

first_is : {A : Type 0} (n : ℕ) (xs : List A) → n ≤ length xs → first n xs ≡ Some (take n xs)
first_is zero xs h = refl
first_is (suc n) [] h = absurd (omega arith)
first_is (suc n) (x ∷ xs) h = ap (option_map (λ front. x ∷ front)) (first_is n xs (omega arith))

-- where there are enough the piece is there
pub piece_is : {A : Type 0} (s n : ℕ) (xs : List A) → s + n ≤ length xs → piece s n xs ≡ Some (take n (drop s xs))
piece_is zero n xs h = first_is n xs (omega arith)
piece_is (suc s) n [] h = absurd (omega arith)
piece_is (suc s) n (x ∷ xs) h = piece_is s n xs (omega arith)

first_inside : {A : Type 0} (n : ℕ) (xs : List A) → IsSome (first n xs) → n ≤ length xs
first_inside zero xs h = omega arith
first_inside (suc n) [] h = absurd cc
first_inside (suc n) (x ∷ xs) h =
    omega (arith, first_inside n xs (mapped_some (λ front. x ∷ front) (first n xs) h))

-- and nowhere else
pub piece_inside : {A : Type 0} (s n : ℕ) (xs : List A) → IsSome (piece s n xs) → s + n ≤ length xs
piece_inside zero n xs h = omega (arith, first_inside n xs h)
piece_inside (suc s) n [] h = absurd cc
piece_inside (suc s) n (x ∷ xs) h = omega (arith, piece_inside s n xs h)

first-append : {A : Type 0} (n : ℕ) (xs ys zs : List A) → first n xs ≡ Some zs → first n (xs ++ ys) ≡ Some zs
first-append zero xs ys zs e = e
first-append (suc n) [] ys zs e = cc
first-append {A = A} (suc n) (x ∷ xs) ys zs e = under (first n xs) (first-append n xs ys) e
  where
    under : (o : Option (List A)) → ((front : List A) → o ≡ Some front → first n (xs ++ ys) ≡ Some front)
        → option_map (λ front. x ∷ front) o ≡ Some zs
        → option_map (λ front. x ∷ front) (first n (xs ++ ys)) ≡ Some zs
    under None h e = cc
    under (Some front) h e = ap (option_map (λ front. x ∷ front)) (h front refl) ∙ e

-- it stays when more come behind
pub piece-append : {A : Type 0} (s n : ℕ) (xs ys zs : List A) → piece s n xs ≡ Some zs → piece s n (xs ++ ys) ≡ Some zs
piece-append zero n xs ys zs e = first-append n xs ys zs e
piece-append (suc s) n [] ys zs e = cc
piece-append (suc s) n (x ∷ xs) ys zs e = piece-append s n xs ys zs e

first_all : {A : Type 0} (xs : List A) → first (length xs) xs ≡ Some xs
first_all [] = refl
first_all (x ∷ xs) = ap (option_map (λ front. x ∷ front)) (first_all xs)

-- what came last
pub piece_end : {A : Type 0} (xs ys : List A) → piece (length xs) (length ys) (xs ++ ys) ≡ Some ys
piece_end [] ys = first_all ys
piece_end (x ∷ xs) ys = piece_end xs ys
