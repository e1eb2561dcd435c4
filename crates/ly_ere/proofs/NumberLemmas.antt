-- The number that decimal digits spell.
use Rattle.std.proofs.Common.{◌≡◌, ℕ, zero, suc, ◌+◌, ◌-◌, ◌*◌, ◌≤◌, ◌<◌, List, [], ◌∷◌, ◌++◌, length, take, drop}
use Rattle.std.proofs.Common.{get_or}
use Rattle.std.proofs.Common.{arith, ap, refl, IsTrue, take-append-drop}
use Rattle.std.proofs.lemmas.Bool.Decides.{nat_tests}
use Rattle.ly_base.specs.Escapes.{AllPass, digit, number, number_from}
use Rattle.ly_base.specs.Language.{is_decimal}
use Rattle.ly_base.proofs.EscapeLemmas.{number_grows}

-- a decimal digit, and what it counts
decimal_digit : (b : ℕ) → IsTrue (is_decimal b) → (48 ≤ b) × (digit b ≡ b - 48)
decimal_digit b h = (grind (arith, nat_tests), grind (arith, nat_tests))

pub decimal_at : (t : List ℕ) (k : ℕ) → AllPass is_decimal t → k < length t
    → (48 ≤ get_or t k 0) × (digit (get_or t k 0) ≡ get_or t k 0 - 48)
decimal_at [] k a l = absurd (omega arith)
decimal_at (b ∷ t) zero a l = decimal_digit b a.0
decimal_at (b ∷ t) (suc k) a l = decimal_at t k a.1 (omega arith)

number_behind : (n : ℕ) (ds es : List ℕ) → number_from 10 n (ds ++ es) ≡ number_from 10 (number_from 10 n ds) es
number_behind n [] es = refl
number_behind n (d ∷ ds) es = number_behind (n * 10 + digit d) ds es

pub number_whole : (k : ℕ) (t : List ℕ) → number 10 (take k t) ≤ number 10 t
number_whole k t = omega (
  arith,
  ap (number 10) (take-append-drop k t),
  number_behind 0 (take k t) (drop k t),
  number_grows (number 10 (take k t)) (drop k t),
)

-- digits that spell more than 255 are no number of times
