-- The terminals that a parser's tables would read, or accept if it is the end, in place of a token.
use Rattle.std.specs.Prelude.{◌≡◌, ◌↔◌, ℕ, ◌<◌, List, ◌∷◌, AllPairs, Contains}
use Rattle.ly_pack.specs.Machine.{Machine}
use Rattle.ly_pack.specs.Steady.{accepts, ends, goes_on, move, reads}

-- From the stack of states, its top first and the bottom last, the run on the terminal ends because it is read, or
-- accepted with a state above the bottom. A run that ends otherwise, including by faulty tables, has none of these
-- forms.
pub data IsExpected (m : Machine) (t : ℕ) : List ℕ → Type 0 where
  read : {stack : List ℕ} {state : ℕ} → move m t stack ≡ ends (reads state) → IsExpected m t stack
  accepted : {top below : ℕ} {rest : List ℕ} → move m t (top ∷ below ∷ rest) ≡ ends accepts
      → IsExpected m t (top ∷ below ∷ rest)
  onward : {stack next : List ℕ} → move m t stack ≡ goes_on next → IsExpected m t next → IsExpected m t stack

-- The list consists of exactly these terminals, in rising order.
pub record AreExpected (m : Machine) (stack ts : List ℕ) : Type 0 where
  pub ordered : AllPairs (λ x y. x < y) ts
  pub are : (t : ℕ) → Contains ts t ↔ ((t < m.terminals) × IsExpected m t stack)
