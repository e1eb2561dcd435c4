-- How much of the walk is left.
use Rattle.std.proofs.Common.{◌≡◌, ◌∙◌, ◌<◌, ◌≤◌, ◌+◌, ◌-◌, ℕ, zero, suc, List, [], ◌∷◌, length, get_or, set, ap, arith}
use Rattle.std.proofs.Common.{inl, inr, nat_lt, if◌then◌else◌, sum_by}
use Rattle.std.proofs.lemmas.Bool.{cases_eq}
use Rattle.std.proofs.lemmas.List.{get_or-set_same, get_or-set_other}
use Rattle.std.proofs.lemmas.List.Sums.{sum_by-set}
use Rattle.ly_digraph.specs.Digraph.{Digraph, source}
use Rattle.ly_digraph.specs.Walk.{place}
use Rattle.ly_digraph.specs.Search.{waiting_from}
use Rattle.ly_digraph.specs.declared.walk.Place.{Place}
use Rattle.ly_digraph.specs.declared.walk.Place.TheVariants.{New}

one_at_most : (a b : ℕ) → (if nat_lt a b then 1 else 0) ≤ 1
one_at_most a b = grind arith

pub waiting_from-le : (e : ℕ) (edges : List (ℕ × ℕ)) (cs : List ℕ) → waiting_from e edges cs ≤ length edges
waiting_from-le e [] cs = omega arith
waiting_from-le e (x ∷ edges) cs = omega (arith, one_at_most e (get_or cs x.0 0), waiting_from-le (e + 1) edges cs)

one_lower : (e a b : ℕ) → a ≤ b → (if nat_lt e a then 1 else 0) ≤ (if nat_lt e b then 1 else 0)
one_lower e a b le = grind arith

one_falls : (e a b : ℕ) → a ≤ e → e < b → (if nat_lt e a then 1 else 0) < (if nat_lt e b then 1 else 0)
one_falls e a b le lt = grind arith

waiting_lower : (e : ℕ) (edges : List (ℕ × ℕ)) (cs cs' : List ℕ) → ((x : ℕ) → get_or cs' x 0 ≤ get_or cs x 0)
    → waiting_from e edges cs' ≤ waiting_from e edges cs
waiting_lower e [] cs cs' le = omega arith
waiting_lower e (x ∷ edges) cs cs' le
    = omega (arith, one_lower e (get_or cs' x.0 0) (get_or cs x.0 0) (le x.0), waiting_lower (e + 1) edges cs cs' le)

-- an edge that was looked at
waiting_falls : (e : ℕ) (edges : List (ℕ × ℕ)) (cs cs' : List ℕ) → ((x : ℕ) → get_or cs' x 0 ≤ get_or cs x 0) → (k : ℕ)
    → k < length edges
    → get_or cs' (get_or edges k (0, 0)).0 0 ≤ e + k → e + k < get_or cs (get_or edges k (0, 0)).0 0
    → waiting_from e edges cs' < waiting_from e edges cs
waiting_falls e [] cs cs' le k lt done waits = absurd (omega arith)
waiting_falls e (x ∷ edges) cs cs' le zero lt done waits
    = omega (
      arith,
      one_falls e (get_or cs' x.0 0) (get_or cs x.0 0) (omega arith) (omega arith),
      waiting_lower (e + 1) edges cs cs' le,
    )
waiting_falls e (x ∷ edges) cs cs' le (suc k) lt done waits =
    omega (
      arith,
      one_lower e (get_or cs' x.0 0) (get_or cs x.0 0) (le x.0),
      waiting_falls (e + 1) edges cs cs' le k
          (omega arith) (omega arith) (omega arith),
    )

pub waiting-advanced : (g : Digraph) (cs : List ℕ) (x to : ℕ) → x < length cs → 0 < get_or cs x 0
    → get_or cs x 0 ≤ length g.edges → source g (get_or cs x 0 - 1) ≡ x → to ≤ get_or cs x 0 - 1
    → waiting_from 0 g.edges (set cs x to) < waiting_from 0 g.edges cs
waiting-advanced g cs x to inside some within is le =
    let at : get_or (set cs x to) x 0 ≡ to = get_or-set_same cs x to 0 inside in
    waiting_falls 0 g.edges cs (set cs x to)
    (λ y. elim (cases_eq y x) [
      | inl same ↦ (let e : get_or (set cs x to) y 0 ≡ to = ap (λ z. get_or (set cs x to) z 0) same ∙ at
          in let f : get_or cs y 0 ≡ get_or cs x 0 = ap (λ z. get_or cs z 0) same in omega arith)
      | inr ne ↦ (let e : get_or (set cs x to) y 0 ≡ get_or cs y 0 = get_or-set_other cs x y to 0 ne in omega arith)
    ])
    (get_or cs x 0 - 1) (omega arith)
    (let e : get_or (set cs x to) (source g (get_or cs x 0 - 1)) 0 ≡ to = ap (λ z. get_or (set cs x to) z 0) is ∙ at
    in omega arith)
    (let e : get_or cs (source g (get_or cs x 0 - 1)) 0 ≡ get_or cs x 0 = ap (λ z. get_or cs z 0) is in omega arith)

-- ---- places

-- a sum over the places after one changed
pub sum_places-set : (f : Place → ℕ) (ps : List Place) (x : ℕ) (v : Place) → x < length ps
    → sum_by f (set ps x v) + f (place ps x) ≡ sum_by f ps + f v
sum_places-set f ps x v lt = sum_by-set f ps x v New lt
