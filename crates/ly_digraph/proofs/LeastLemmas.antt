-- A walk that is over has found the least sets.
use Rattle.std.proofs.Common.{◌≡◌, ◌≢◌, ◌∙◌, ◌<◌, ℕ, List, length, get_or, sym, ap, subst, refl, arith, All}
use Rattle.std.proofs.lemmas.List.{get_or_default}
use Rattle.std.proofs.lemmas.List.Elements.{All-get_or}
use Rattle.ly_sets.specs.NumberSet.{NumberSet, Member}
use Rattle.ly_sets.specs.SetMatrix.{row}
use Rattle.ly_digraph.specs.Digraph.{Digraph, Reaches, source, target, IsInside}
use Rattle.ly_digraph.specs.Digraph.Reaches.{here, along}
use Rattle.ly_digraph.specs.Least.{GrowsAlong, IsLeast, IsBetween}
use Rattle.ly_digraph.specs.Walk.{place, IsWalk}
use Rattle.ly_digraph.specs.declared.walk.Place.{Place}
use Rattle.ly_digraph.specs.declared.walk.Place.TheVariants.{New, Open, Done}
use Rattle.ly_digraph.specs.declared.walk.Frame.{Frame}
use Rattle.ly_digraph.proofs.WalkLemmas.{begin-past}

-- a solution holds what the nodes hold that it reaches
pub along_way : {g : Digraph} {other : List NumberSet} {i j : ℕ} → GrowsAlong g other → Reaches g i j → (n : ℕ)
    → Member (row other j) n → Member (row other i) n
along_way grows (here i) n h = h
along_way grows (along i j k e way) n h = grows.grows _ _ n e (along_way grows way n h)

module _ {g : Digraph} {sets : List NumberSet} {cs : List ℕ} {ps : List Place} {ns : List ℕ} {fs : List Frame}
    (at : IsWalk g sets cs ps ns fs) (over : length fs ≡ 0) (seen : (x : ℕ) → x < g.nodes → place ps x ≢ New)
    (inside : All (IsInside g.nodes) g.edges) where
  no_pending : length ns ≡ 0
  no_pending = omega (arith, at.path.first, begin-past fs (length ns) 0 (omega arith))

  is_done : (x : ℕ) → x < g.nodes → place ps x ≡ Done
  is_done x lt = by (place ps x) refl
    where
      by : (v : Place) → place ps x ≡ v → place ps x ≡ Done
      by New e = absurd (seen x lt e)
      by (Open k) e = absurd (let below : k < length ns = (at.marked.opened x k e).0 in omega (arith, no_pending))
      by Done e = e

  grown : GrowsAlong g sets
  grown = record { grows = λ i j n e h. by i j n e.0 e.1 e.2 h }
    where
      by : (i j n k : ℕ) → k < length g.edges → get_or g.edges k (i, j) ≡ (i, j) → Member (row sets j) n
          → Member (row sets i) n
      by i j n k lt is h =
          let pair : get_or g.edges k (0, 0) ≡ (i, j) = get_or_default g.edges k (0, 0) (i, j) lt ∙ is in
          let from : source g k ≡ i = ap (λ p. p.0) pair in
          let to : target g k ≡ j = ap (λ p. p.1) pair in
          let edge =
          at.marked.done k lt (is_done (source g k) (All-get_or (IsInside g.nodes) g.edges k (0, 0) lt inside).0) in
          subst (λ x. Member (row sets x) n) from (edge.1.within n (subst (λ x. Member (row sets x) n) (sym to) h))

  pub least_of : (given : List NumberSet) → IsBetween g given sets → IsLeast g given sets
  least_of given between = record {
    holds = between.kept;
    grows = grown;
    least = λ other holds grows. record {
      holds = λ i n h. (let from = between.reached i n h
          in along_way grows from.1 n (holds.holds from.0 n from.2));
    };
  }
