use Rattle.std.proofs.Common.{◌≡◌, ◌≢◌, ◌<◌, ℕ, vec_len}
use Rattle.ly_digraph.specs.Walk.{place}
use Rattle.ly_digraph.specs.Search.{Continues}
use Rattle.ly_digraph.specs.declared.walk.Place.TheVariants.{New}
use Rattle.ly_digraph.proofs.solution.least.Given as goal

-- the walk went on from where it began, and the nodes before this one were seen
abbrev pub invariant-loop-root : goal.invariant-loop-root
invariant-loop-root l = record {
  on : Continues l.graph l.initial.sets l.initial.walk l.sets l.walk;
  over : vec_len l.walk.path ≡ 0;
  seen : (x : ℕ) → x < l.root → place l.walk.places.items x ≢ New;
}
