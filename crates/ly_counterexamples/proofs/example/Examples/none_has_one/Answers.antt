use Rattle.std.proofs.Common.{◌≡◌, ◌≤◌, inl, inr, arith, subst, slice_index_or}
use Rattle.std.proofs.Math.Nat.{eq-or-lt_of_le}
use Rattle.std.proofs.lemmas.Option.{get_or_from_slice_get, slice_get_within}
use Rattle.std.specs.Prelude.{Some, slice_get}
use Rattle.ly_join.proofs.ListLemmas.{placed}
use Rattle.ly_resolve.specs.Values.{conflict_from}
use Rattle.ly_counterexamples.specs.Examples.{HasNoExample, IsSearchResult}
use Rattle.ly_counterexamples.proofs.example.Examples.none_has_one.Goals as goal

pub loop-index-preserved : goal.loop-index-preserved
loop-index-preserved c =
    let M = c.args.self.now.automaton in
    let indices = c.args.indices.now in
    let n = c.loop-index.index-index in
    let told = conflict_from M c.in-Some.conflict in
    let none = subst (IsSearchResult M told c.args.bound) c.in-Merged.is c.in_ok-of.ensures in
    λ k i lt at.
    let le : k ≤ n = omega (arith, lt) in
    elim (eq-or-lt_of_le le) as (λ _. HasNoExample c.args.self.now i) [
      | inl same ↦
          let here : slice_index_or indices n 0 ≡ i
          = subst (λ m. slice_index_or indices m 0 ≡ i) same (get_or_from_slice_get indices k i 0 at) in (
            told,
            subst (λ m. slice_get c.args.self.now.conflicts m ≡ Some told) here c.in-Some.ensures.these,
            none,
          )
      | inr before ↦ c.loop-index.invariant k i before at
    ]

pub returns : goal.returns
returns c = λ yes i has.
    let place = placed c.args.indices.now i has in
    let lt = slice_get_within c.args.indices.now place.0 i place.1 in
    let past = c.loop-index-test.false in
    c.loop-index.invariant place.0 i (omega (arith, lt, past)) place.1
