use Rattle.std.proofs.Common.{◌≡◌, ◌<◌, ◌≤◌, ◌⊎◌, inl, inr, ap, arith, get_or, length, zero, ◌∙◌, ℕ, false}
use Rattle.std.specs.Prelude.{replicate}
use Rattle.std.specs.BTreeMap.{is_at}
use Rattle.std.specs.BTreeSet.{contains}
use Rattle.std.specs.List.{list_any}
use Rattle.std.specs.Ordering.{nat_cmp}
use Rattle.std.proofs.lemmas.Bool.{cases_lt}
use Rattle.std.proofs.lemmas.List.{get_or-replicate, length-map, length-replicate}
use Rattle.std.proofs.Math.ListN.{get_or-eq_default}
use Rattle.ly_ere.proofs.TurnLemmas.{nothing_taken}
use Rattle.ly_ere.proofs.turns.Turns.new.Goals as goal

-- all are the same
same : {A : Type 0} (n k : ℕ) (a : A) → get_or (replicate n a) k a ≡ a
same n k a = by (cases_lt k n)
  where
    by : (k < n) ⊎ (n ≤ k) → get_or (replicate n a) k a ≡ a
    by (inl less) = get_or-replicate n k a a less
    by (inr more) = get_or-eq_default (replicate n a) a (omega (arith, more, length-replicate n a))

pub returns-clause-turns : goal.returns-clause-turns
returns-clause-turns c =
    let uses = length-map c.args.uses.now (λ v. v.items) in
    let many = length c.args.uses.now in
    let passed : c.in_ok-vec.field-0.items ≡ replicate many 0 = c.in_ok-vec.ensures.items_if_clones_equal (λ y h. h) in
    let bits : c.in_ok-vec-2.field-0.items ≡ replicate many false
    = c.in_ok-vec-2.ensures.items_if_clones_equal (λ y h. h) in
    let zeros : length (replicate many zero) ≡ many = length-replicate many zero in
    rw (c.new-3.ensures.items, ← uses) (nothing_taken _ c.in_ok-vec.field-0.items _ c.in_ok-vec-2.field-0.items
    (contains nat_cmp c.new-2.result) c.requires
    (omega (arith, uses, ap length passed, zeros))
    (omega (
      arith,
      uses,
      length-map c.loop.waiting.items (λ v. v.items),
      c.loop.invariant.counted,
      c.loop-test.false,
      c.loop.auto.index-end,
    ))
    (omega (arith, uses, ap length bits, length-replicate many false))
    (λ k. ap (λ ps. get_or ps k 0) passed ∙ same many k 0) c.loop.invariant.none
    (λ k. ap (λ bs. get_or bs k false) bits ∙ same many k false) (λ k. ap (list_any (is_at
    (nat_cmp k))) c.new-2.ensures.empty))
