use Rattle.std.proofs.Common.{◌≡◌, ◌∙◌, ap, subst, sym, arith, replicate}
use Rattle.ly_sets.specs.NumberSet.{set_of, AllBelow}
use Rattle.ly_sets.proofs.MatrixLemmas.{set_of-zeros, AllBelow-empty}
use Rattle.ly_sets.proofs.term_set.TermSet.new.Goals as goal

pub invariant_of-result : goal.invariant_of-result
invariant_of-result c =
    let zeros : c.in_ok-vec.field-0.items ≡ replicate c.words_for.result 0
    = c.in_ok-vec.ensures.items_if_clones_equal (λ y h. h) in (
      omega (arith, c.in_ok-vec.ensures.len),
      subst (λ s. AllBelow c.args.width s)
          (sym (ap set_of zeros ∙ set_of-zeros c.words_for.result)) (AllBelow-empty c.args.width),
    )

pub returns : goal.returns
returns c =
    let zeros : c.in_ok-vec.field-0.items ≡ replicate c.words_for.result 0
    = c.in_ok-vec.ensures.items_if_clones_equal (λ y h. h) in
    ap (λ s. record { width = c.args.width; members = s }) (ap set_of zeros ∙ set_of-zeros c.words_for.result)
