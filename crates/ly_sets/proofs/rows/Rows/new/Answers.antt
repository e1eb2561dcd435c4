use Rattle.std.proofs.Common.{◌≡◌, ◌∙◌, ap, replicate}
use Rattle.ly_sets.specs.Rows.{sets_by}
use Rattle.ly_sets.proofs.MatrixLemmas.{sets_by-new}
use Rattle.ly_sets.proofs.rows.Rows.new.Goals as goal

pub returns-clause-sets : goal.returns-clause-sets
returns-clause-sets c =
    let stride = c.words_for-stride.result in
    let names : c.in_ok-vec.field-0.items ≡ replicate c.args.rows 0
    = c.in_ok-vec.ensures.items_if_clones_equal (λ y h. h) in
    let zeros : c.in_ok-vec-3.field-0.items ≡ replicate stride 0
    = c.in_ok-vec-3.ensures.items_if_clones_equal (λ y h. h) in
    ap (λ ws. sets_by stride ws c.in_ok-vec.field-0.items) zeros
    ∙ ap (λ xs. sets_by stride (replicate stride 0) xs) names
    ∙ sets_by-new stride c.args.rows
