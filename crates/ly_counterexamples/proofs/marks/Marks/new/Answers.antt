use Rattle.std.proofs.Common.{◌≡◌, ◌∙◌, ap, false, length, replicate, slice_index_or}
use Rattle.std.proofs.lemmas.List.{get_or-replicate, length-replicate}
use Rattle.ly_counterexamples.proofs.MarkLemmas.{none_marked}
use Rattle.ly_counterexamples.proofs.marks.Marks.new.Goals as goal

pub returns : goal.returns
returns c =
    let marks = c.in_ok-vec.field-0.items in
    let n = c.args.count in
    let same : marks ≡ replicate n false = c.in_ok-vec.ensures.items_if_clones_equal (λ y h. h) in
    none_marked marks n (ap length same ∙ length-replicate n false)
    (λ k lt. ap (λ xs. slice_index_or xs k false) same ∙ get_or-replicate n k false false lt)
