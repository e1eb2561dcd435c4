use Rattle.std.proofs.Common.{◌≡◌, ◌∙◌, List, ℕ, ap, subst, sym, get_or, Vec, Global, slice_range}
use Rattle.std.proofs.lemmas.List.Elements.{All-push}
use Rattle.ly_minim.specs.Private.Halves.{AreUnions}
use Rattle.ly_minim.specs.Private.Partition.{IsUnion}
use Rattle.ly_minim.proofs.SplitLemmas.{part_union, union_more}
use Rattle.ly_minim.proofs.partition.Partition.split_off.Goals as goal

pub returns-clause-halves : goal.returns-clause-halves
returns-clause-halves c =
    let old = c.args.self.now in
    let new = c.cut.new.self in
    let kept = c.args.kept in
    let part = c.args.part in
    let half = c.in_ok-to_vec.field-0 in
    let items : half.items ≡ slice_range old.states.items part.first part.end
    = c.in_ok-to_vec.ensures.items_if_clones_equal (λ x y h. h)
    ∙ ap (λ xs. slice_range xs part.first part.end) (c.deref.ensures.value ∙ c.in_ok-cut.ensures.states) in
    subst (λ (hs : List (Vec ℕ Global)). AreUnions new.of.items hs) (sym c.in_ok-push.ensures.items)
    (All-push (λ (h : Vec ℕ Global). IsUnion new.of.items h.items) c.args.halves.now.items half
    (λ k d l. union_more old new c.args.block kept.first kept.end part.first part.end c.requires.laid c.requires.block
    c.requires.parts c.in_ok-cut.ensures (get_or c.args.halves.now.items k d).items (c.requires.halves k d l))
    (subst (λ xs. IsUnion new.of.items xs) (sym items)
    (part_union old new c.args.block kept.first kept.end part.first part.end c.requires.laid c.requires.block
    c.requires.parts c.in_ok-cut.ensures)))
