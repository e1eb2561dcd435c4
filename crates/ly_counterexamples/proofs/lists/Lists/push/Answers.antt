use Rattle.std.proofs.Common.{◌≡◌, ◌<◌, ◌∙◌, sym, ap, subst, length, List, [], ◌∷◌, ◌++◌, slice_set}
use Rattle.std.proofs.Common.{slice_index_or, Vec}
use Rattle.std.proofs.lemmas.List.{get_or-map, map-set, length-map}
use Rattle.std.specs.declared.alloc.Global.{Global}
use Rattle.ly_counterexamples.proofs.lists.Lists.push.Goals as goal

pub returns : goal.returns
returns g c =
    let items : Vec g.row.T.Denot Global → List g.row.T.Denot = λ w. w.items in
    let lists = c.self.inside.lists.items in
    let n = c.args.number in
    let view = c.self.view_is in
    let lt : n < length lists = subst (λ k. n < k) (sym (ap length view) ∙ length-map lists items) c.requires in
    let there : c.index_mut.result.now.items ≡ slice_index_or c.args.self.now n []
    = ap items c.index_mut.ensures.value ∙ sym (get_or-map items lists n _ [] lt)
    ∙ ap (λ xs. slice_index_or xs n []) view in
    map-set items lists n c.push.new.self ∙ ap (λ xs. slice_set xs n c.push.new.self.items) view
    ∙ ap (λ ys. slice_set c.args.self.now n ys)
    (c.in_ok-push.ensures.items ∙ ap (λ ys. ys ++ c.args.value ∷ []) there)
