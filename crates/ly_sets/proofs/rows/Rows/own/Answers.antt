use Rattle.std.proofs.Common.{◌≡◌, ◌∙◌, ◌++◌, ◌+◌, ap, set, slice_range}
use Rattle.ly_sets.specs.Rows.{sets_by}
use Rattle.ly_sets.proofs.MatrixLemmas.{sets_by-copied}
use Rattle.ly_sets.proofs.rows.Rows.own.Goals as goal

pub returns-in_ok-stored-clause-sets : goal.returns-in_ok-stored-clause-sets
returns-in_ok-stored-clause-sets c =
    let r = c.args.self.now in
    let s = c.push_copy.new.self in
    let copy = c.in_ok-stored.ensures.ok in
    let names : s.stored.items ≡ r.stored.items = ap (λ v. v.items) c.in_ok-stored.ensures.stored in
    ap (λ n. sets_by n s.words.items (set s.stored.items c.args.i c.in_ok-stored.stored)) c.in_ok-stored.ensures.stride
    ∙ ap (λ ws. sets_by r.stride ws (set s.stored.items c.args.i c.in_ok-stored.stored)) copy.words
    ∙ ap (λ xs. sets_by r.stride (r.words.items ++ slice_range r.words.items c.start-start.result
    (c.start-start.result + r.stride)) (set xs c.args.i c.in_ok-stored.stored)) names
    ∙ ap (λ k. sets_by r.stride (r.words.items ++ slice_range r.words.items c.start-start.result
    (c.start-start.result + r.stride)) (set r.stored.items c.args.i k)) copy.numbered
    ∙ sets_by-copied c.requires.laid c.args.i c.start-start.result c.start-start.ensures.inside c.requires.row
    c.start-start.ensures.value
