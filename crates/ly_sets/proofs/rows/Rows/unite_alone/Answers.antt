use Rattle.std.proofs.Common.{◌≡◌, ◌∙◌, ◌*◌, ◌+◌, ◌<◌, ◌≤◌, ◌⊎◌, ap, ap₂, sym, subst, arith, length, get_or}
use Rattle.std.specs.FinSet as set
use Rattle.ly_sets.specs.SetMatrix.{row}
use Rattle.ly_sets.specs.NumberSet.{row_set}
use Rattle.ly_sets.specs.Rows.{sets_by, sets_of}
use Rattle.ly_sets.proofs.MatrixLemmas.{rows_apart, row_at, sets_by-changed, written}
use Rattle.ly_sets.proofs.rows.Rows.unite_alone.Goals as goal

pub union_rows-requires-clause-apart : goal.union_rows-requires-clause-apart
union_rows-requires-clause-apart c =
    let r = c.args.self.now in
    let to = c.start-to.ensures.value in
    let from = c.start-from.ensures.value in
    subst (λ t. (t + r.stride ≤ c.start-from.result) ⊎ ((c.start-from.result + r.stride ≤ t) ⊎ (t ≡
    c.start-from.result)))
    (sym to)
    (subst (λ f. (get_or r.stored.items c.args.i 0 * r.stride + r.stride ≤ f)
    ⊎ ((f + r.stride ≤ get_or r.stored.items c.args.i 0 * r.stride)
    ⊎ (get_or r.stored.items c.args.i 0 * r.stride ≡ f))) (sym from)
    (rows_apart (get_or r.stored.items c.args.i 0) (get_or r.stored.items c.args.j 0) r.stride))

pub returns-clause-united : goal.returns-clause-united
returns-clause-united c =
    let r = c.args.self.now in
    let old = c.deref_mut.ensures.value in
    let to = c.start-to.ensures.value in
    let from = c.start-from.ensures.value in
    let len : length c.union_rows.new.words ≡ r.words.len
    = omega (arith, c.union_rows.auto.words, c.deref_mut.ensures.len) in
    ap (λ ws. sets_by r.stride ws r.stored.items) (written r.words.len c.union_rows.new.words r.words.items len)
    ∙ sets_by-changed c.requires.laid c.union_rows.new.words c.args.i c.requires.to c.requires.alone
    (λ k out. c.union_rows.ensures.others k (subst (λ t. (k < t) ⊎ (t + r.stride ≤ k)) (sym to) out)
    ∙ ap (λ ws. get_or ws k 0) old)
    (set.union (row (sets_of r) c.args.i) (row (sets_of r) c.args.j))
    (ap (λ t. row_set t r.stride c.union_rows.new.words) (sym to) ∙ c.union_rows.ensures.united
    ∙ ap₂ set.union (row_at r.stride c.start-to.result r.words.items c.deref_mut.result.now r.stored.items c.args.i
    c.requires.to to old)
    (row_at r.stride c.start-from.result r.words.items c.deref_mut.result.now r.stored.items c.args.j c.requires.from
    from old))
