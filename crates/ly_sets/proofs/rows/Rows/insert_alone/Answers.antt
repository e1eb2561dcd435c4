use Rattle.std.proofs.Common.{◌≡◌, ◌∙◌, ◌+◌, ◌<◌, ◌≤◌, ◌⊎◌, ap, sym, subst, arith, length, get_or}
use Rattle.std.specs.FinSet as set
use Rattle.ly_sets.specs.SetMatrix.{row}
use Rattle.ly_sets.specs.NumberSet.{row_set}
use Rattle.ly_sets.specs.Rows.{sets_by, sets_of}
use Rattle.ly_sets.proofs.MatrixLemmas.{row_at, sets_by-changed, written}
use Rattle.ly_sets.proofs.rows.Rows.insert_alone.Goals as goal

pub returns-clause-sets : goal.returns-clause-sets
returns-clause-sets c =
    let r = c.args.self.now in
    let old = c.deref_mut.ensures.value in
    let to = c.start-start.ensures.value in
    let len : length c.insert_bit.new.words ≡ r.words.len
    = omega (arith, c.insert_bit.auto.words, c.deref_mut.ensures.len) in
    ap (λ ws. sets_by r.stride ws r.stored.items) (written r.words.len c.insert_bit.new.words r.words.items len)
    ∙ sets_by-changed c.requires.laid c.insert_bit.new.words c.args.i c.requires.row c.requires.alone
    (λ k out. c.insert_bit.ensures.others k (subst (λ t. (k < t) ⊎ (t + r.stride ≤ k)) (sym to) out)
    ∙ ap (λ ws. get_or ws k 0) old)
    (set.insert (row (sets_of r) c.args.i) c.args.number)
    (ap (λ t. row_set t r.stride c.insert_bit.new.words) (sym to) ∙ c.insert_bit.ensures.added
    ∙ ap (λ s. set.insert s c.args.number) (row_at r.stride c.start-start.result r.words.items c.deref_mut.result.now
    r.stored.items c.args.i c.requires.row to old))
