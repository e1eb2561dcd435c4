use Rattle.std.proofs.Common.{◌∙◌, ap, sym, set}
use Rattle.std.proofs.lemmas.List.{map-set}
use Rattle.ly_sets.specs.Rows.{sets_of, stored_set}
use Rattle.ly_sets.proofs.MatrixLemmas.{named_read, row-sets_by}
use Rattle.ly_sets.proofs.rows.Rows.share.Goals as goal

pub returns-clause-sets : goal.returns-clause-sets
returns-clause-sets c =
    let r = c.args.self.now in
    map-set (stored_set r.stride r.words.items) r.stored.items c.args.i c.index-stored.result.now
    ∙ ap (λ s. set (sets_of r) c.args.i s)
    (ap (stored_set r.stride r.words.items) (named_read r.stored.items c.args.j _ c.requires.from
    c.index-stored.ensures)
    ∙ sym (row-sets_by r.stride r.words.items r.stored.items c.args.j c.requires.from))
