use Rattle.std.proofs.Common.{◌<◌, ◌/◌, length, subst}
use Rattle.std.proofs.lemmas.Bool.{leb-false}
use Rattle.ly_tables.proofs.BeginningLemmas.{are_bytes, numbers_begun}
use Rattle.ly_tables.proofs.plain_fields.NumberField.may_be_there.Goals as goal

pub returns : goal.returns
returns c = λ few.
    let left = c.args.left.now in
    numbers_begun c.args.version c.args.count left (subst (λ size. length left / size < c.args.count)
    c.number_size.ensures.size
    (leb-false c.args.count (length left / c.number_size.result) few)) (are_bytes left c.type_inv.left)
