use Rattle.std.proofs.Common.{◌/◌, length}
use Rattle.std.proofs.lemmas.Bool.{leb-false}
use Rattle.ly_base.specs.declared.version.Version.TheVariants.{V2}
use Rattle.ly_tables.proofs.BeginningLemmas.{are_bytes, numbers_begun}
use Rattle.ly_tables.proofs.plain_fields.WideField.may_be_there.Goals as goal

pub returns : goal.returns
returns c = λ few.
    let left = c.args.left.now in
    numbers_begun V2 c.args.count left (leb-false c.args.count (length left / 4) few) (are_bytes left c.type_inv.left)
