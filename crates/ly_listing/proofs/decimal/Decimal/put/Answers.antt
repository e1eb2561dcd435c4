use Rattle.std.proofs.Common.{◌∙◌, ◌++◌, ap, arith, sym, take}
use Rattle.std.specs.Fmt.{decimal}
use Rattle.ly_listing.proofs.SpotLemmas.{front_put}
use Rattle.ly_listing.proofs.decimal.Decimal.put.Goals as goal

pub returns-clause-bytes : goal.returns-clause-bytes
returns-clause-bytes c =
    front_put c.args.room.now c.put_bytes.new.room c.self.inside.digits c.args.at c.self.inside.count
    (omega (arith, c.self.invariant.1, c.self.told)) (omega (arith, c.requires, c.self.told))
    (ap (λ n. take n c.put_bytes.new.room) (sym c.put_bytes.ensures.end) ∙ c.put_bytes.ensures.bytes)
    ∙ ap (λ xs. take c.args.at c.args.room.now ++ xs) (c.self.invariant.0 ∙ ap decimal c.self.view_is)
