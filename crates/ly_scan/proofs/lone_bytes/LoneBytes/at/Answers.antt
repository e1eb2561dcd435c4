use Rattle.std.proofs.Common.{ap, arith, length, rules}
use Rattle.std.specs.Prelude.{false, true}
use Rattle.ly_scan.proofs.LoneByteLemmas.{both, looked_up, lone_at}
use Rattle.ly_scan.proofs.lone_bytes.LoneBytes.at.Goals as goal

pub returns-clause-lone : goal.returns-clause-lone
returns-clause-lone c =
    let rest = c.rest-rest.ensures in
    both c.index.result.now c.index-2.result.now _ (λ a b scanner passed lone.
    lone_at scanner passed c.args.self.now c.args.place.now (search rules)
    (omega (arith, c.if-rest-lt2.false, ap (λ w. length w) rest)) lone (search rules)
    (looked_up c.self.inside.begins.items c.args.self.now.0 c.rest-rest.result.now c.args.place.now.rest 0
    c.from.result c.index.result.now true (ap (λ l. l.0) c.self.view_is) rest c.from.ensures c.index.ensures a
    (search rules))
    (looked_up c.self.inside.goes_on.items c.args.self.now.1 c.rest-rest.result.now c.args.place.now.rest 1
    c.from-2.result c.index-2.result.now false (ap (λ l. l.1) c.self.view_is) rest c.from-2.ensures c.index-2.ensures b
    (search rules)))
