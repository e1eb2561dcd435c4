use Rattle.std.proofs.Common.{◌≤◌, ◌-◌, ap, arith, drop, length, take}
use Rattle.ly_base.proofs.EscapeLemmas.{whole_slice}
use Rattle.ly_base.proofs.PlaceLemmas.{advanced}
use Rattle.ly_base.proofs.place.Place.advance.Goals as goal

pub returns : goal.returns
returns c =
    let rest = c.self.inside.rest.now in
    let few : c.args.count ≤ length rest = omega (arith, c.requires, ap (λ p. length p.rest) c.self.view_is) in
    advanced c.self.inside.line c.self.inside.given_up c.self.inside.text.now rest
    (take (length rest - c.args.count) (drop c.args.count rest)) c.args.count
    c.unwrap_or-self-inside.result c.self.inside.condition c.args.begin c.args.self.now
    c.self.invariant.within c.self.invariant.end few (whole_slice c.args.count rest) c.self.view_is
    c.unwrap_or-self-inside.ensures
