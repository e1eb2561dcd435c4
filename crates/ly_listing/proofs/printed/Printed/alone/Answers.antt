use Rattle.std.proofs.Common.{◌∙◌, ap, arith, codes, refl}
use Rattle.ly_print.specs.Json.{json_located}
use Rattle.ly_listing.specs.Private.Spot.{Located}
use Rattle.ly_listing.proofs.SpotLemmas.{front_of, tail_fits}
use Rattle.ly_listing.proofs.printed.Printed.alone.Goals as goal

pub returns-clause-is : goal.returns-clause-is
returns-clause-is c =
    front_of c.self.inside.room (json_located c.self.inside.offset c.self.inside.line c.self.inside.column)
    (codes ",\"end\":") c.self.inside.count 7 (omega (arith, c.self.invariant.1, c.self.invariant.2)) refl c.self.invariant.0
    ∙ ap (λ (p : Located). json_located p.offset p.line p.column) c.self.view_is

pub slice_bounds-result-count : goal.slice_bounds-result-count
slice_bounds-result-count c =
    tail_fits c.self.inside.room (json_located c.self.inside.offset c.self.inside.line c.self.inside.column)
    (codes ",\"end\":") c.self.inside.count 7 (omega (arith, c.self.invariant.1, c.self.invariant.2)) refl
    c.self.invariant.0
