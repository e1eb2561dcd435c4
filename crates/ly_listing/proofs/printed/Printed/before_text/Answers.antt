use Rattle.std.proofs.Common.{◌∙◌, ◌++◌, ap, append_assoc, arith, codes, refl, sym}
use Rattle.ly_print.specs.Json.{json_located}
use Rattle.ly_listing.specs.Private.Spot.{Located}
use Rattle.ly_listing.proofs.SpotLemmas.{front_of, tail_fits}
use Rattle.ly_listing.proofs.printed.Printed.before_text.Goals as goal

pub returns : goal.returns
returns c =
    let located = json_located c.self.inside.offset c.self.inside.line c.self.inside.column in
    front_of c.self.inside.room (located ++ codes ",") (codes "\"end\":") c.self.inside.count 6
    (omega (arith, c.self.invariant.1, c.self.invariant.2)) refl
    (c.self.invariant.0 ∙ sym (append_assoc located (codes ",") (codes "\"end\":")))
    ∙ ap (λ (p : Located). json_located p.offset p.line p.column ++ codes ",") c.self.view_is

pub slice_bounds-result-count : goal.slice_bounds-result-count
slice_bounds-result-count c =
    let located = json_located c.self.inside.offset c.self.inside.line c.self.inside.column in
    tail_fits c.self.inside.room (located ++ codes ",") (codes "\"end\":") c.self.inside.count 6
    (omega (arith, c.self.invariant.1, c.self.invariant.2)) refl
    (c.self.invariant.0 ∙ sym (append_assoc located (codes ",") (codes "\"end\":")))
