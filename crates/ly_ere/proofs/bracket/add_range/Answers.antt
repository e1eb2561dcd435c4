use Rattle.std.proofs.Common.{◌∙◌, [], ◌∷◌, drop, sym, arith}
use Rattle.ly_base.proofs.EscapeLemmas.{whole_slice}
use Rattle.ly_ere.specs.Elements.{single}
use Rattle.ly_ere.proofs.PointLemmas.{point_one, points_range, ranged}
use Rattle.ly_ere.proofs.RangeLemmas.{added_byte, added_range}
use Rattle.ly_ere.proofs.bracket.add_range.Goals as goal

pub returns-then-not-begins_range-clause-points : goal.returns-then-not-begins_range-clause-points
returns-then-not-begins_range-clause-points c =
    let text = c.args.text.now in
    let alone = rw whole_slice at (sym c.begins_range.ensures ∙ c.if-not-begins_range.true) in (
      (c.in_ok-low.low, c.in_ok-low.low) ∷ [],
      single text (drop c.in_ok-low.low_length text) c.in_ok-low.low c.in_ok-low.ensures.point alone,
      added_byte c.args.set.now c.insert.new.self c.in_ok-low.low c.insert.ensures,
    )

pub returns-in-Err-clause-refused : goal.returns-in-Err-clause-refused
returns-in-Err-clause-refused c rs rest h =
    let more = rw whole_slice at (sym c.begins_range.ensures ∙ c.if-not-begins_range.false) in
    let k = points_range h c.in_ok-low.low (drop c.in_ok-low.low_length c.args.text.now) c.in_ok-low.ensures.point more
    in
    (simp whole_slice at c.in-Err.ensures.refused) k.0 rest k.1

pub returns-then-high-low-clause-refused : goal.returns-then-high-low-clause-refused
returns-then-high-low-clause-refused c = λ rs rest h.
    let more = rw whole_slice at (sym c.begins_range.ensures ∙ c.if-not-begins_range.false) in
    let k = points_range h c.in_ok-low.low (drop c.in_ok-low.low_length c.args.text.now) c.in_ok-low.ensures.point more
    in
    let high = simp whole_slice at c.in-Ok.ensures.point in
    absurd (omega (arith, k.2, (point_one k.1 high).0))

pub returns-clause-points : goal.returns-clause-points
returns-clause-points c =
    let more = rw whole_slice at (sym c.begins_range.ensures ∙ c.if-not-begins_range.false) in (
      (c.in_ok-low.low, c.in-Ok.found.0) ∷ [],
      ranged c.args.text.now c.in_ok-low.low c.in-Ok.found.0 c.in_ok-low.low_length c.in-Ok.found.1
          c.in_ok-low.ensures.point more (simp whole_slice at c.in-Ok.ensures.point) c.if-high-low.false,
      added_range c.args.set.now c.insert_range.new.self c.in_ok-low.low c.in-Ok.found.0 c.insert_range.ensures,
    )
