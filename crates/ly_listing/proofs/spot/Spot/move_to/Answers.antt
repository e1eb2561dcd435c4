use Rattle.std.proofs.Common.{◌≡◌, ◌∙◌, ◌<◌, ◌≤◌, ◌-◌, ◌^◌, ap, arith, drop, length, refl, subst, sym, take}
use Rattle.ly_base.specs.Location.{column_behind, line_behind}
use Rattle.ly_base.specs.declared.location.Location.{Location}
use Rattle.ly_listing.specs.Private.Spot as value
use Rattle.ly_listing.proofs.SpotLemmas.{column_there, line_further}
use Rattle.ly_listing.proofs.spot.Spot.move_to.Goals as goal
use Rattle.ly_listing.proofs.spot.Spot.move_to.Goals.{then-here-offset, else-here-offset}

pub invariant_of-self : goal.invariant_of-self
invariant_of-self c =
    let text = c.self.inside.text.now in
    let here = c.self.inside.printed.offset in
    let there = c.if-here-offset.there in
    let offset = c.args.offset in
    let within : offset ≤ length text
    = omega (arith, c.requires, ap (λ (v : value.Spot). length v.text) c.self.view_is) in
    let done = λ (line : there.line ≡ line_behind (take offset text))
    (column : there.column ≡ column_behind (take offset text)).
    subst (λ (p : value.Located). (length text < 2 ^ 63) × (p.offset ≤ length text)
    × (p.line ≡ line_behind (take p.offset text)) × (p.column ≡ column_behind (take p.offset text)))
    (sym c.set.ensures) (c.self.invariant.0, within, line, column) in
    elim c.if-here-offset.branch [
      | then-here-offset w ↦
          let behind : here ≤ offset = omega (arith, w.if-here-offset.true, c.offset-here.ensures) in
          let bytes : _ = ap (λ n. take (offset - n) (drop n text)) c.offset-here.ensures in
          done
          (ap (λ (x : Location). x.line) w.there-is ∙ line_further text _ here offset w.location.result.line _ behind
          bytes (w.location.ensures.line ∙ c.self.invariant.2) w.location_after-there.ensures.line)
          (ap (λ (x : Location). x.column) w.there-is ∙ column_there text _ here offset w.location.result.column _
          behind bytes (w.location.ensures.column ∙ c.self.invariant.3) w.location_after-there.ensures.column)
      | else-here-offset w ↦ done
          (ap (λ (x : Location). x.line) w.there-is ∙ w.locate-there.ensures.line)
          (ap (λ (x : Location). x.column) w.there-is ∙ w.locate-there.ensures.column)
    ]
