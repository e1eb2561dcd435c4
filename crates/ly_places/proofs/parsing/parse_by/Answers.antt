use Rattle.std.proofs.Common.{◌≡◌, ap, refl, subst, sym}
use Rattle.std.specs.Prelude.{Ok}
use Rattle.ly_places.proofs.PlacingLemmas.{is_derived, is_placed, placed_syntax_error, placed_of}
use Rattle.ly_parse.specs.Deriving.{shape_of_rule}
use Rattle.ly_places.specs.Derived as derived
use Rattle.ly_places.specs.Parts.{parts_of}
use Rattle.ly_places.specs.Placed.{end_behind, placed}
use Rattle.ly_places.specs.PlacedAnswer.{accepted}
use Rattle.ly_places.specs.Private.Derived.{IsDerivationOf, IsDerived}
use Rattle.ly_places.proofs.parsing.parse_by.Goals as goal

pub returns-in_ok-parts-in-Accepted-clause-parsed : goal.returns-in_ok-parts-in-Accepted-clause-parsed
returns-in_ok-parts-in-Accepted-clause-parsed c =
    let s = c.args.prepared.now in
    let set = c.set-set.ensures in
    let text = c.args.text.now in
    let x = c.in-Accepted.derivation in
    let h : IsDerivationOf s text x
    = subst (λ d. IsDerived s text (Ok d)) c.in-Accepted.is c.in_ok-derivation.ensures in (
      accepted (placed_of s text x h),
      is_placed s text x h,
      (
        placed_of s text x h,
        refl,
        subst (λ rules. c.in_ok-parts-in-Accepted.parts.items
            ≡ parts_of (placed (shape_of_rule rules) (end_behind h.derived.before) h.tree)) (ap (λ y. y.rules) set)
            (c.in_ok-parts-in-Accepted.ensures h.derived.before h.tree
            (subst (λ rules. derived.IsDerived x.forest x.root x.tokens.items rules h.derived.before h.tree)
            (ap (λ y. y.rules) (sym set)) (is_derived s text x h))),
      ),
    )

pub returns-in-Refused-clause-parsed : goal.returns-in-Refused-clause-parsed
returns-in-Refused-clause-parsed c =
    let s = c.args.prepared.now in
    let text = c.args.text.now in
    placed_syntax_error s text c.in-Refused.syntax_error
    (subst (λ d. IsDerived s text (Ok d)) c.in-Refused.is c.in_ok-derivation.ensures)
