use Rattle.std.proofs.Common.{map, refl, subst}
use Rattle.std.specs.Prelude.{Ok}
use Rattle.ly_places.proofs.PlacingLemmas.{derived_over, is_placed_over, placed_over, placed_token_syntax_error}
use Rattle.ly_places.specs.PlacedAnswer.{accepted}
use Rattle.ly_places.specs.Private.TokenDerived.{IsDerivationOver, IsTokenDerived}
use Rattle.ly_places.specs.TokenAnswer.{token_over}
use Rattle.ly_places.proofs.token_parsing.parse_tokens.Goals as goal

pub returns-in-Accepted-clause-parsed : goal.returns-in-Accepted-clause-parsed
returns-in-Accepted-clause-parsed c =
    let s = c.args.set.now in
    let text = c.args.text.now in
    let tokens = map (token_over text) c.args.tokens.now in
    let x = c.in-Accepted.derivation in
    let h : IsDerivationOver s text tokens x
    = subst (λ d. IsTokenDerived s text tokens (Ok d)) c.in-Accepted.is c.in_ok-derivation.ensures in (
      accepted (placed_over s text tokens x h),
      is_placed_over s text tokens x h,
      (
        placed_over s text tokens x h,
        refl,
        c.in_ok-parts_by-in-Accepted.ensures h.before h.tree (derived_over s text tokens x h),
      ),
    )

pub returns-clause-parsed : goal.returns-clause-parsed
returns-clause-parsed c =
    let s = c.args.set.now in
    let text = c.args.text.now in
    let tokens = map (token_over text) c.args.tokens.now in
    placed_token_syntax_error s text tokens c.in-Refused.syntax_error
    (subst (λ d. IsTokenDerived s text tokens (Ok d)) c.in-Refused.is c.in_ok-derivation.ensures)
