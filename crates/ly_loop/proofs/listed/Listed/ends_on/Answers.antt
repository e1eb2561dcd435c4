use Rattle.std.proofs.Common.{◌∙◌, refl, sym}
use Rattle.ly_loop.specs.declared.tokens.Tokens.TheVariants.{One}
use Rattle.ly_loop.proofs.KnownLemmas.{some_ends}
use Rattle.ly_loop.proofs.listed.Listed.ends_on.Goals as goal

pub returns-then-is_some-clause-ends : goal.returns-then-is_some-clause-ends
returns-then-is_some-clause-ends g c =
    some_ends c.args.self.now (One c.args.run.token) c.args.run.edge.below.0 c.args.run.edge.top.0
    c.in_ok-summary.summary c.in_ok-summary.ensures.summary (sym c.is_some.ensures ∙ c.if-is_some.true)
    c.args.run.token.0 refl
