use Rattle.std.proofs.Common.{subst, sym, ◌∙◌}
use Rattle.std.specs.Map.{lookup}
use Rattle.std.specs.Str.{bytes_eq}
use Rattle.ly_join.specs.Private.Tables.{IsFoundAs}
use Rattle.ly_join.specs.Terminals.{token}
use Rattle.ly_join.proofs.terminal.Terminals.token.Goals as goal

pub returns : goal.returns
returns c =
    let name = c.args.name.now in
    let found = lookup (λ k. bytes_eq name k.now) c.self.inside.tokens.entries in
    subst (IsFoundAs c.args.self.now (token name)) (sym (c.copied.ensures ∙ c.get.ensures.value))
    (subst (λ ts. IsFoundAs ts (token name) found) c.self.view_is (c.self.invariant.tokens name))
