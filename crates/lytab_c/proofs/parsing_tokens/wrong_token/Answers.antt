use Rattle.std.proofs.Common.{arith}
use Rattle.lytab_c.proofs.TokenLemmas.{next_right}
use Rattle.lytab_c.specs.declared.caller_token.CallerToken.{CallerToken}
use Rattle.lytab_c.proofs.parsing_tokens.wrong_token.Goals as goal

abbrev none : CallerToken
none = record { terminal = 0; unused = 0; start = 0; end = 0 }

pub loop-index-preserved : goal.loop-index-preserved
loop-index-preserved c =
    next_right c.args.terminals c.args.count c.loop-index.index c.args.tokens.now none
    (omega (arith, c.loop-index-test.true)) c.loop-index.invariant
    (c.is_over-is_right.ensures.right c.if-not-is_right.false)
