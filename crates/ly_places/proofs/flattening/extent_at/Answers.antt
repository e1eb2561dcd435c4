use Rattle.std.proofs.Common.{◌+◌, ◌-◌, arith}
use Rattle.ly_places.proofs.SpanLemmas.{extent_is}
use Rattle.ly_places.proofs.flattening.extent_at.Goals as goal

pub returns : goal.returns
returns c =
    extent_is c.args.tokens.now c.args.first c.args.count c.args.last (c.args.first + c.args.count - 1) _
    (omega (arith, c.if-count-eq0.false)) c.requires (omega (arith, c.if-count-eq0.false))
