use Rattle.ly_places.proofs.SpanLemmas.{last_end_is}
use Rattle.ly_places.proofs.flattening.last_end.Goals as goal

pub returns-in-Some : goal.returns-in-Some
returns-in-Some c = last_end_is c.args.tokens.now c.in-Some.token.now c.in-Some.ensures.item.3.0
    c.in-Some.ensures.item.1
