use Rattle.std.proofs.Common.{◌∙◌, ap, get_or, arith}
use Rattle.std.specs.Prelude.{min}
use Rattle.std.proofs.lemmas.List.{get_or-map}
use Rattle.ly_ere.specs.Arena.{expressions}
use Rattle.ly_ere.specs.Expression.{empty}
use Rattle.ly_ere.specs.Weight.{weight_at}
use Rattle.ly_ere.specs.Weight.{weight_under}
use Rattle.ly_ere.proofs.ArenaLemmas.{length-expressions}
use Rattle.ly_ere.proofs.weight.capped_weight.Goals as goal

pub returns : goal.returns
returns c =
    c.index.ensures ∙ ap (λ ws. get_or ws c.nodes-root.result.1 c.index.result.now) c.in_ok-weights.ensures.weights
    ∙ get_or-map (λ e. min (weight_under (weight_at c.args.named.now) e) c.args.cap)
    (expressions c.nodes-root.result.0.now) c.nodes-root.result.1 empty c.index.result.now
    (omega (arith, c.nodes-root.ensures.within, length-expressions c.nodes-root.result.0.now))
    ∙ ap (λ e. min (weight_under (weight_at c.args.named.now) e) c.args.cap) c.nodes-root.ensures.spelled
