use Rattle.std.proofs.Common.{◌∙◌, ◌+◌, ap, ℕ}
use Rattle.std.specs.Prelude.{min}
use Rattle.ly_ere.specs.Names.{defined}
use Rattle.ly_ere.specs.Weight.{weight_of, weight_under}
use Rattle.ly_ere.proofs.WeightLemmas.{weights_named, within_cap}
use Rattle.ly_ere.proofs.weight.weigh.Goals as goal

pub returns : goal.returns
returns c = within_cap c.at_most.result c.in_ok-weight.weight
    (weight_of (defined c.args.names.now) c.args.re.now) c.args.most
    (c.in_ok-weight.ensures
    ∙ ap (λ (w : ℕ → ℕ). min (weight_under w c.args.re.now) (c.from.result + 1))
    (weights_named (defined c.args.names.now) c.weights.result.now c.weights.ensures)
    ∙ ap (λ n. min (weight_of (defined c.args.names.now) c.args.re.now) (n + 1)) c.from.ensures)
    c.at_most.ensures
