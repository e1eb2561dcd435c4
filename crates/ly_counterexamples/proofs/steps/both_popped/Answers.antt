use Rattle.ly_join.specs.Grammar.{symbol_of}
use Rattle.ly_counterexamples.proofs.ClaimLemmas.{both_popped}
use Rattle.ly_counterexamples.proofs.steps.both_popped.Goals as goal

pub returns : goal.returns
returns c = both_popped c.args.ground.now.lr0.now.grammar (symbol_of c.args.symbol) c.args.demand c.popped.result
    c.popped-2.result c.popped.ensures c.popped-2.ensures c.in_ok-first.first c.in_ok-second.second c.in_ok-first.was
    c.in_ok-second.was
