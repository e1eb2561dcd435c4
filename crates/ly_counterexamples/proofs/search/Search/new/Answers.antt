use Rattle.std.proofs.Common.{◌∙◌, ◌∷◌, ◌++◌, [], ap, arith, refl}
use Rattle.ly_counterexamples.proofs.UnderwayLemmas.{begins, one_follows}
use Rattle.ly_counterexamples.specs.Private.Searches.{automaton_of}
use Rattle.ly_counterexamples.proofs.search.Search.new.Goals as goal

pub returns-then-sought-eq0-clause-many : goal.returns-then-sought-eq0-clause-many
returns-then-sought-eq0-clause-many c = λ _. one_follows (automaton_of c.args.sought.now) c.args.sought.now.terminal.0
    c.args.sought.now.bound c.args.demand (omega (arith, c.if-sought-eq0.true))

pub returns-clause-underway : goal.returns-clause-underway
returns-clause-underway c = begins c.args.sought.now c.args.demand c.requires.ground c.requires.terminal c.requires.kept
    (omega (arith, c.if-sought-eq0.false)) _
    (c.in_ok-push.ensures ∙ ap (λ ds. ds ++ c.args.demand ∷ []) c.new-found.ensures) c.new.ensures.items refl refl refl
