use Rattle.std.proofs.Common.{false, refl, subst, [], ◌∷◌}
use Rattle.std.proofs.lemmas.Bool.{both_ways}
use Rattle.ly_join.specs.Grammar.{symbol_of}
use Rattle.ly_grammar.specs.Derivations.{IsNullable}
use Rattle.ly_relate.proofs.WalkLemmas.{terminal_not_nullable}
use Rattle.ly_counterexamples.proofs.rest.passes.Goals as goal

pub returns-in-Terminal : goal.returns-in-Terminal
returns-in-Terminal c = (
  λ no. absurd (both_ways false refl no),
  λ null. absurd (terminal_not_nullable c.args.reduced.now.grammar c.in-Terminal.field-0.0
      (subst (λ X. IsNullable c.args.reduced.now.grammar (symbol_of X ∷ [])) c.in-Terminal.is null)),
)
