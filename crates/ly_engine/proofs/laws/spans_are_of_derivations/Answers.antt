use Rattle.ly_engine.proofs.SpanLemmas.{spans_of_derivations, spans_of_given_tokens, spans_of_the_only_derivation}
use Rattle.ly_engine.proofs.laws.spans_are_of_derivations.Goals as goal

pub returns-clause-derivation : goal.returns-clause-derivation
returns-clause-derivation c = spans_of_derivations

pub returns-clause-only : goal.returns-clause-only
returns-clause-only c = spans_of_the_only_derivation

pub returns-clause-given : goal.returns-clause-given
returns-clause-given c = spans_of_given_tokens
