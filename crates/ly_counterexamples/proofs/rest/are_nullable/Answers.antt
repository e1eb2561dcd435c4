use Rattle.std.proofs.Common.{false, subst, refl, sym}
use Rattle.std.proofs.lemmas.Bool.{both_ways, iff_false}
use Rattle.ly_base.specs.Trees.{none}
use Rattle.ly_grammar.specs.Derivations.{IsNullable}
use Rattle.ly_relate.specs.Private.Walks.{HasNumberTo}
use Rattle.ly_counterexamples.proofs.RestLemmas.{nullable_more, nullable_no_more, rest_none, symbol_within}
use Rattle.ly_counterexamples.proofs.rest.are_nullable.Goals as goal

pub passes-requires : goal.passes-requires
passes-requires c = symbol_within (HasNumberTo c.args.reduced.now.grammar.accept) c.args.symbols.now
    c.loop-symbol.symbol-index c.requires c.loop-symbol-test.true

pub returns-then-not-passes : goal.returns-then-not-passes
returns-then-not-passes c = (
  λ yes. absurd (both_ways false refl yes),
  λ null. absurd (nullable_no_more c.args.reduced.now.grammar c.args.symbols.now c.loop-symbol.symbol-index
      c.loop-symbol-test.true
      c.loop-symbol.invariant (iff_false c.passes.ensures c.if-not-passes.true) null),
)

pub loop-symbol-preserved : goal.loop-symbol-preserved
loop-symbol-preserved c = nullable_more c.args.reduced.now.grammar c.args.symbols.now c.loop-symbol.symbol-index
    c.loop-symbol-test.true c.loop-symbol.invariant (c.passes.ensures.0 c.if-not-passes.false)

pub returns : goal.returns
returns c = (
  λ yes. c.loop-symbol.invariant.1 (subst (IsNullable c.args.reduced.now.grammar)
      (sym (rest_none c.args.symbols.now c.loop-symbol.symbol-index c.loop-symbol-test.false)) (none, tt, refl)),
  λ null. refl,
)
