use Rattle.std.proofs.Common.{false, subst, refl}
use Rattle.std.proofs.lemmas.Bool.{both_ways, iff_false}
use Rattle.ly_grammar.specs.Derivations.{BeginsYield}
use Rattle.ly_relate.specs.Private.Walks.{HasNumberTo}
use Rattle.ly_counterexamples.proofs.RestLemmas.{begins_here, begins_more, begins_no_more}
use Rattle.ly_counterexamples.proofs.RestLemmas.{begins_none, rest_none, symbol_within}
use Rattle.ly_counterexamples.proofs.rest.begins.Goals as goal

pub symbol_begins-requires-clause-within : goal.symbol_begins-requires-clause-within
symbol_begins-requires-clause-within c = symbol_within (HasNumberTo c.args.reduced.now.grammar.accept)
    c.args.symbols.now
    c.loop-symbol.symbol-index c.requires.within c.loop-symbol-test.true

pub passes-requires : goal.passes-requires
passes-requires c = symbol_within (HasNumberTo c.args.reduced.now.grammar.accept) c.args.symbols.now
    c.loop-symbol.symbol-index c.requires.within c.loop-symbol-test.true

pub returns-then-symbol_begins : goal.returns-then-symbol_begins
returns-then-symbol_begins c = (
  λ yes. begins_here c.args.reduced.now.grammar c.args.symbols.now c.loop-symbol.symbol-index c.loop-symbol-test.true
      c.args.terminal.0 c.loop-symbol.invariant c.requires.trees (c.symbol_begins.ensures.0 c.if-symbol_begins.true),
  λ begins. refl,
)

pub returns-then-not-passes : goal.returns-then-not-passes
returns-then-not-passes c = (
  λ yes. absurd (both_ways false refl yes),
  λ begins. absurd (begins_no_more c.args.reduced.now.grammar c.args.symbols.now c.loop-symbol.symbol-index
      c.loop-symbol-test.true
      c.args.terminal.0 c.loop-symbol.invariant
      (iff_false c.symbol_begins.ensures c.if-symbol_begins.false)
      (iff_false c.passes.ensures c.if-not-passes.true) begins),
)

pub loop-symbol-preserved : goal.loop-symbol-preserved
loop-symbol-preserved c = begins_more c.args.reduced.now.grammar c.args.symbols.now c.loop-symbol.symbol-index
    c.loop-symbol-test.true c.args.terminal.0 c.loop-symbol.invariant
    (iff_false c.symbol_begins.ensures c.if-symbol_begins.false)
    (c.passes.ensures.0 c.if-not-passes.false)

pub returns : goal.returns
returns c = (
  λ yes. absurd (both_ways false refl yes),
  λ begins. absurd (begins_none c.args.reduced.now.grammar c.args.terminal.0
      (subst (λ w. BeginsYield c.args.reduced.now.grammar w c.args.terminal.0)
      (rest_none c.args.symbols.now c.loop-symbol.symbol-index c.loop-symbol-test.false)
      (c.loop-symbol.invariant.0 begins))),
)
