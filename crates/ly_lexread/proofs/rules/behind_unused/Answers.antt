use Rattle.std.proofs.Common.{inl, refl, sym, ◌∙◌}
use Rattle.ly_lexread.proofs.RuleLemmas.{rules_unclosed, settled}
use Rattle.ly_lexread.proofs.rules.behind_unused.Goals as goal

pub returns-in-Unused-clause-ok : goal.returns-in-Unused-clause-ok
returns-in-Unused-clause-ok c = (
  c.in-Some.line.now,
  c.in-Some.behind.bytes.now,
  c.in-Some.ensures.these,
  inl (sym c.kind_of.ensures ∙ c.in-Unused.is, refl),
)

pub returns-in-None-clause-refused : goal.returns-in-None-clause-refused
returns-in-None-clause-refused c = λ cs names rules sayings lefts.
    rules_unclosed cs names c.args.text.bytes.now c.in-Some.line.now c.in-Some.behind.bytes.now rules sayings
    lefts c.in-Some.ensures.these (sym c.kind_of.ensures ∙ c.in-Block.is) c.in-None.ensures.these

pub returns-in_default-kind_of-clause-ok : goal.returns-in_default-kind_of-clause-ok
returns-in_default-kind_of-clause-ok c = settled c.args.text.bytes.now c.in-Some.line.now c.in-Some.behind.bytes.now
    c.in-Some.ensures.these (λ e. c.in_default-kind_of.not-Unused (c.kind_of.ensures ∙ e))
    (λ e. c.in_default-kind_of.not-Block (c.kind_of.ensures ∙ e))
