use Rattle.std.proofs.Common.{◌+◌, arith, sym, ◌∙◌}
use Rattle.ly_ere.proofs.FrontLemmas.{stands}
use Rattle.ly_ere.proofs.NamedLemmas.{mark_there, name_ends, name_line, name_more, name_more_mark, name_nowhere}
use Rattle.ly_ere.proofs.bracket.named_end.Goals as goal
use Rattle.ly_ere.proofs.bracket.named_end.Goals.{else-text-at-via-then-text-at+else-stands_at}
use Rattle.ly_ere.proofs.bracket.named_end.Goals.{else-text-at-via-else-text-at}

pub returns-then-text-at-eq10-clause-none : goal.returns-then-text-at-eq10-clause-none
returns-then-text-at-eq10-clause-none c = name_line c.loop-at.invariant c.loop-at-test.true c.if-text-at-eq10.true

pub returns-then-stands_at-clause-within : goal.returns-then-stands_at-clause-within
returns-then-stands_at-clause-within c = let k = stands c.args.text.now (c.loop-at.at + 1) 93 (sym c.stands_at.ensures
    ∙ c.if-stands_at.true) in (omega arith, omega (arith, k.0))

pub returns-then-stands_at-clause-ends : goal.returns-then-stands_at-clause-ends
returns-then-stands_at-clause-ends c
    = mark_there c.args.text.now c.args.mark c.loop-at.at c.loop-at-test.true c.if-text-at.true (sym c.stands_at.ensures
    ∙ c.if-stands_at.true)

pub returns-then-stands_at-clause-first : goal.returns-then-stands_at-clause-first
returns-then-stands_at-clause-first c = name_ends c.loop-at.invariant c.loop-at-test.true c.if-text-at.true

pub loop-at-preserved : goal.loop-at-preserved
loop-at-preserved c = elim c.else-text-at.branch [
  | else-text-at-via-then-text-at+else-stands_at w ↦
      name_more_mark c.loop-at.invariant c.loop-at-test.true w.if-text-at.true (sym w.stands_at.ensures
      ∙ w.if-stands_at.false)
  | else-text-at-via-else-text-at w ↦ name_more c.loop-at.invariant c.loop-at-test.true w.if-text-at.false
]

pub returns-clause-none : goal.returns-clause-none
returns-clause-none c = name_nowhere c.loop-at.invariant c.loop-at-test.false
