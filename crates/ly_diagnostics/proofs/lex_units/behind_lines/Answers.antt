use Rattle.ly_diagnostics.specs.Lines.{none}
use Rattle.ly_diagnostics.proofs.IndentedLemmas.{one_more}
use Rattle.ly_diagnostics.proofs.lex_units.behind_lines.Goals as goal

pub loop-init : goal.loop-init
loop-init c = none c.args.text.now

pub loop-preserved : goal.loop-preserved
loop-preserved c = one_more c.loop.counter c.args.text.now c.loop.rest.now c.in-Some._line.now c.in-Some.behind.now
    c.loop.invariant c.in-Some.ensures
