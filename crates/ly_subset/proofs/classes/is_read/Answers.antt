use Rattle.std.proofs.Common.{arith, below_more}
use Rattle.ly_position.specs.Nfa.{ReadsByte}
use Rattle.ly_subset.proofs.ClassLemmas.{read_by_none}
use Rattle.ly_subset.proofs.classes.is_read.Goals as goal

pub loop-number-preserved : goal.loop-number-preserved
loop-number-preserved c = below_more (λ p. ReadsByte c.args.nfa.now p c.args.byte → ⊥) c.loop-number.number
    c.loop-number.invariant c.if-reads.ensures

pub returns : goal.returns
returns c = λ _. read_by_none c.args.nfa.now c.loop-number.number c.args.byte
    (let count = c.in-Ok.ensures in let all = c.len.ensures in let stop = c.loop-number-test.false in omega arith)
    c.loop-number.invariant
