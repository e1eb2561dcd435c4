use Rattle.std.proofs.Common.{arith, below_more, get_or, subst}
use Rattle.ly_position.specs.Nfa.{ReadsByte}
use Rattle.ly_subset.specs.Private.Members.{listed}
use Rattle.ly_subset.proofs.ChainLemmas.{none_at_all, none_below}
use Rattle.ly_subset.proofs.chains.reads_below.Goals as goal

pub returns-then-number-bound : goal.returns-then-number-bound
returns-then-number-bound c = λ no. none_below c.args.nfa.now (listed c.args.from.now) c.args.byte c.requires.rising
    c.args.bound c.loop-place.place
    (let all = c.len-place-end.ensures in let l = c.loop-place-test.true in omega arith)
    (let at = c.at-number.ensures in let up = c.if-number-bound.true in omega arith) c.loop-place.invariant

pub loop-place-preserved : goal.loop-place-preserved
loop-place-preserved c = below_more
    (λ k. ReadsByte c.args.nfa.now (get_or (listed c.args.from.now) k 0) c.args.byte → ⊥)
    c.loop-place.place c.loop-place.invariant
    (subst (λ q. ReadsByte c.args.nfa.now q c.args.byte → ⊥) c.at-number.ensures c.if-reads.ensures)

pub returns : goal.returns
returns c = λ no. none_at_all c.args.nfa.now (listed c.args.from.now) c.args.byte c.requires.rising c.args.bound
    c.loop-place.place (let all = c.len-place-end.ensures in let past = c.loop-place-test.false in omega arith)
    c.loop-place.invariant
