use Rattle.std.proofs.Common.{◌≡◌, ◌+◌, arith, length, subst, sym}
use Rattle.std.specs.Prelude.{◌-◌}
use Rattle.ly_position.specs.Nfa.{ReadsByte}
use Rattle.ly_subset.specs.Private.Chains.{IsLastReader}
use Rattle.ly_subset.specs.Private.Members.{listed}
use Rattle.ly_subset.proofs.ChainLemmas.{last_found, none_found, passed_more}
use Rattle.ly_subset.proofs.chains.last_of.Goals as goal

pub returns-then-reads : goal.returns-then-reads
returns-then-reads c =
    let nfa = c.args.nfa.now in
    let ps = listed c.args.from.now in
    let passed = c.loop-passed.passed in
    let k = c.len.result - 1 - passed in
    let at : k + passed + 1 ≡ length ps = (let all = c.len.ensures in let end = c.len-passed-end.ensures in
    let l = c.loop-passed-test.true in omega arith) in
    subst (IsLastReader nfa ps c.args.byte) (sym c.at-number.ensures)
    (last_found nfa ps c.args.byte c.requires.rising passed k at
    (subst (λ q. ReadsByte nfa q c.args.byte) c.at-number.ensures c.if-reads.ensures)
    c.loop-passed.invariant)

pub loop-passed-preserved : goal.loop-passed-preserved
loop-passed-preserved c =
    let nfa = c.args.nfa.now in
    let ps = listed c.args.from.now in
    let passed = c.loop-passed.passed in
    let k = c.len.result - 1 - passed in
    let at : k + passed + 1 ≡ length ps = (let all = c.len.ensures in let end = c.len-passed-end.ensures in
    let l = c.loop-passed-test.true in omega arith) in
    passed_more nfa ps c.args.byte c.requires.rising passed k at
    (subst (λ q. ReadsByte nfa q c.args.byte → ⊥) c.at-number.ensures c.if-reads.ensures)
    c.loop-passed.invariant

pub returns : goal.returns
returns c = let all = c.len-passed-end.ensures in let past = c.loop-passed-test.false in
    none_found c.args.nfa.now (listed c.args.from.now) c.args.byte c.requires.rising c.loop-passed.passed (omega arith)
    c.loop-passed.invariant
