use Rattle.std.proofs.Common.{◌≡◌, arith, subst, sym}
use Rattle.std.specs.Prelude.{◌-◌}
use Rattle.ly_subset.specs.Private.Chains.{IsChain}
use Rattle.ly_subset.proofs.ChainLemmas.{chain_begins, chain_goes_on}
use Rattle.ly_subset.proofs.chains.first_of.Goals as goal

pub returns-then-begins_chain : goal.returns-then-begins_chain
returns-then-begins_chain c = λ some.
    let fits = c.in-Ok.ensures in
    let same : c.in-Ok.position ≡ c.args.number = omega (arith, fits) in
    subst (λ n. IsChain c.args.nfa.now c.in-Ok.position n) same
    (chain_begins c.args.nfa.now c.in-Ok.position (c.begins_chain.ensures c.if-begins_chain.true))

pub returns-then-goes_on_chain : goal.returns-then-goes_on_chain
returns-then-goes_on_chain c = λ some.
    let fits = c.in-Ok.ensures in
    let same : c.in-Ok.position ≡ c.args.number = omega (arith, fits) in
    subst (λ n. IsChain c.args.nfa.now c.args.before n) same
    (chain_goes_on c.args.nfa.now c.args.before c.in-Ok.position some
    (subst (λ n. IsChain c.args.nfa.now c.args.before (n - 1)) (sym same) (c.requires.before some))
    (c.goes_on_chain.ensures c.if-goes_on_chain.true))
