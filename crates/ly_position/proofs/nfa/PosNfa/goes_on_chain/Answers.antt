use Rattle.std.proofs.Common.{subst}
use Rattle.ly_position.specs.Nfa.{Nfa, GoesOnChain}
use Rattle.ly_position.specs.Private.Chain.{GoesOnAt}
use Rattle.ly_position.proofs.ChainLemmas.{goes_on}
use Rattle.ly_position.proofs.nfa.PosNfa.goes_on_chain.Goals as goal

pub returns : goal.returns
returns c = λ holds.
    let inside = c.self.inside in
    subst (λ (nfa : Nfa). GoesOnChain nfa c.args.number) c.self.view_is
    (goes_on inside.slots.items inside.forks.items inside.starts c.self.invariant.within c.args.number
    (subst (λ slots. GoesOnAt slots inside.forks.items c.args.number) c.deref.ensures.value
    (subst (λ forks. GoesOnAt c.deref.result.now forks c.args.number) c.deref-2.ensures.value
    (c.goes_on_chain.ensures holds))))
