use Rattle.std.proofs.Common.{subst}
use Rattle.ly_position.specs.Nfa.{Nfa, BeginsChain}
use Rattle.ly_position.specs.Private.Chain.{BeginsAt}
use Rattle.ly_position.proofs.ChainLemmas.{begins}
use Rattle.ly_position.proofs.nfa.PosNfa.begins_chain.Goals as goal

pub returns : goal.returns
returns c = λ holds.
    let inside = c.self.inside in
    subst (λ (nfa : Nfa). BeginsChain nfa c.args.number) c.self.view_is
    (begins inside.slots.items inside.forks.items inside.starts c.self.invariant.within c.args.number
    (subst (λ slots. BeginsAt slots c.args.number) c.deref.ensures.value (c.begins_chain.ensures holds)))
