use Rattle.ly_subset.proofs.DfaLemmas.{next_state}
use Rattle.ly_subset.proofs.dfa.Dfa.next.Goals as goal

pub returns-clause-within : goal.returns-clause-within
returns-clause-within c = next_state c.self.inside c.args.self.now c.self.view_is c.self.invariant c.args.state
    c.args.class c.index.result.now c.state.result c.requires.state c.requires.class c.index.ensures c.state.ensures
