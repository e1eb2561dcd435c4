use Rattle.ly_subset.proofs.DfaLemmas.{entry_state}
use Rattle.ly_subset.proofs.dfa.Dfa.entry.Goals as goal

pub returns-clause-within : goal.returns-clause-within
returns-clause-within c = entry_state c.self.inside c.args.self.now c.self.view_is c.self.invariant c.args.index
    c.index.result.now c.state.result c.requires c.index.ensures c.state.ensures
