use Rattle.std.proofs.Common.{◌<◌, ◌+◌, ◌*◌, arith, length, subst}
use Rattle.ly_subset.specs.Automaton.{Automaton}
use Rattle.ly_subset.specs.Dfa.{automaton_of}
use Rattle.ly_subset.proofs.DfaLemmas.{entry_state}
use Rattle.ly_subset.proofs.dfa.Dfa.start.Goals as goal

pub returns-then-place-self-clause-within : goal.returns-then-place-self-clause-within
returns-then-place-self-clause-within c =
    let place = 2 * c.args.condition + c.from.result in
    let full = c.self.invariant.full in
    let there : place < length (automaton_of c.self.inside).entries = omega (arith, c.if-place-self.true, full) in
    entry_state c.self.inside c.args.self.now c.self.view_is c.self.invariant place c.index.result.now c.state.result
    (subst (λ (A : Automaton). place < length A.entries) c.self.view_is there) c.index.ensures c.state.ensures
