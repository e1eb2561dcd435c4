use Rattle.ly_sets.specs.NumberSet.{Member}
use Rattle.ly_lookahead.specs.Lookaheads.{set_at}
use Rattle.ly_lr0.specs.Automaton.{state_at}
use Rattle.ly_resolve.proofs.RawLemmas.{AreFoundTo}
use Rattle.ly_resolve.proofs.asking.find_reductions.Given as goal

-- the rules before this one that have the terminal among their lookaheads are found
abbrev pub invariant-loop-place : goal.invariant-loop-place
invariant-loop-place l = AreFoundTo (state_at l.lr0 l.state.0).complete
    (λ k. Member (set_at l.lookaheads l.state.0 k) l.terminal.0) l.place l.found.items
