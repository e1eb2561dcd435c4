use Rattle.std.proofs.Common.{◌≡◌, ◌<◌, ℕ, get_or, length}
use Rattle.std.specs.Prelude.{◌-◌}
use Rattle.ly_subset.specs.Private.Chains.{IsChain}
use Rattle.ly_subset.proofs.chains.chains.Given as goal

-- the positions before this one have their chains
abbrev pub invariant-loop-number : goal.invariant-loop-number
invariant-loop-number l = record {
  count : length l.firsts.items ≡ l.number;
  chain : (p : ℕ) → p < l.number → 0 < get_or l.firsts.items p 0 → IsChain l.nfa (get_or l.firsts.items p 0) p;
  last : 0 < l.first → IsChain l.nfa l.first (l.number - 1);
}
