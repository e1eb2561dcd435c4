use Rattle.std.proofs.Common.{◌≡◌, ◌≤◌, ℕ, drop, length, map}
use Rattle.ly_grammar.specs.Derivations.{IsNullable}
use Rattle.ly_join.specs.Grammar.{symbol_of}
use Rattle.ly_relate.specs.Private.Walks.{AreEdgesTo, IsIncludedAt}
use Rattle.ly_relate.proofs.walks.Walks.include.Given as goal

-- what stands behind this place is nullable, and the transitions there are included
abbrev pub invariant-loop-at : goal.invariant-loop-at
invariant-loop-at l = record {
  within : l.at ≤ length l.body;
  path : l.self.path ≡ l.initial.self.path;
  lookbacks : l.self.lookbacks ≡ l.initial.self.lookbacks;
  nodes : l.self.includes.nodes ≡ l.initial.self.includes.nodes;
  nullable : IsNullable l.gotos.automaton.grammar (drop l.at (map symbol_of l.body));
  edges : AreEdgesTo l.initial.self.includes l.self.includes l.node (λ i. (place : ℕ) × (l.at ≤ place)
      × IsIncludedAt l.gotos.automaton.grammar l.gotos.gotos (map symbol_of l.body)
      (map (λ q. q.0) l.initial.self.path.items) place i);
}

abbrev pub decreases-loop-at : goal.decreases-loop-at
decreases-loop-at l = l.at
