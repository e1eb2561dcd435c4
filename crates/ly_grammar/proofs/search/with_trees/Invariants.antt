use Rattle.std.proofs.Common.{◌≡◌, ◌<◌, ◌≤◌, ℕ, [], drop}
use Rattle.ly_join.specs.Grammar.{GrammarRule, IsRule}
use Rattle.ly_grammar.specs.Reduction.{restricted}
use Rattle.ly_grammar.specs.Private.Search.{IsSearch, Settled, left_to_do}
use Rattle.ly_grammar.proofs.search.with_trees.Given as goal

-- the rules before this one are settled
abbrev pub invariant-loop-number : goal.invariant-loop-number
invariant-loop-number l = record {
  search : IsSearch (restricted l.kept l.grammar) l.search;
  terminals : l.search.terminals ≡ l.terminals;
  settled : (p : ℕ) (r : GrammarRule) → IsRule (restricted l.kept l.grammar) p r → p < l.number
      → Settled l.search [] p r;
}

-- all rules are settled
abbrev pub invariant-loop-waiting : goal.invariant-loop-waiting
invariant-loop-waiting l = record {
  search : IsSearch (restricted l.kept l.grammar) l.search;
  terminals : l.search.terminals ≡ l.terminals;
  settled : (p : ℕ) (r : GrammarRule) → IsRule (restricted l.kept l.grammar) p r → Settled l.search [] p r;
}

abbrev pub decreases-loop-waiting : goal.decreases-loop-waiting
decreases-loop-waiting l = left_to_do l.search

-- all rules are settled, but for those that waited from this one on
abbrev pub invariant-loop-number-2 : goal.invariant-loop-number-2
invariant-loop-number-2 l = record {
  search : IsSearch (restricted l.kept l.grammar) l.search;
  terminals : l.search.terminals ≡ l.terminals;
  settled : (p : ℕ) (r : GrammarRule) → IsRule (restricted l.kept l.grammar) p r
      → Settled l.search (drop l.number-index l.number-items) p r;
  work : left_to_do l.search ≤ left_to_do l.initial.search;
}
