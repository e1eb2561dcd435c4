use Rattle.std.proofs.Common.{◌≡◌, ◌<◌, ◌≤◌, ◌+◌, ℕ, [], length}
use Rattle.std.specs.Prelude.{◌↔◌, Contains, slice_index_or}
use Rattle.ly_join.specs.Grammar.{IsRule, GrammarRule}
use Rattle.ly_lr0.proofs.by_left.rules_by_left.Given as goal

-- the rules before this one stand in their lists
abbrev pub invariant-loop-number : goal.invariant-loop-number
invariant-loop-number l = record {
  count : length l.by_left ≡ l.reduced.grammar.accept + 1;
  rules : (A q : ℕ) → A ≤ l.reduced.grammar.accept → Contains (slice_index_or l.by_left A []) q
      ↔ ((q < l.number) × ((r : GrammarRule) × IsRule l.reduced.grammar q r × (r.left ≡ A)));
}
