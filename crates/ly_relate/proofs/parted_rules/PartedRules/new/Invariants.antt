use Rattle.std.proofs.Common.{◌≡◌, ◌<◌, ◌≤◌, ◌+◌, ℕ, [], length, map, slice_index_or}
use Rattle.ly_relate.specs.Private.Groups.{AreParted}
use Rattle.ly_relate.proofs.parted_rules.PartedRules.new.Given as goal

-- the rules of the nonterminals before this one are listed
abbrev pub invariant-loop-symbol : goal.invariant-loop-symbol
invariant-loop-symbol l = record {
  within : l.symbol ≤ l.lr0.grammar.accept + 1;
  solid : length l.solid.items ≡ l.symbol;
  others : length l.others.items ≡ l.symbol;
  each : (A : ℕ) → A < l.symbol → AreParted l.lr0 A (slice_index_or (map (λ v. v.items) l.solid.items) A [])
      (slice_index_or (map (λ v. v.items) l.others.items) A []);
}
