use Rattle.std.proofs.Common.{◌≡◌, ◌<◌, ◌≤◌, ℕ, length, None, get_or}
use Rattle.ly_pack.specs.Rows.{comb_entry}
use Rattle.ly_feed.specs.ScanPart.{states_from}
use Rattle.ly_feed.proofs.lexer_of_set.targets_of.Given as goal

-- the classes before this one are looked up, and those from it on lead nowhere yet
abbrev pub invariant-loop-class : goal.invariant-loop-class
invariant-loop-class l = record {
  count : length l.targets ≡ 256;
  looked_up : (class : ℕ) → class < l.class
      → get_or l.targets class None ≡ states_from (comb_entry l.comb) l.state.0 class;
  left : (class : ℕ) → l.class ≤ class → class < 256 → get_or l.targets class None ≡ None;
}
