use Rattle.ly_counterexamples.proofs.WinLemmas.{matched_win}
use Rattle.ly_counterexamples.proofs.laws.matched_rules_win.Goals as goal

pub returns : goal.returns
returns c = matched_win
