use Rattle.ly_report.proofs.LawLemmas.{one_counts}
use Rattle.ly_report.proofs.laws.counts_are_one.Goals as goal

pub returns : goal.returns
returns c = one_counts
