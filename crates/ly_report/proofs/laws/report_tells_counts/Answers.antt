use Rattle.ly_report.proofs.LawLemmas.{report_has_counts}
use Rattle.ly_report.proofs.laws.report_tells_counts.Goals as goal

pub returns : goal.returns
returns c = report_has_counts
