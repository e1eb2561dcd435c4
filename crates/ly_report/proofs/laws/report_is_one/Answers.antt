use Rattle.ly_report.proofs.LawLemmas.{one_report}
use Rattle.ly_report.proofs.laws.report_is_one.Goals as goal

pub returns : goal.returns
returns c = one_report
