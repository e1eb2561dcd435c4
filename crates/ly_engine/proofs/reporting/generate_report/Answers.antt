use Rattle.ly_generate.proofs.ReportLemmas.{wanted_is_there}
use Rattle.ly_engine.proofs.reporting.generate_report.Goals as goal

pub unwrap-text-requires : goal.unwrap-text-requires
unwrap-text-requires g c =
    let told = c.in_ok-parser.ensures.parser in
    wanted_is_there told.0 c.in_ok-parser.parser.report told.2.reported
