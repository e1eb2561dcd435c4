use Rattle.ly_feed.specs.ScanPart.{scan_part_of}
use Rattle.ly_feed.specs.TableAnswer.{begun, end_of}
use Rattle.ly_feed.proofs.OneVerdictLemmas.{one_verdict}
use Rattle.ly_feed.proofs.laws.a_text_has_one_verdict.Goals as goal
use Rattle.ly_tables.specs.TableSet.{machine_of}

pub returns : goal.returns
returns c s text v u a b = one_verdict (scan_part_of s) (machine_of s) (begun text) (end_of text) v u
    c.a_token_is_fed_in_one_way.ensures a b
