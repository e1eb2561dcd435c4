use Rattle.ly_feed.specs.ScanPart.{scan_part_of}
use Rattle.ly_feed.proofs.OnwardLemmas.{from_start}
use Rattle.ly_feed.proofs.laws.a_beginning_says_it.Goals as goal
use Rattle.ly_tables.specs.TableSet.{machine_of}

pub returns : goal.returns
returns c s = from_start (scan_part_of s) (machine_of s)
