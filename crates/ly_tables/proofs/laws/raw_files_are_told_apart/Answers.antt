use Rattle.std.specs.Int.{w16, w32}
use Rattle.ly_tables.proofs.ToldLemmas.{raw_is_one, shorts_told, wides_told}
use Rattle.ly_tables.proofs.laws.raw_files_are_told_apart.Goals as goal

pub returns : goal.returns
returns c = record { short = raw_is_one w16 shorts_told; wide = raw_is_one w32 wides_told }
