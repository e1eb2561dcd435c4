use Rattle.ly_join.specs.Numbering.{appearing, left_sides}
use Rattle.ly_join.specs.Terminals.{end, undefined, same_terminal}
use Rattle.std.proofs.Common.{◌∷◌}
use Rattle.std.specs.Str.{bytes_eq}
use Rattle.ly_join.proofs.LawLemmas.{are_first}
use Rattle.ly_join.proofs.TableLemmas.{bytes_itself, same_bytes, same_itself, same_sound}
use Rattle.ly_join.proofs.laws.numbered_by_first.Goals as goal

pub returns : goal.returns
returns c = λ w. (
  are_first same_terminal same_sound same_itself (end ∷ undefined ∷ appearing w),
  are_first bytes_eq same_bytes bytes_itself (left_sides w),
)
