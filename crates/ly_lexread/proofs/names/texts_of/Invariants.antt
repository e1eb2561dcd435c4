use Rattle.std.proofs.Common.{map, take}
use Rattle.ly_lexread.specs.Private.Names.{AreCut, parts_of}
use Rattle.ly_lexread.proofs.names.texts_of.Given as goal

-- those of the lines so far
abbrev pub invariant-loop-line : goal.invariant-loop-line
invariant-loop-line l = record { so_far : AreCut (map parts_of (take l.line-index l.lines)) l.texts }
