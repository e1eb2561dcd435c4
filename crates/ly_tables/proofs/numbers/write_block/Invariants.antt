use Rattle.std.proofs.Common.{◌≡◌, ◌*◌, take}
use Rattle.std.specs.List.{flat_map}
use Rattle.std.specs.Int.{byte_len}
use Rattle.ly_tables.specs.Ranges.{width_of}
use Rattle.ly_tables.specs.Spelling.{number}
use Rattle.ly_tables.proofs.numbers.write_block.Given as goal

-- the numbers of the items so far are written
abbrev pub invariant-loop-i : goal.invariant-loop-i
invariant-loop-i g l = take (byte_len (width_of l.version) * l.i) l.bytes
    ≡ flat_map (λ x. number (width_of l.version) (g.N.Numbering.code l.version x)) (take l.i l.items)
