use Rattle.std.proofs.Common.{◌≡◌}
use Rattle.std.specs.Io.KnownBytes.{Consumes}
use Rattle.ly_print.proofs.whole.read_whole.Given as goal

-- what was read so far has left the source, and nothing failed
abbrev pub invariant-loop : goal.invariant-loop
invariant-loop g l = let source = g.S.Source in record {
  taken : Consumes (source.remaining l.initial.source) (source.remaining l.source) l.read.items;
  counted : source.failures l.source ≡ source.failures l.initial.source;
}
