use Rattle.std.proofs.Common.{◌≡◌, ◌≤◌, ◌+◌, ◌++◌, ℕ, List, Ok, length, reverse, vec_capacity, vec_len}
use Rattle.ly_print.specs.TextWriter.{bytes_of, IsAppended}
use Rattle.ly_places.specs.Private.Printing.{closing, still_open}
use Rattle.ly_places.proofs.printing.Printing.close.Given as goal

-- what was printed and what is left are what was left
abbrev pub invariant-loop-behind : goal.invariant-loop-behind
invariant-loop-behind g l = let sink = g.S.Sink in record {
  so_far : (told : List ℕ) × (told ++ closing l.left (reverse l.self.nodes.items)
      ≡ closing l.left (reverse l.fn.self.nodes.items))
      × IsAppended l.fn.self.out l.self.out (sink.contents l.fn.writer) (sink.contents l.writer) told (Ok tt);
  counted : bytes_of l.self.out + length (closing l.left (reverse l.self.nodes.items))
      ≡ bytes_of l.fn.self.out + length (closing l.left (reverse l.fn.self.nodes.items));
  nodes : still_open l.left (reverse l.self.nodes.items) ≡ still_open l.left (reverse l.fn.self.nodes.items);
  depth : vec_len l.self.nodes ≤ vec_len l.fn.self.nodes;
  capacity : vec_capacity l.self.nodes ≡ vec_capacity l.fn.self.nodes;
  no_failure : sink.failures l.writer ≡ sink.failures l.fn.writer;
}

abbrev pub decreases-loop-behind : goal.decreases-loop-behind
decreases-loop-behind g l = vec_len l.self.nodes
