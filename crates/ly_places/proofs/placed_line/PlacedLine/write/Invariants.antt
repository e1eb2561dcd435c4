use Rattle.std.proofs.Common.{◌≡◌, ◌≤◌, ◌+◌, ◌++◌, ◌∷◌, ℕ, List, [], Ok, length, reverse, vec_capacity, vec_len}
use Rattle.ly_base.specs.Bytes.{newline}
use Rattle.ly_places.specs.Private.Printing.{parts_text, AreSound}
use Rattle.ly_feed.specs.NameMembers.{vocabulary_in}
use Rattle.ly_print.specs.TextWriter.{IsAppended}
use Rattle.ly_places.proofs.placed_line.PlacedLine.write.Given as goal

-- what was printed, what is left and a newline are the whole line
abbrev pub invariant-loop-part : goal.invariant-loop-part
invariant-loop-part g l = let sink = g.S.Sink in record {
  so_far : (told : List ℕ)
      × ((told ++ parts_text (vocabulary_in l.notation.names) l.notation.lines (reverse l.printing.nodes.items) l.rest)
      ++ newline ∷ [] ≡ l.fn.self)
      × IsAppended (record { sent = 0; held = [] }) l.printing.out (sink.contents l.fn.writer)
      (sink.contents l.writer) told (Ok tt);
  sound : AreSound (length l.notation.lines) l.rest;
  room : vec_len l.printing.nodes + length l.rest ≤ vec_capacity l.printing.nodes;
  no_failure : sink.failures l.writer ≡ sink.failures l.fn.writer;
}

abbrev pub decreases-loop-part : goal.decreases-loop-part
decreases-loop-part g l = length l.rest
