use Rattle.std.proofs.Common.{◌≡◌, ◌++◌, ◌∷◌, ℕ, List, [], None, Ok, vec_capacity}
use Rattle.ly_base.specs.Bytes.{newline}
use Rattle.ly_print.specs.TextWriter.{IsAppended}
use Rattle.ly_tree.specs.Private.Printing.{left_text, next_text, terms_left, IsOpen}
use Rattle.ly_tree.proofs.term_line.TermLine.write.Given as goal

-- what was printed, what is left and a newline are the whole line
abbrev pub invariant-loop-next : goal.invariant-loop-next
invariant-loop-next g l =
    let v = g.N.TermNotation.form l.notation in
    let sink = g.S.Sink in
    record {
      so_far : (told : List ℕ)
          × ((told ++ (next_text v l.forest l.next
          ++ left_text v l.forest l.printing.waiting.items l.printing.others)) ++ newline ∷ [] ≡ l.fn.self)
          × IsAppended (record { sent = 0; held = [] }) l.out (sink.contents l.fn.writer)
          (sink.contents l.writer) told (Ok tt);
      stands : IsOpen l.forest l.printing.waiting.items l.printing.others l.next (vec_capacity l.printing.waiting);
      ends : l.next ≡ None → l.printing.waiting.items ≡ [];
      no_failure : sink.failures l.writer ≡ sink.failures l.fn.writer;
    }

abbrev pub decreases-loop-next : goal.decreases-loop-next
decreases-loop-next g l = terms_left l.forest l.next l.printing.waiting.items l.printing.others
