use Rattle.std.proofs.Common.{◌≡◌, ◌≤◌, ◌+◌, ◌++◌, ℕ, List, None, Ok, length, vec_capacity, vec_len}
use Rattle.ly_print.specs.TextWriter.{bytes_of, IsAppended}
use Rattle.ly_tree.specs.Forest.{Grown}
use Rattle.ly_tree.specs.Private.Printing.{left_text, terms_left, IsAlone, IsOpen}
use Rattle.ly_tree.proofs.printing.Printing.go_on.Given as goal

-- what was printed and what is left are what was left
abbrev pub invariant-loop-next : goal.invariant-loop-next
invariant-loop-next g l = let sink = g.S.Sink in let v = g.N.TermNotation.form l.notation in record {
  alone : IsAlone l.self.waiting.items l.self.others;
  so_far : (f : Grown) → (told : List ℕ)
      × (told ++ left_text v f l.self.waiting.items l.self.others
      ≡ left_text v f l.fn.self.waiting.items l.fn.self.others)
      × IsAppended l.fn.out l.out (sink.contents l.fn.writer) (sink.contents l.writer) told (Ok tt);
  counted : (f : Grown) → bytes_of l.out + length (left_text v f l.self.waiting.items l.self.others)
      ≡ bytes_of l.fn.out + length (left_text v f l.fn.self.waiting.items l.fn.self.others);
  fewer : (f : Grown) → terms_left f None l.self.waiting.items l.self.others
      ≤ terms_left f None l.fn.self.waiting.items l.fn.self.others;
  stands : (f : Grown) (room : ℕ) → IsOpen f l.fn.self.waiting.items l.fn.self.others None room
      → IsOpen f l.self.waiting.items l.self.others None room;
  capacity : vec_capacity l.self.waiting ≡ vec_capacity l.fn.self.waiting;
  no_failure : sink.failures l.writer ≡ sink.failures l.fn.writer;
}

abbrev pub decreases-loop-next : goal.decreases-loop-next
decreases-loop-next g l = vec_len l.self.waiting
