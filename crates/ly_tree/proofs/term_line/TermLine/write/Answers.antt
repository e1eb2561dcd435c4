use Rattle.std.proofs.Common.{◌∙◌, ◌++◌, ◌∷◌, [], ap, arith, length, sym, Ok}
use Rattle.ly_print.proofs.TextWriterLemmas.{err_is}
use Rattle.ly_base.specs.Bytes.{newline}
use Rattle.ly_tree.specs.Private.Printing.{left_text, next_text, term_text}
use Rattle.ly_tree.proofs.PrintingLemmas.{line_counted, line_cut, line_goes_on, line_underway}
use Rattle.ly_tree.proofs.PrintingLemmas.{newline_cut, newline_left}
use Rattle.ly_tree.proofs.PrintingLemmas.{where_err, where_ok}
use Rattle.ly_tree.proofs.term_line.TermLine.write.Goals as goal

pub returns-in_err-next-clause-cut_short : goal.returns-in_err-next-clause-cut_short
returns-in_err-next-clause-cut_short g c =
    let v = g.N.TermNotation.form c.self.inside.notation.now in
    let now = c.loop-next in
    let f = c.self.inside.forest.now in
    let left = left_text v f now.printing.waiting.items now.printing.others in
    let fault = c.in_err-next.field-0.0 in
    err_is c.from_residual.result fault _ c.from_residual.ensures.1
    (line_cut c.args.self _ now.out c.print.new.out _ _ now.invariant.so_far.0
    (term_text v f c.in-Some.term ++ left) fault
    (ap (λ n. (now.invariant.so_far.0 ++ (next_text v f n ++ left)) ++ newline ∷ []) (sym c.in-Some.is)
    ∙ now.invariant.so_far.1)
    now.invariant.so_far.2 c.in_err-next.ensures.printed)

pub loop-next-preserved : goal.loop-next-preserved
loop-next-preserved g c =
    let v = g.N.TermNotation.form c.self.inside.notation.now in
    let now = c.loop-next in
    let f = c.self.inside.forest.now in
    let left = left_text v f now.printing.waiting.items now.printing.others in record {
      so_far = line_goes_on c.args.self _ now.out c.print.new.out _ _ now.invariant.so_far.0
          (term_text v f c.in-Some.term ++ left)
          (λ n. next_text v f n ++ left_text v f c.print.new.self.waiting.items c.print.new.self.others)
          c.in_ok-next.next
          (ap (λ n. (now.invariant.so_far.0 ++ (next_text v f n ++ left)) ++ newline ∷ []) (sym c.in-Some.is)
          ∙ now.invariant.so_far.1)
          now.invariant.so_far.2 c.in_ok-next.ensures.printed;
      stands = c.in_ok-next.ensures.stands;
      ends = λ none. c.in_ok-next.ensures.ends (ap Ok none);
      no_failure = c.in_ok-next.ensures.no_failure ∙ now.invariant.no_failure;
    }

pub push-requires : goal.push-requires
push-requires g c =
    let v = g.N.TermNotation.form c.self.inside.notation.now in
    let now = c.loop-next in
    let f = c.self.inside.forest.now in record {
      countable = omega (
        arith,
        line_counted c.args.self _ now.out _ now.invariant.so_far.0
            (next_text v f now.next ++ left_text v f now.printing.waiting.items now.printing.others)
            now.invariant.so_far.1 now.invariant.so_far.2,
        c.self.invariant.3,
        ap length c.self.view_is,
      );
    }

pub returns-in_err-push-clause-cut_short : goal.returns-in_err-push-clause-cut_short
returns-in_err-push-clause-cut_short g c =
    let v = g.N.TermNotation.form c.self.inside.notation.now in
    let now = c.loop-next in
    let told = now.invariant.so_far.0 in
    let is = newline_left c.args.self (g.S.Sink.contents c.args.writer.now) v c.self.inside.forest.now
    now.printing.waiting.items now.printing.others now.next told c.in_default.is
    (now.invariant.ends c.in_default.is) now.invariant.so_far.1 in
    err_is c.from_residual-in_err-push.result c.in_err-push.field-0.0 _ c.from_residual-in_err-push.ensures.1
    (newline_cut c.args.self _ now.out c.push.new.self _ _ told c.in_err-push.field-0.0 is
    now.invariant.so_far.2 c.in_err-push.ensures.text)

pub finish-requires : goal.finish-requires
finish-requires g c =
    let v = g.N.TermNotation.form c.self.inside.notation.now in
    let now = c.loop-next in
    let f = c.self.inside.forest.now in record {
      countable = omega (
        arith,
        line_counted c.args.self _ now.out _ now.invariant.so_far.0
            (next_text v f now.next ++ left_text v f now.printing.waiting.items now.printing.others)
            now.invariant.so_far.1 now.invariant.so_far.2,
        c.in_ok-push.ensures.counted,
        c.self.invariant.3,
        ap length c.self.view_is,
      );
    }

pub returns-clause-ok : goal.returns-clause-ok
returns-clause-ok g c =
    let v = g.N.TermNotation.form c.self.inside.notation.now in
    let now = c.loop-next in
    let told = now.invariant.so_far.0 in
    let before = g.S.Sink.contents c.args.writer.now in
    let is = newline_left c.args.self before v c.self.inside.forest.now now.printing.waiting.items now.printing.others
    now.next told c.in_default.is (now.invariant.ends c.in_default.is) now.invariant.so_far.1 in
    where_ok c.finish.result _ _
    (c.finish.ensures.text before c.args.self (line_underway c.args.self before now.out c.push.new.self _ _
    told is now.invariant.so_far.2 c.in_ok-push.ensures.text))

pub returns-clause-cut_short : goal.returns-clause-cut_short
returns-clause-cut_short g c =
    let v = g.N.TermNotation.form c.self.inside.notation.now in
    let now = c.loop-next in
    let told = now.invariant.so_far.0 in
    let before = g.S.Sink.contents c.args.writer.now in
    let is = newline_left c.args.self before v c.self.inside.forest.now now.printing.waiting.items now.printing.others
    now.next told c.in_default.is (now.invariant.ends c.in_default.is) now.invariant.so_far.1 in
    where_err c.finish.result _ _
    (c.finish.ensures.text before c.args.self (line_underway c.args.self before now.out c.push.new.self _ _
    told is now.invariant.so_far.2 c.in_ok-push.ensures.text))

pub print-requires-clause-countable : goal.print-requires-clause-countable
print-requires-clause-countable g c =
    let v = g.N.TermNotation.form c.self.inside.notation.now in
    let now = c.loop-next in
    let f = c.self.inside.forest.now in
    let left = left_text v f now.printing.waiting.items now.printing.others in
    omega (
      arith,
      line_counted c.args.self _ now.out _ now.invariant.so_far.0 (term_text v f c.in-Some.term ++ left)
          (ap (λ n. (now.invariant.so_far.0 ++ (next_text v f n ++ left)) ++ newline ∷ []) (sym c.in-Some.is)
          ∙ now.invariant.so_far.1)
          now.invariant.so_far.2,
      c.self.invariant.3,
      ap length c.self.view_is,
    )
