use Rattle.std.proofs.Common.{◌∙◌, ◌++◌, ap, arith, length, length-append, refl, reverse}
use Rattle.std.proofs.lemmas.List.{nil_from_length}
use Rattle.ly_places.proofs.PlacedLineLemmas.{next_part, none_left, others_sound, part_cut, part_goes_on}
use Rattle.ly_places.specs.Private.Printing.{open_behind, part_text, parts_text}
use Rattle.ly_feed.specs.NameMembers.{vocabulary_in}
use Rattle.ly_print.proofs.TextWriterLemmas.{err_is}
use Rattle.ly_tree.proofs.PrintingLemmas.{line_counted, line_underway, newline_cut, where_err, where_ok}
use Rattle.ly_places.proofs.placed_line.PlacedLine.write.Goals as goal

pub print-requires-clause-countable : goal.print-requires-clause-countable
print-requires-clause-countable g c =
    let n = c.self.inside.notation in
    let v = vocabulary_in n.names in
    let now = c.loop-part in
    let nodes = reverse now.printing.nodes.items in
    let part = c.in-Some.part.now in
    let left = length c.in-Some.behind.now in
    let s = now.invariant.so_far in
    omega (
      arith,
      line_counted c.args.self _ now.printing.out _ s.0 (parts_text v n.lines nodes now.rest.now) s.1 s.2,
      c.self.invariant.4,
      ap length c.self.view_is,
      ap length (next_part v n.lines nodes now.rest.now c.in-Some.behind.now part left c.in-Some.ensures.cases.0
          refl),
      length-append (part_text v n.lines part left nodes)
          (parts_text v n.lines (open_behind part left nodes) c.in-Some.behind.now),
    )

pub returns-in_err-print-clause-cut_short : goal.returns-in_err-print-clause-cut_short
returns-in_err-print-clause-cut_short g c =
    let n = c.self.inside.notation in
    let v = vocabulary_in n.names in
    let now = c.loop-part in
    let nodes = reverse now.printing.nodes.items in
    let part = c.in-Some.part.now in
    let left = length c.in-Some.behind.now in
    let s = now.invariant.so_far in
    let fault = c.in_err-print.field-0.0 in
    err_is c.from_residual.result fault _ c.from_residual.ensures.1
    (part_cut c.args.self _ now.printing.out c.print.new.self.out _ _ s.0 (part_text v n.lines part left nodes)
    (parts_text v n.lines (open_behind part left nodes) c.in-Some.behind.now)
    (parts_text v n.lines nodes now.rest.now)
    (next_part v n.lines nodes now.rest.now c.in-Some.behind.now part left c.in-Some.ensures.cases.0 refl)
    s.1 s.2 fault c.in_err-print.ensures.text)

pub loop-part-preserved : goal.loop-part-preserved
loop-part-preserved g c =
    let n = c.self.inside.notation in
    let v = vocabulary_in n.names in
    let now = c.loop-part in
    let nodes = reverse now.printing.nodes.items in
    let part = c.in-Some.part.now in
    let behind = c.in-Some.behind.now in
    let left = length c.in-Some.behind.now in
    let s = now.invariant.so_far in record {
      so_far = part_goes_on c.args.self _ now.printing.out c.print.new.self.out _ _ s.0
          (part_text v n.lines part left nodes)
          (parts_text v n.lines (reverse c.print.new.self.nodes.items) behind)
          (parts_text v n.lines nodes now.rest.now)
          (ap (λ ns. part_text v n.lines part left nodes ++ parts_text v n.lines ns behind)
          c.in_ok-print.ensures.nodes
          ∙ next_part v n.lines nodes now.rest.now behind part left c.in-Some.ensures.cases.0 refl)
          s.1 s.2 c.in_ok-print.ensures.text;
      sound = (others_sound (length n.lines) now.rest.now behind part c.in-Some.ensures.cases.0 now.invariant.sound).1;
      room = omega (
        arith,
        now.invariant.room,
        c.in_ok-print.ensures.depth,
        c.print.ensures.capacity,
        ap length c.in-Some.ensures.cases.0,
      );
      no_failure = c.in_ok-print.ensures.no_failure ∙ now.invariant.no_failure;
    }

pub push-requires : goal.push-requires
push-requires g c =
    let n = c.self.inside.notation in
    let now = c.loop-part in
    let s = now.invariant.so_far in record {
      countable = omega (
        arith,
        line_counted c.args.self _ now.printing.out _ s.0
            (parts_text (vocabulary_in n.names) n.lines (reverse now.printing.nodes.items) now.rest.now) s.1 s.2,
        c.self.invariant.4,
        ap length c.self.view_is,
      );
    }

pub returns-in_err-push-clause-cut_short : goal.returns-in_err-push-clause-cut_short
returns-in_err-push-clause-cut_short g c =
    let n = c.self.inside.notation in
    let now = c.loop-part in
    let s = now.invariant.so_far in
    let is = none_left (vocabulary_in n.names) n.lines (reverse now.printing.nodes.items) s.0 c.args.self now.rest.now
    (nil_from_length now.rest.now c.in_default.ensures.cases) s.1 in
    err_is c.from_residual-in_err-push.result c.in_err-push.field-0.0 _ c.from_residual-in_err-push.ensures.1
    (newline_cut c.args.self _ now.printing.out c.push.new.self _ _ s.0 c.in_err-push.field-0.0 is s.2
    c.in_err-push.ensures.text)

pub finish-requires : goal.finish-requires
finish-requires g c =
    let n = c.self.inside.notation in
    let now = c.loop-part in
    let s = now.invariant.so_far in record {
      countable = omega (
        arith,
        line_counted c.args.self _ now.printing.out _ s.0
            (parts_text (vocabulary_in n.names) n.lines (reverse now.printing.nodes.items) now.rest.now) s.1 s.2,
        c.in_ok-push.ensures.counted,
        c.self.invariant.4,
        ap length c.self.view_is,
      );
    }

pub returns-clause-ok : goal.returns-clause-ok
returns-clause-ok g c =
    let n = c.self.inside.notation in
    let now = c.loop-part in
    let s = now.invariant.so_far in
    let before = g.S.Sink.contents c.args.writer.now in
    let is = none_left (vocabulary_in n.names) n.lines (reverse now.printing.nodes.items) s.0 c.args.self now.rest.now
    (nil_from_length now.rest.now c.in_default.ensures.cases) s.1 in
    where_ok c.finish.result _ _
    (c.finish.ensures.text before c.args.self (line_underway c.args.self before now.printing.out c.push.new.self _ _
    s.0 is s.2 c.in_ok-push.ensures.text))

pub returns-clause-cut_short : goal.returns-clause-cut_short
returns-clause-cut_short g c =
    let n = c.self.inside.notation in
    let now = c.loop-part in
    let s = now.invariant.so_far in
    let before = g.S.Sink.contents c.args.writer.now in
    let is = none_left (vocabulary_in n.names) n.lines (reverse now.printing.nodes.items) s.0 c.args.self now.rest.now
    (nil_from_length now.rest.now c.in_default.ensures.cases) s.1 in
    where_err c.finish.result _ _
    (c.finish.ensures.text before c.args.self (line_underway c.args.self before now.printing.out c.push.new.self _ _
    s.0 is s.2 c.in_ok-push.ensures.text))
