use Rattle.std.proofs.Common.{subst}
use Rattle.ly_feed.proofs.FaultLemmas.{same_count, same_fault}
use Rattle.ly_feed.specs.declared.outcome.Outcome.TheVariants.{Tree}
use Rattle.ly_feed.specs.declared.text_fault.TextFault.TheVariants.{Write}
use Rattle.ly_places.proofs.PlacingLemmas.{stands_within, tree_answer}
use Rattle.ly_places.proofs.placing.write_tree.Goals as goal
use Rattle.ly_print.specs.TextWriter.{IsCutShort}

pub new-requires : goal.new-requires
new-requires g c =
    let h = c.requires in record {
      placed = (h.0, h.2, stands_within c.args.set.now c.args.text.now h.0 h.1);
    }

pub returns-in_err-write-clause-beginning : goal.returns-in_err-write-clause-beginning
returns-in_err-write-clause-beginning g c written is =
    let h = c.requires in
    let line = c.in_ok-line.line in
    let count = c.in_err-write.field-0.0.written in
    let same = same_count count written (same_fault c.from_residual-in_err-write.result (Write count) (Write written)
    c.from_residual-in_err-write.ensures.1 is) in (
      line,
      Tree,
      tree_answer c.args.set.now c.args.text.now h.0 h.1 c.in_ok-of.field-0 c.in_ok-of.ensures line
          (c.in_ok-line.ensures h.0 h.2),
      subst (λ n. IsCutShort (g.W.Sink.contents c.args.writer.now) (g.W.Sink.contents c.write.new.writer) n line) same
          c.in_err-write.ensures.cut_short,
    )

pub returns-clause-answered : goal.returns-clause-answered
returns-clause-answered g c =
    let h = c.requires in
    let line = c.in_ok-line.line in (
      line,
      tree_answer c.args.set.now c.args.text.now h.0 h.1 c.in_ok-of.field-0 c.in_ok-of.ensures line
          (c.in_ok-line.ensures h.0 h.2),
      c.in_ok-write.ensures.ok,
    )
