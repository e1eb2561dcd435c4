use Rattle.std.proofs.Common.{◌++◌, ◌∷◌, [], subst}
use Rattle.std.specs.Io.KnownBytes.{Appends}
use Rattle.ly_base.specs.Bytes.{newline}
use Rattle.ly_print.specs.TextWriter.{IsCutShort}
use Rattle.ly_feed.specs.declared.text_fault.TextFault.TheVariants.{Write}
use Rattle.ly_feed.proofs.FaultLemmas.{same_count, same_fault}
use Rattle.ly_feed.proofs.lines.write_line.Goals as goal
use Rattle.ly_tree.specs.Written as tree

pub returns-in_err-write-clause-beginning : goal.returns-in_err-write-clause-beginning
returns-in_err-write-clause-beginning g c written t is stands =
    let sink = g.W.Sink in
    let count = c.in_err-write.field-0.0.written in
    let same = same_count count written (same_fault c.from_residual-in_err-write.result (Write count) (Write written)
    c.from_residual-in_err-write.ensures.1 is) in
    subst (λ k. IsCutShort (sink.contents c.args.writer.now) (sink.contents c.write.new.writer) k
    (tree.written (g.N.TermNotation.form c.args.notation.now) t ++ newline ∷ [])) same
    (subst (IsCutShort (sink.contents c.args.writer.now) (sink.contents c.write.new.writer) count)
    (c.in_ok-line.ensures t stands) c.in_err-write.ensures.cut_short)

pub returns-clause-ok : goal.returns-clause-ok
returns-clause-ok g c t stands =
    let sink = g.W.Sink in
    subst (Appends (sink.contents c.args.writer.now) (sink.contents c.write.new.writer))
    (c.in_ok-line.ensures t stands) c.in_ok-write.ensures.ok
