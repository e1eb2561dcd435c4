use Rattle.std.proofs.Common.{Err, ap, refl, subst, sym}
use Rattle.std.specs.Io.KnownBytes.{Appends}
use Rattle.ly_print.specs.TextWriter.{IsCutShort}
use Rattle.ly_feed.proofs.FaultLemmas.{same_fault}
use Rattle.ly_feed.proofs.LineLemmas.{term_written}
use Rattle.ly_feed.specs.Closed.{IsVerdictOf}
use Rattle.ly_feed.specs.Private.Running.{words_of}
use Rattle.ly_feed.specs.Verdict.{IsOutcome}
use Rattle.ly_feed.specs.Vocabularies.{vocabulary_of}
use Rattle.ly_feed.specs.declared.text_fault.TextFault.TheVariants.{Write}
use Rattle.ly_feed.specs.declared.outcome.Outcome.TheVariants.{Tree}
use Rattle.ly_feed.proofs.lines.write_ended.Goals as goal

pub returns-in_err-write_term-in-Accepted-clause-beginning :
    goal.returns-in_err-write_term-in-Accepted-clause-beginning
returns-in_err-write_term-in-Accepted-clause-beginning g c written v is said =
    let sink = g.W.Sink in
    let term = subst (λ e. IsVerdictOf c.args.forest.now e v) c.in-Accepted.is said in
    let fault = same_fault c.from_residual.result c.in_err-write_term-in-Accepted.field-0.0 (Write written)
    c.from_residual.ensures.1 is in
    subst (IsCutShort (sink.contents c.args.writer.now) (sink.contents c.write_term.new.writer) written)
    (term_written c.args.form (words_of c.of.result) (vocabulary_of c.args.set.now) term.0 v c.of.ensures term.1)
    (c.in_err-write_term-in-Accepted.ensures.beginning written term.0 (ap Err fault) term.2)

pub returns-in_ok-write_term-in-Accepted-clause-ok : goal.returns-in_ok-write_term-in-Accepted-clause-ok
returns-in_ok-write_term-in-Accepted-clause-ok g c v said =
    let sink = g.W.Sink in
    let term = subst (λ e. IsVerdictOf c.args.forest.now e v) c.in-Accepted.is said in (
      subst (λ x. IsOutcome x Tree) (sym term.1) refl,
      subst (Appends (sink.contents c.args.writer.now) (sink.contents c.write_term.new.writer))
          (term_written c.args.form (words_of c.of.result) (vocabulary_of c.args.set.now) term.0 v c.of.ensures term.1)
          (c.in_ok-write_term-in-Accepted.ensures.ok term.0 term.2),
    )
