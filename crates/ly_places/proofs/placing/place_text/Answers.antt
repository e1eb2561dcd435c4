use Rattle.std.proofs.Common.{subst, sym}
use Rattle.ly_drive.proofs.FaultLemmas.{cut_short}
use Rattle.ly_feed.proofs.FaultLemmas.{same_count, same_fault}
use Rattle.ly_feed.specs.Verdict.{IsOutcome}
use Rattle.ly_feed.specs.declared.text_fault.TextFault.TheVariants.{Write}
use Rattle.ly_places.proofs.PlacingLemmas.{some_outcome}
use Rattle.ly_places.proofs.placing.place_text.Goals as goal

pub returns-in_err-write_whole-in-Refused-clause-beginning :
    goal.returns-in_err-write_whole-in-Refused-clause-beginning
returns-in_err-write_whole-in-Refused-clause-beginning g c written is =
    let told = c.in_ok-line-in-Refused.ensures in
    let line = c.in_ok-line-in-Refused.line.items in
    let outcome = some_outcome c.in-Refused.syntax_error in
    let failed = c.in_err-write_whole-in-Refused in
    let count = failed.field-0.0.written in
    let same = same_count count written (same_fault c.from_residual-in_err-write_whole-in-Refused.result
    (Write count) (Write written) c.from_residual-in_err-write_whole-in-Refused.ensures.1 is) in (
      line,
      outcome.0,
      (told.0, told.1, subst (λ v. IsOutcome v outcome.0) (sym told.2) outcome.1, told.3),
      cut_short (g.W.Sink.contents c.args.writer.now) (g.W.Sink.contents c.write_whole.new.writer) count written
          c.deref-in-Refused.result.now line same c.deref-in-Refused.ensures.value failed.ensures.within
          failed.ensures.partial,
    )
