use Rattle.std.proofs.Common.{◌++◌, drop, subst, suc, take}
use Rattle.ly_drive.proofs.FaultLemmas.{handed_on}
use Rattle.ly_drive.proofs.LineLemmas.{rest_of}
use Rattle.ly_drive.specs.Lines.{IsStopped, lines_of}
use Rattle.ly_drive.specs.Private.Lines.{AreTaken}
use Rattle.ly_drive.proofs.lines.Lines.take.Goals as goal

pub returns-in_err-take_byte-clause-taken : goal.returns-in_err-take_byte-clause-taken
returns-in_err-take_byte-clause-taken g c front before h =
    let now = g.W.Sink.contents c.take_byte.new.writer in
    let form = c.args.form in
    let s = c.args.prepared.now in
    let bytes = c.args.bytes.now in
    let lines = c.take_byte.new.self in
    let i = c.loop-byte.byte-index in
    let fault = c.in_err-take_byte.field-0.0 in
    let taken = c.in_err-take_byte.ensures.taken (front ++ take i bytes) before
    (c.loop-byte.invariant.taken front before h) in
    subst (AreTaken form s (front ++ bytes) before now lines.part.items lines.outcome)
    (handed_on c.from_residual.result fault c.from_residual.ensures.1)
    (λ rest. subst (λ l. IsStopped form s (lines_of l) before now fault)
    (rest_of front bytes rest i c.loop-byte-test.true) (taken (drop (suc i) bytes ++ rest)))
