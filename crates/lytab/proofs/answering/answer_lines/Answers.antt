use Rattle.std.proofs.Common.{ap, inr, rules}
use Rattle.ly_feed.specs.declared.text_fault.TextFault.TheVariants.{FaultyTables, OutOfMemory, Read, TooLong, Write}
use Rattle.lytab.proofs.answering.answer_lines.Goals as goal

pub returns-in-Err-Tables-clause-stopped : goal.returns-in-Err-Tables-clause-stopped
returns-in-Err-Tables-clause-stopped g c =
    let ensures = c.in-Err-Tables.ensures in
    let refused = ensures.refused c.in-Err-Tables.fault (search rules) in
    (refused.0, refused.1, ap g.W.Sink.contents (ensures.unwritten (search rules)))

pub returns-in-Err-Text-FaultyTables-clause-stopped : goal.returns-in-Err-Text-FaultyTables-clause-stopped
returns-in-Err-Text-FaultyTables-clause-stopped g c =
    let ensures = c.in-Err-Text-FaultyTables.ensures in
    let read = ensures.spelled FaultyTables (search rules) (λ no. cc) in
    (read.0, read.1, ensures.stopped read.0 read.1 FaultyTables (search rules))

pub returns-in-Err-Text-TooLong-clause-stopped : goal.returns-in-Err-Text-TooLong-clause-stopped
returns-in-Err-Text-TooLong-clause-stopped g c =
    let ensures = c.in-Err-Text-TooLong.ensures in
    let read = ensures.spelled TooLong (search rules) (λ no. cc) in
    (ensures.long (search rules), (read.0, read.1, ensures.stopped read.0 read.1 TooLong (search rules)))

pub returns-in-Err-Text-Read-clause-stopped : goal.returns-in-Err-Text-Read-clause-stopped
returns-in-Err-Text-Read-clause-stopped g c =
    let ensures = c.in-Err-Text-Read.ensures in
    let read = ensures.spelled Read (search rules) (λ no. cc) in
    inr (read.0, read.1, ensures.stopped read.0 read.1 Read (search rules))

pub returns-in-Err-Text-Write-clause-stopped : goal.returns-in-Err-Text-Write-clause-stopped
returns-in-Err-Text-Write-clause-stopped g c =
    let ensures = c.in-Err-Text-Write.ensures in
    let fault = Write c.in-Err-Text-Write.field-0-0-0 in
    let read = ensures.spelled fault (search rules) (λ no. cc) in
    inr (c.in-Err-Text-Write.field-0-0-0, (read.0, read.1, ensures.stopped read.0 read.1 fault (search rules)))

pub returns-in-Err-Text-OutOfMemory-clause-stopped : goal.returns-in-Err-Text-OutOfMemory-clause-stopped
returns-in-Err-Text-OutOfMemory-clause-stopped g c =
    inr (λ s driven. c.in-Err-Text-OutOfMemory.ensures.stopped s driven OutOfMemory (search rules))
