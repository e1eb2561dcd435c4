use Rattle.std.proofs.Common.{inr, refl, rules}
use Rattle.lytab.proofs.TextLemmas.{unfailed}
use Rattle.lytab.proofs.answering.answer_by_files.Goals as goal

pub returns-in-Err-Gen-clause-refused : goal.returns-in-Err-Gen-clause-refused
returns-in-Err-Gen-clause-refused g c =
    let refused = c.in-Err-Gen.ensures.refused _ (search rules) in
    rw c.of_files.ensures (refused.0, refused.1, refl)

pub returns-in-Ok-clause-needed : goal.returns-in-Ok-clause-needed
returns-in-Ok-clause-needed g c =
    unfailed (λ failed. failed) (c.in-Ok.ensures.needed (search rules))

pub returns-in-Err-Gen-clause-needed : goal.returns-in-Err-Gen-clause-needed
returns-in-Err-Gen-clause-needed g c =
    rw c.of_files.ensures (unfailed (λ failed. failed) (c.in-Err-Gen.ensures.needed (search rules)))

pub returns-in-Err-Text-FaultyTables-clause-needed : goal.returns-in-Err-Text-FaultyTables-clause-needed
returns-in-Err-Text-FaultyTables-clause-needed g c =
    unfailed (λ failed. failed) (c.in-Err-Text-FaultyTables.ensures.needed (search rules))

pub returns-in-Err-Text-TooLong-clause-needed : goal.returns-in-Err-Text-TooLong-clause-needed
returns-in-Err-Text-TooLong-clause-needed g c =
    unfailed (λ failed. failed) (c.in-Err-Text-TooLong.ensures.needed (search rules))

pub returns-in-Err-Text-Write-clause-needed : goal.returns-in-Err-Text-Write-clause-needed
returns-in-Err-Text-Write-clause-needed g c =
    unfailed (λ failed. failed) (c.in-Err-Text-Write.ensures.needed (search rules))

pub returns-in-Err-Text-OutOfMemory-clause-needed : goal.returns-in-Err-Text-OutOfMemory-clause-needed
returns-in-Err-Text-OutOfMemory-clause-needed g c =
    unfailed (λ failed. failed) (c.in-Err-Text-OutOfMemory.ensures.needed (search rules))

pub returns-in-Err-Text-Read-clause-needed : goal.returns-in-Err-Text-Read-clause-needed
returns-in-Err-Text-Read-clause-needed g c =
    let asked = c.in-Err-Text-Read.ensures.asked (search rules) in
    inr (asked.0, asked.1, record { needed = λ not. absurd (not tt); asked = λ failed. asked.2 })

pub returns-in-Err-Text-FaultyTables-clause-refused : goal.returns-in-Err-Text-FaultyTables-clause-refused
returns-in-Err-Text-FaultyTables-clause-refused g c = c.in-Err-Text-FaultyTables.ensures.never_faulty (search rules)
