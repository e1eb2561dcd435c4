use Rattle.std.proofs.Common.{rules}
use Rattle.lytab.proofs.answering.answer_by_tables.Goals as goal

pub returns-in-Err-Tables-clause-refused : goal.returns-in-Err-Tables-clause-refused
returns-in-Err-Tables-clause-refused g c = c.in-Err-Tables.ensures.refused _ (search rules)

pub returns-in-Ok-clause-needed : goal.returns-in-Ok-clause-needed
returns-in-Ok-clause-needed g c = λ s driven. record {
  needed = λ not. c.in-Ok.ensures.needed s driven (search rules);
  asked = λ failed. absurd failed;
}

pub returns-in-Err-Tables-clause-needed : goal.returns-in-Err-Tables-clause-needed
returns-in-Err-Tables-clause-needed g c = λ s driven. record {
  needed = λ not. c.in-Err-Tables.ensures.needed s driven (search rules);
  asked = λ failed. absurd failed;
}

pub returns-in-Err-Text-FaultyTables-clause-needed : goal.returns-in-Err-Text-FaultyTables-clause-needed
returns-in-Err-Text-FaultyTables-clause-needed g c = λ s driven. record {
  needed = λ not. c.in-Err-Text-FaultyTables.ensures.needed s driven (search rules);
  asked = λ failed. absurd failed;
}

pub returns-in-Err-Text-TooLong-clause-needed : goal.returns-in-Err-Text-TooLong-clause-needed
returns-in-Err-Text-TooLong-clause-needed g c = λ s driven. record {
  needed = λ not. c.in-Err-Text-TooLong.ensures.needed s driven (search rules);
  asked = λ failed. absurd failed;
}

pub returns-in-Err-Text-Write-clause-needed : goal.returns-in-Err-Text-Write-clause-needed
returns-in-Err-Text-Write-clause-needed g c = λ s driven. record {
  needed = λ not. c.in-Err-Text-Write.ensures.needed s driven (search rules);
  asked = λ failed. absurd failed;
}

pub returns-in-Err-Text-OutOfMemory-clause-needed : goal.returns-in-Err-Text-OutOfMemory-clause-needed
returns-in-Err-Text-OutOfMemory-clause-needed g c = λ s driven. record {
  needed = λ not. c.in-Err-Text-OutOfMemory.ensures.needed s driven (search rules);
  asked = λ failed. absurd failed;
}

pub returns-in-Err-Text-Read-clause-needed : goal.returns-in-Err-Text-Read-clause-needed
returns-in-Err-Text-Read-clause-needed g c = λ s driven. record {
  needed = λ not. absurd (not tt);
  asked = λ failed. c.in-Err-Text-Read.ensures.asked s driven (search rules);
}
