use Rattle.lytab.proofs.answering.answer_by.Goals as goal

pub returns-in-Tables-clause-beginning : goal.returns-in-Tables-clause-beginning
returns-in-Tables-clause-beginning g c = rw c.in-Tables.is c.answer_by_tables.ensures.beginning

pub returns-in-Both-clause-answered : goal.returns-in-Both-clause-answered
returns-in-Both-clause-answered g c = rw c.in-Both.is c.answer_by_files.ensures.answered

pub returns-in-Both-clause-beginning : goal.returns-in-Both-clause-beginning
returns-in-Both-clause-beginning g c = rw c.in-Both.is c.answer_by_files.ensures.beginning

pub returns-in-Both-clause-needed : goal.returns-in-Both-clause-needed
returns-in-Both-clause-needed g c = record {
  unread = c.answer_by_files.ensures.unread;
  needed = rw c.in-Both.is c.answer_by_files.ensures.needed;
}

pub returns-in-Lines-clause-answered : goal.returns-in-Lines-clause-answered
returns-in-Lines-clause-answered g c = rw c.in-Lines.is c.answer_lines.ensures.answered

pub returns-in-Lines-clause-stopped : goal.returns-in-Lines-clause-stopped
returns-in-Lines-clause-stopped g c = rw c.in-Lines.is c.answer_lines.ensures.stopped

pub returns-in-Lines-clause-read : goal.returns-in-Lines-clause-read
returns-in-Lines-clause-read g c = rw c.in-Lines.is c.answer_lines.ensures.read

pub returns-in-TableTokens-clause-beginning : goal.returns-in-TableTokens-clause-beginning
returns-in-TableTokens-clause-beginning g c = rw c.in-TableTokens.is c.print_table_tokens.ensures.beginning

pub returns-in-TablesPlaced-clause-beginning : goal.returns-in-TablesPlaced-clause-beginning
returns-in-TablesPlaced-clause-beginning g c = rw c.in-TablesPlaced.is c.place_by_tables.ensures.beginning

pub returns-in-BothPlaced-clause-answered : goal.returns-in-BothPlaced-clause-answered
returns-in-BothPlaced-clause-answered g c = rw c.in-BothPlaced.is c.place_by_files.ensures.answered

pub returns-in-BothPlaced-clause-beginning : goal.returns-in-BothPlaced-clause-beginning
returns-in-BothPlaced-clause-beginning g c = rw c.in-BothPlaced.is c.place_by_files.ensures.beginning
