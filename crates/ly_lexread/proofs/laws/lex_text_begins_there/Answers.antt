use Rattle.ly_lexread.proofs.LeftLemmas.{conditions_begin_there, definitions_begin_there, rules_begin_there}
use Rattle.ly_lexread.proofs.laws.lex_text_begins_there.Goals as goal

pub returns-clause-rules : goal.returns-clause-rules
returns-clause-rules c = rules_begin_there

pub returns-clause-definitions : goal.returns-clause-definitions
returns-clause-definitions c = definitions_begin_there

pub returns-clause-conditions : goal.returns-clause-conditions
returns-clause-conditions c = conditions_begin_there
