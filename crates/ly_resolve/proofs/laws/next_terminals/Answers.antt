use Rattle.ly_resolve.proofs.NextLemmas.{next_continues, one_token_tells, reads_to_one}
use Rattle.ly_resolve.proofs.laws.next_terminals.Goals as goal

pub returns : goal.returns
returns c = record { continues = next_continues; told = one_token_tells; one = reads_to_one }
