use Rattle.lytab_c.proofs.TokenLemmas.{IsWrongFrom}
use Rattle.lytab_c.proofs.parsing_tokens.wrong_token.Given as goal

abbrev pub invariant-loop-index : goal.invariant-loop-index
invariant-loop-index l = IsWrongFrom l.fn.terminals l.fn.count l.index l.tokens
