use Rattle.std.proofs.Common.{true}
use Rattle.ly_tests.specs.RowWalk.{rows_ahead}
use Rattle.ly_tests.proofs.walks.found_over.Goals as goal

pub next_lexeme-requires : goal.next_lexeme-requires
next_lexeme-requires c = record {
  known = c.new.ensures (λ number. rows_ahead c.args.walk.now.rows.now number) true c.behind-place.result.rest;
}
