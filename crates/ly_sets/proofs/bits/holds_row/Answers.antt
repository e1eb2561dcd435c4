use Rattle.std.proofs.Common.{sym, refl, arith}
use Rattle.ly_sets.proofs.RowLemmas.{row_set-union, row_holds_words}
use Rattle.ly_sets.proofs.bits.holds_row.Goals as goal

pub returns-then-words-of : goal.returns-then-words-of
returns-then-words-of c = (
  λ t. absurd cc,
  λ same. absurd (c.if-words-of.true (row_holds_words c.args.words.now c.args.of c.args.from c.args.len
      (λ k. (c.type_inv.words k).fits) same c.loop-word.word c.loop-word-test.true)),
)

pub returns : goal.returns
returns c = (
  λ t. sym (row_set-union c.args.words.now c.args.words.now c.args.of c.args.from c.args.len
      (λ k lt. sym (c.loop-word.invariant k (omega arith)))),
  λ same. refl,
)
