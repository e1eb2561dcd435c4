use Rattle.std.proofs.Common.{◌∙◌, arith}
use Rattle.ly_lexread.specs.Lines.{last, more}
use Rattle.ly_lexread.proofs.LineLemmas.{block_behind}
use Rattle.ly_lexread.proofs.skipped.behind_block.Goals as goal

pub returns-then-closes_block-clause-these : goal.returns-then-closes_block-clause-these
returns-then-closes_block-clause-these c =
    c.loop-line.invariant.sound c.in-Some.behind.bytes.now
    (last c.loop-line.left.bytes.now c.in-Some.line.now c.in-Some.behind.bytes.now c.in-Some.ensures.these
    c.if-closes_block.ensures)

pub returns-then-closes_block-clause-whole : goal.returns-then-closes_block-clause-whole
returns-then-closes_block-clause-whole c = c.in-Some.ensures.whole ∙ c.loop-line.invariant.whole

pub loop-line-preserved : goal.loop-line-preserved
loop-line-preserved c =
    let left = c.loop-line.left.bytes.now in
    let line = c.in-Some.line.now in
    let behind = c.in-Some.behind.bytes.now in
    record {
      sound = λ rest d. c.loop-line.invariant.sound rest
          (more left line behind rest c.in-Some.ensures.these c.if-closes_block.ensures d);
      complete = λ rest d. block_behind left line behind rest c.in-Some.ensures.these c.if-closes_block.ensures
          (c.loop-line.invariant.complete rest d);
      within = omega (arith, c.loop-line.invariant.within, c.in-Some.ensures.shorter);
      whole = c.in-Some.ensures.whole ∙ c.loop-line.invariant.whole;
    }
