use Rattle.std.proofs.Common.{map, subst, sym}
use Rattle.std.proofs.lemmas.List.{take_all}
use Rattle.ly_lexread.specs.Private.Names.{AreCut, parts_of}
use Rattle.ly_lexread.proofs.NameLemmas.{no_line, parts_more}
use Rattle.ly_lexread.proofs.names.texts_of.Goals as goal

pub loop-line-preserved : goal.loop-line-preserved
loop-line-preserved c = record {
  so_far = subst (λ ds. AreCut ds c.push.new.self)
      (sym (parts_more c.args.lines.now c.loop-line.line-index no_line c.loop-line-test.true))
      (c.in_ok-push.ensures _ c.loop-line.invariant.so_far);
}

pub returns : goal.returns
returns c = subst (λ ls. AreCut (map parts_of ls) c.loop-line.texts)
    (take_all c.loop-line.line-index c.args.lines.now c.loop-line-test.false) c.loop-line.invariant.so_far
