use Rattle.std.proofs.Common.{◌-◌, ◌∙◌, sym, length, Some, take, drop, arith}
use Rattle.std.proofs.lemmas.Bool.Decides.{Decides-eqb}
use Rattle.std.proofs.lemmas.List.{take_rest}
use Rattle.std.proofs.lemmas.Slice.Eq.{strip_prefix_is}
use Rattle.ly_base.proofs.GapLemmas.{at_none, end_behind, first_end}
use Rattle.ly_base.proofs.gap.after_end.Goals as goal

pub returns-in-Some : goal.returns-in-Some
returns-in-Some c =
    let inside = c.args.inside.now in
    let end = c.args.end.now in
    let n = c.loop-at.at in
    first_end end inside c.in-Some.rest.now n c.requires.some (omega arith) c.loop-at.invariant
    (sym (take_rest inside n)
    ∙ strip_prefix_is Decides-eqb (take (length inside - n) (drop n inside)) end
    (Some c.in-Some.rest) c.in-Some.ensures.cases)

pub loop-at-preserved : goal.loop-at-preserved
loop-at-preserved c =
    let inside = c.args.inside.now in
    let end = c.args.end.now in
    let n = c.loop-at.at in
    end_behind end inside n
    (λ rest e. at_none c.strip_prefix.result _ _ c.in_default.not-Some
    (strip_prefix_is Decides-eqb (take (length inside - n) (drop n inside)) end c.strip_prefix.result
    c.strip_prefix.ensures.cases) rest (take_rest inside n ∙ e)) c.loop-at.invariant
