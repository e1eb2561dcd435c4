use Rattle.std.proofs.Common.{◌∷◌, [], Some, ◌∙◌, sym}
use Rattle.std.proofs.lemmas.Bool.Decides.{Decides-eqb}
use Rattle.std.proofs.lemmas.Slice.Eq.{strip_prefix_is}
use Rattle.ly_base.proofs.GapLemmas.{opened, space_before}
use Rattle.ly_base.proofs.gap.after_space_or_comment.Goals as goal

pub returns-in-Some-clause-these : goal.returns-in-Some-clause-these
returns-in-Some-clause-these c = opened c.args.language c.args.text.now c.in-Some.inside.now c.after_comment.result
    (strip_prefix_is Decides-eqb c.args.text.now (47 ∷ 42 ∷ []) (Some c.in-Some.inside) c.in-Some.ensures.cases)
    c.after_comment.ensures

pub returns-in-Some-split_first-clause-these : goal.returns-in-Some-split_first-clause-these
returns-in-Some-split_first-clause-these c
    = space_before c.args.language c.args.text.now c.in-Some-split_first.first.now c.in-Some-split_first.rest.now
    c.in-Some-split_first.ensures.cases.0 (sym c.is_space.ensures ∙ c.if-is_space.true)
