use Rattle.std.proofs.Common.{◌+◌, ◌∙◌, [], ◌∷◌, ◌++◌, ap, sym}
use Rattle.ly_places.proofs.KeepingLemmas.{one_more_place}
use Rattle.ly_places.proofs.keeping.whole_body.Goals as goal

pub loop-before-preserved : goal.loop-before-preserved
loop-before-preserved c = c.in_ok-push.ensures.items
    ∙ (ap (λ places. places ++ (c.loop-before.before + 1) ∷ []) c.loop-before.invariant
    ∙ sym (one_more_place c.loop-before.before))
